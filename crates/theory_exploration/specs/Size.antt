-- How many things have a property: the length of a list that has each of them once and nothing else.
use Rattle.std.specs.Prelude.{◌≡◌, List, ℕ, length}
use Rattle.theory_exploration.specs.Mem.{Mem, Distinct}

pub record Size {A : Type 0} (P : A → Type 0) (k : ℕ) : Type 0 where
  pub members : List A
  pub distinct : Distinct members
  pub only : (x : A) → Mem x members → P x
  pub each : (x : A) → P x → Mem x members
  pub count : length members ≡ k
