-- What waits at the start: nothing of it is put where nothing waits.
use Rattle.std.specs.Prelude.{ℕ, ◌≤◌, ◌≡◌, refl, Bool, true, false, List, []}
use Rattle.std.proofs.Common.{sym, add-zero, arith}
use Rattle.std.proofs.Math.Path.{ap}
use Rattle.std.proofs.Math.Bool.{cond}
use Rattle.tables.specs.Starting.{waits}
use Rattle.tables.specs.declared.tables.Queues.{Queues}
use Rattle.numbers.specs.Put.{Put}
use Rattle.theory_format.specs.Spelled.{contents}
use Rattle.writing_fields.specs.Parts.{waiting}
use Rattle.writing_fields.specs.Laws.Texts.{put_as, put_wider}

put_nothing : (s : List ℕ) (at most : ℕ) → Put s at most [] s at
put_nothing s at most = record { buffer = refl; next = sym (add-zero at); within = omega arith }

module _ (q : Queues) where
  waiting_is : {b : Bool} → waits q.lengths ≡ b → cond b (contents q) [] ≡ waiting q
  unfolding waiting
  waiting_is e = ap (λ (c : Bool). cond c (contents q) []) (sym e)

  pub waiting_none : (s : List ℕ) (at most : ℕ) → waits q.lengths ≡ false → Put s at most (waiting q) s at
  waiting_none s at most e = put_as (waiting_is e) (put_nothing s at most)

  pub waiting_some : {entry exit : List ℕ} {at m r : ℕ} (most : ℕ) → waits q.lengths ≡ true → Put entry at m (contents q) exit r → m ≤ most
      → Put entry at most (waiting q) exit r
  waiting_some most e w h = put_wider most (put_as (waiting_is e) w) h
