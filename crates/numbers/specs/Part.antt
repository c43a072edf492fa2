-- What reading a part of a file gives, and how one part follows another.
use Rattle.std.specs.Prelude.{ℕ, Bool, true, false}

-- what was read and the place after it, or a refusal: its number in document 01 and its place
pub data Part (A : Type 0) : Type 0 where
  got : A → ℕ → Part A
  refused : ℕ → ℕ → Part A

module _ {A : Type 0} where
  -- the part, if the test holds; else refusal k at place p
  abbrev pub provided : Bool → ℕ → ℕ → Part A → Part A
  provided true k p x = x
  provided false k p x = refused k p

module _ {A B : Type 0} where
  -- go on from what was read, or hand the refusal on
  abbrev pub and_then : Part A → (A → ℕ → Part B) → Part B
  and_then (got x next) f = f x next
  and_then (refused k p) f = refused k p
