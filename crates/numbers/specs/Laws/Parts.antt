-- Laws of parts: a part that was read went through every test on its way. And the step of a loop that counts up.
use Rattle.std.specs.Prelude.{ℕ, suc, ◌+◌, ◌-◌, ◌<◌, ◌≡◌, refl, Bool, true, false, Result, Ok, Err, IsErrAnd}
use Rattle.std.proofs.Common.{arith}
use Rattle.numbers.specs.Part.{Part, got, refused, provided, and_then}
use Rattle.numbers.specs.Said.{number_of, place_of, said, said_with}
use Rattle.numbers.specs.declared.refusal.Refusal.{Refusal}

module _ {A : Type 0} where
  -- what was read is no refusal
  pub not_refused : {x : A} {n k p : ℕ} → refused k p ≡ got x n → ⊥
  not_refused e = let z : ◌≡◌ {A = ℕ} 0 1 = cc in omega arith

  pub provided_got : (b : Bool) (k p : ℕ) (x : Part A) {y : A} {n : ℕ}
      → provided b k p x ≡ got y n → (b ≡ true) × (x ≡ got y n)
  provided_got true k p x e = (refl, e)
  provided_got false k p x e = absurd (not_refused e)

  pub same_value : {x y : A} {m n : ℕ} → got x m ≡ got y n → x ≡ y
  same_value e = cc

  pub same_place_lem : {x y : A} {m n : ℕ} → got x m ≡ got y n → m ≡ n
  same_place_lem e = cc

module _ {A B : Type 0} where
  -- the first part was read, and what follows it too
  pub record Through (x : Part A) (f : A → ℕ → Part B) (y : B) (n : ℕ) : Type 0 where
    pub value : A
    pub place : ℕ
    pub first : x ≡ got value place
    pub then : f value place ≡ got y n

  pub and_then_got : (x : Part A) {f : A → ℕ → Part B} {y : B} {n : ℕ} → and_then x f ≡ got y n → Through x f y n
  and_then_got (got v p) e = record { value = v; place = p; first = refl; then = e }
  and_then_got (refused k p) e = absurd (not_refused e)

-- the loop counts up, the definition counts what is left
pub one_more_lem : {i n : ℕ} → i < n → n - i ≡ suc (n - (i + 1))
one_more_lem h = omega arith

-- a refusal that `?` hands on
module _ {A : Type 0} where
  pub handed_on : (r : Result A Refusal) (place : ℕ) (why : Refusal) → IsErrAnd r (λ e. e ≡ why)
      → said r place ≡ refused (number_of why) (place_of why)
  handed_on (Err e) place why h = rw h
  handed_on (Ok x) place why h = absurd h

module _ {A B : Type 0} where
  pub handed_on_with : (r : Result A Refusal) (place : ℕ) (f : A → B) (why : Refusal) → IsErrAnd r (λ e. e ≡ why)
      → said_with f r place ≡ refused (number_of why) (place_of why)
  handed_on_with (Err e) place f why h = rw h
  handed_on_with (Ok x) place f why h = absurd h

-- what was filled goes into the struct around it
module _ {V A B : Type 0} where
  pub said_into : (r : Result V Refusal) (place : ℕ) (f : V → A) (g : A → B) {y : Part A}
      → said_with f r place ≡ y → said_with (λ v. g (f v)) r place ≡ and_then y (λ z n. got (g z) n)
  said_into (Ok v) place f g e = rw (← e)
  said_into (Err why) place f g e = rw (← e)

module _ {A B C : Type 0} where
  -- parts in a row group either way
  pub and_then_assoc : (x : Part A) (f : A → ℕ → Part B) (g : B → ℕ → Part C)
      → and_then (and_then x f) g ≡ and_then x (λ v n. and_then (f v n) g)
  and_then_assoc (got v n) f g = refl
  and_then_assoc (refused k p) f g = refl

module _ {A B : Type 0} where
  -- what follows a part may be put in other words
  pub and_then_same : (x : Part A) (f g : A → ℕ → Part B) → ((v : A) (n : ℕ) → f v n ≡ g v n) → and_then x f ≡ and_then x g
  and_then_same (got v n) f g h = h v n
  and_then_same (refused k p) f g h = refl
