-- Small things about tests and options that the other files use.
use Rattle.std.specs.Prelude.{◌≡◌, refl, Bool, true, false, ◌&&◌}
use Rattle.std.proofs.Common.{sym, ap, ◌∙◌}
use Rattle.std.proofs.lemmas.Bool.{false≢true}
use Rattle.std.proofs.Math.Option.{Option, none, some, none-ne-some}

pub by_test {ℓ} : {X : Type ℓ} (b : Bool) → (b ≡ true → X) → (b ≡ false → X) → X
by_test true t f = t refl
by_test false t f = f refl

pub none_not_some : {A X : Type 0} {o : Option A} {x : A} → o ≡ none → o ≡ some x → X
none_not_some {x = x} n s = absurd (none-ne-some x (sym n ∙ s))

pub false_not_true : {X : Type 0} {b : Bool} → b ≡ false → b ≡ true → X
false_not_true f t = absurd (false≢true (sym f ∙ t))

pub and_is : (a b : Bool) → (a && b) ≡ true → (a ≡ true) × (b ≡ true)
and_is true b e = (refl, e)
and_is false b e = false_not_true refl e

pub is_and : (a b : Bool) → a ≡ true → b ≡ true → (a && b) ≡ true
is_and a b e f = ap (λ c. c && b) e ∙ f
