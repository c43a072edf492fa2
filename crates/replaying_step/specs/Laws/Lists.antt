-- What holds of each entry of a list holds of each with one entry set.
use Rattle.std.specs.Prelude.{ℕ, ◌<◌, ◌≡◌, List, eqb, length, get_or, set}
use Rattle.std.proofs.Common.{sym, subst, get_or-set_same, get_or-set_other, eqb-true}
use Rattle.std.proofs.lemmas.Bool.{eqb-false}
use Rattle.theory_model.specs.Laws.Basics.{by_test}

pub each_of_set : (P : ℕ → ℕ → Type 0) (l : List ℕ) (k v : ℕ) → k < length l → P k v → ((i : ℕ) → (i ≡ k → ⊥) → P i (get_or l i 0))
    → (i : ℕ) → P i (get_or (set l k v) i 0)
each_of_set P l k v h here other i =
    by_test (eqb i k)
    (λ t.
    let e = eqb-true i k t in
    subst (λ j. P j (get_or (set l k v) j 0)) (sym e) (subst (P k) (sym (get_or-set_same l k v 0 h)) here))
    (λ f.
    let n = eqb-false i k f in
    subst (P i) (sym (get_or-set_other l k i v 0 n)) (other i n))
