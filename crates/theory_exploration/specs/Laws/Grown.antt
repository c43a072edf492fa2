-- Nodes that go to the end of those found, one by one or several at once.
use Rattle.std.specs.Prelude.{ℕ, ◌≡◌, refl, Bool, true, false, List, [], ◌∷◌, ◌++◌, eqb}
use Rattle.std.proofs.Common.{sym, ap, ◌∙◌, append-nil}
use Rattle.std.proofs.Math.Seq.{append_snoc}
use Rattle.theory_exploration.specs.Explore.{fresh}
use Rattle.theory_exploration.specs.Marks.{mem}
use Rattle.theory_exploration.specs.Laws.Fresh.{fresh_old, fresh_new}
use Rattle.theory_exploration.specs.Growing.{grown}

pub grown_none : (L : List ℕ) → grown L [] ≡ L
unfolding fresh
grown_none L = append-nil L

-- a node that is there, and one that is not
pub grown_old : (L : List ℕ) (c : ℕ) (cs : List ℕ) → mem c L ≡ true → grown L (c ∷ cs) ≡ grown L cs
grown_old L c cs t = ap (λ l. L ++ l) (fresh_old (λ k. k) eqb L c cs t)

pub grown_new : (L : List ℕ) (c : ℕ) (cs : List ℕ) → mem c L ≡ false → grown L (c ∷ cs) ≡ grown (L ++ (c ∷ [])) cs
grown_new L c cs t =
    ap (λ l. L ++ l) (fresh_new (λ k. k) eqb L c cs t) ∙ sym (append_snoc L c (fresh (λ k. k) eqb (L ++ (c ∷ [])) cs))

-- ONE AFTER THE OTHER
pub grown_more : (L : List ℕ) (c : ℕ) (cs : List ℕ) → grown L (c ∷ cs) ≡ grown (grown L (c ∷ [])) cs
grown_more L c cs = by_test (mem c L) refl
  where
    by_test : (b : Bool) → mem c L ≡ b → grown L (c ∷ cs) ≡ grown (grown L (c ∷ [])) cs
    by_test true t = grown_old L c cs t ∙ ap (λ l. grown l cs) (sym (grown_old L c [] t ∙ grown_none L))
    by_test false t = grown_new L c cs t ∙ ap (λ l. grown l cs) (sym (grown_new L c [] t ∙ grown_none (L ++ (c ∷ []))))

pub grown_append : (L a b : List ℕ) → grown L (a ++ b) ≡ grown (grown L a) b
grown_append L [] b = ap (λ l. grown l b) (sym (grown_none L))
grown_append L (c ∷ a) b =
    grown_more L c (a ++ b) ∙ grown_append (grown L (c ∷ [])) a b ∙ ap (λ l. grown l b) (sym (grown_more L c a))
