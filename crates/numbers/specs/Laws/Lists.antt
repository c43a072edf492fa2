-- Runs of stores into a list.
use Rattle.std.specs.Prelude.{◌≡◌, List, [], ◌∷◌, ◌++◌, ℕ, suc, ◌+◌, length, set}
use Rattle.std.proofs.Common.{sym, ap, ◌∙◌, add-zero, add-suc, suc-add}
use Rattle.std.proofs.lemmas.List.Edits.{sets}

pub sets_append : (l : List ℕ) (i : ℕ) (u v : List ℕ) → sets (sets l i u) (i + length u) v ≡ sets l i (u ++ v)
sets_append l i [] v = ap (λ (k : ℕ). sets l k v) (add-zero i)
sets_append l i (a ∷ u) v =
    ap (λ (k : ℕ). sets (sets (set l i a) (suc i) u) k v) (add-suc i (length u) ∙ sym (suc-add i (length u)))
    ∙ sets_append (set l i a) (suc i) u v
