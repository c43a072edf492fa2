-- The sets that words end on, said by the rules of the language alone.
use Rattle.std.specs.Prelude.{◌≡◌, List, [], ◌∷◌, ◌++◌, map, ℕ, get_or}
use Rattle.theory_grammar.specs.Tree.{Tree, Marked, letters}

-- a word CAN END ON an occurrence: some word of the tree, occurrence by occurrence, begins with the word, whose last is that one
pub record EndsOn (t : Tree) (w : List ℕ) (p : ℕ) : Type 0 where
  pub before : List ℕ
  pub behind : List ℕ
  pub marked : Marked t 0 (before ++ (p ∷ behind))
  pub spelled : map (λ (q : ℕ). get_or (letters t) q 0) (before ++ (p ∷ [])) ≡ w
