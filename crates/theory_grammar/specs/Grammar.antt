-- The grammar of expressions (document 02, change 6), and how far a text outside it agrees with some text of it.
use Rattle.std.specs.Prelude.{◌≡◌, List, [], ◌∷◌, ◌++◌, ℕ, ◌≤◌, ◌<◌, length, take}
use Rattle.theory_model.specs.Laws.Decimals.{Decimal}
use Rattle.theory_grammar.specs.Tree.{Tree, letter, empty, sequence, either, star}

-- byte 32, any number of times
pub data Spaces : List ℕ → Type 0 where
  none : Spaces []
  space : {u : List ℕ} → Spaces u → Spaces (32 ∷ u)

abbrev pub Digit : ℕ → Type 0
Digit b = (48 ≤ b) × (b ≤ 57)

abbrev pub BeginsWithDigit : List ℕ → Type 0
BeginsWithDigit [] = ⊥
BeginsWithDigit (b ∷ u) = Digit b

abbrev pub EndsInDigit : List ℕ → Type 0
EndsInDigit [] = ⊥
EndsInDigit (b ∷ []) = Digit b
EndsInDigit (b ∷ (c ∷ u)) = EndsInDigit (c ∷ u)

-- side by side they do not make one run of digits: a whole run is one number
abbrev pub Apart : List ℕ → List ℕ → Type 0
Apart u v = EndsInDigit u → BeginsWithDigit v → ⊥

-- what a text may be: a number or a group, one of these with or without its star, items side by side, alternatives with | between
pub data Kind : Type 0 where
  factor : Kind
  item : Kind
  alternative : Kind
  alternatives : Kind

-- each sign takes the spaces behind it
pub data Spells : Kind → List ℕ → Tree → Type 0 where
  number : {n : ℕ} {u w : List ℕ} → Decimal n u → Spaces w → Spells factor (u ++ w) (letter n)
  group : {u v w : List ℕ} {t : Tree} → Spaces v → Spells alternatives u t → Spaces w
      → Spells factor (40 ∷ (v ++ (u ++ (41 ∷ w)))) t
  plain : {u : List ℕ} {t : Tree} → Spells factor u t → Spells item u t
  starred : {u w : List ℕ} {t : Tree} → Spells factor u t → Spaces w → Spells item (u ++ (42 ∷ w)) (star t)
  end : Spells alternative [] empty
  next : {u v : List ℕ} {x r : Tree} → Spells item u x → Apart u v → Spells alternative v r
      → Spells alternative (u ++ v) (sequence x r)
  last : {u : List ℕ} {a : Tree} → Spells alternative u a → Spells alternatives u a
  or : {u v w : List ℕ} {a r : Tree} → Spells alternative u a → Spaces v → Spells alternatives w r
      → Spells alternatives (u ++ (124 ∷ (v ++ w))) (either a r)

-- THE TEXT spells the tree
pub record Text (s : List ℕ) (t : Tree) : Type 0 where
  pub front : List ℕ
  pub rest : List ℕ
  pub whole : s ≡ front ++ rest
  pub spaces : Spaces front
  pub spelled : Spells alternatives rest t

-- some text of the grammar, of any length and depth, begins so
pub record Begins (u : List ℕ) : Type 0 where
  pub rest : List ℕ
  pub tree : Tree
  pub text : Text (u ++ rest) tree

-- THE PLACE of a text outside the grammar: the length of its longest beginning that some text of the grammar shares
pub record Outside (s : List ℕ) (p : ℕ) : Type 0 where
  pub within : p ≤ length s
  pub shared : Begins (take p s)
  pub longest : (q : ℕ) → p < q → q ≤ length s → Begins (take q s) → ⊥
  pub spells_none : (t : Tree) → Text s t → ⊥
