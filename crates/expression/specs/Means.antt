-- What the reply to a text means, with no parse, no pass and no search in it.
use Rattle.std.specs.Prelude.{◌≡◌, ◌↔◌, ◌⊎◌, true, List, [], ◌∷◌, ℕ, ◌≤◌, ◌<◌, length}
use Rattle.std.proofs.Math.Option.{none, some}
use Rattle.theory_exploration.specs.Order.{Shortlex, AtMost}
use Rattle.theory_exploration.specs.Size.{Size}
use Rattle.theory_model.specs.Diagram.{Pool, follow, accepts}
use Rattle.tables.specs.Limits.{most_messages, most_pool}
use Rattle.tables.specs.Valid.{PoolValid}
use Rattle.tables.specs.declared.tables.Pool as Declared
use Rattle.theory_tables.specs.Pool.{pool_of}
use Rattle.theory_grammar.specs.Tree.{Tree, Word}
use Rattle.theory_grammar.specs.Grammar.{Text, Outside}
use Rattle.theory_grammar.specs.Offends.{Offends, Leftmost}
use Rattle.theory_occurrences.specs.Sets.{has}
use Rattle.theory_occurrences.specs.EndsOn.{EndsOn}
use Rattle.expression.specs.Expression.{root, most_text, turned_away, expression}
use Rattle.numbers.specs.Refusals.{text_too_long, outside_grammar, too_many_states}

-- a pool and its root, which is state 0
abbrev pub Draws : List ℕ → Declared.Pool → Type 0
Draws s P = expression s ≡ record { reply = root 0; pool = P }

-- THE POOL HAS JUST THE LANGUAGE of every tree that the text spells
abbrev pub JustTheLanguage : Type 0
JustTheLanguage = (s : List ℕ) (P : Declared.Pool) → Draws s P → (t : Tree) → Text s t
    → (w : List ℕ) → (accepts (pool_of P) (some 0) w ≡ true) ↔ Word t w

-- and there is one tree that it spells
pub record OneTree (s : List ℕ) : Type 0 where
  pub tree : Tree
  pub text : Text s tree
  pub only : (t : Tree) → Text s t → t ≡ tree

-- 18: too long
abbrev pub TooLong : Type 0
TooLong = (s : List ℕ) → (expression s ≡ turned_away text_too_long most_text) ↔ (most_text < length s)

-- 19: outside the grammar, at the longest beginning that some text of the grammar shares
abbrev pub OutsideIs : Type 0
OutsideIs = (s : List ℕ) → length s ≤ most_text → (p : ℕ) → (expression s ≡ turned_away outside_grammar p) ↔ Outside s p

-- 5, 20 and 21: the leftmost offender of a text of the grammar
abbrev pub LeftmostIs : Type 0
LeftmostIs = (s : List ℕ) → length s ≤ most_text → (t : Tree) → Text s t
    → (k p : ℕ) → (k ≡ 22 → ⊥) → (expression s ≡ turned_away k p) ↔ Leftmost s k p

-- THE STATES: the start, which is 0, and the sets that are not empty of the occurrences that some word can end on
pub record EndSet (t : Tree) (x : ℕ) : Type 0 where
  pub message : ℕ
  pub rest : List ℕ
  pub some_occurrence : (p : ℕ) × EndsOn t (message ∷ rest) p
  pub members : (p : ℕ) → (has x p ≡ true) ↔ EndsOn t (message ∷ rest) p

abbrev pub StateOf : Tree → ℕ → Type 0
StateOf t x = (x ≡ 0) ⊎ EndSet t x

-- 22: more of them than a diagram may have
abbrev pub TooManyStates : Type 0
TooManyStates = (s : List ℕ) → length s ≤ most_text → (t : Tree) → Text s t → ((k p : ℕ) → Offends s k p → ⊥)
    → (expression s ≡ turned_away too_many_states 0) ↔ ((n : ℕ) × Size (StateOf t) n × (most_pool < n))

-- else there is a pool, with a state for each of them
abbrev pub DrawnElse : Type 0
DrawnElse = (s : List ℕ) → length s ≤ most_text → (t : Tree) → Text s t → ((k p : ℕ) → Offends s k p → ⊥)
    → (n : ℕ) → Size (StateOf t) n → n ≤ most_pool → (P : Declared.Pool) × Draws s P × (P.count ≡ n)

-- THE NUMBERING: each state by its shortest, lowest word
pub record Numbered (t : Tree) (P : Pool) : Type 0 where
  pub word : ℕ → List ℕ
  pub leads : (i : ℕ) → i < P.states → follow P (some 0) (word i) ≡ some i
  pub least : (i : ℕ) → i < P.states → (w : List ℕ) → follow P (some 0) w ≡ some i → AtMost (word i) w
  pub ascend : (i j : ℕ) → i < j → j < P.states → Shortlex (word i) (word j)
  pub below : (w : List ℕ) (i : ℕ) → follow P (some 0) w ≡ some i → i < P.states
  -- the start is reached by the empty word alone
  pub start : (w : List ℕ) → follow P (some 0) w ≡ some 0 → w ≡ []
  -- a word that leads nowhere ends on no occurrence, another on some
  pub nowhere : (w : List ℕ) → follow P (some 0) w ≡ none → (p : ℕ) → EndsOn t w p → ⊥
  pub somewhere : (m : ℕ) (w : List ℕ) (i : ℕ) → follow P (some 0) (m ∷ w) ≡ some i → (p : ℕ) × EndsOn t (m ∷ w) p
  -- two words lead to one state exactly if they end on the same occurrences
  pub same_set : (m n : ℕ) (u v : List ℕ) (i j : ℕ) → follow P (some 0) (m ∷ u) ≡ some i → follow P (some 0) (n ∷ v) ≡ some j
      → (i ≡ j) ↔ ((p : ℕ) → EndsOn t (m ∷ u) p ↔ EndsOn t (n ∷ v) p)

abbrev pub NumberedSo : Type 0
NumberedSo = (s : List ℕ) (P : Declared.Pool) → Draws s P → (t : Tree) → Text s t → Numbered t (pool_of P)

-- THE TABLES are those of a pool over 32 messages, entries beyond the count being 0
abbrev pub ValidSo : Type 0
ValidSo = (s : List ℕ) (P : Declared.Pool) → Draws s P → PoolValid most_messages P
