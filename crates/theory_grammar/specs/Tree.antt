-- The syntax tree of an expression and its language, by rules on words; the same rules over the occurrences of its messages.
use Rattle.std.specs.Prelude.{List, [], ◌∷◌, ◌++◌, ℕ, ◌+◌}

pub data Tree : Type 0 where
  -- a message
  letter : ℕ → Tree
  -- an alternative with no items, or the end of one
  empty : Tree
  sequence : Tree → Tree → Tree
  either : Tree → Tree → Tree
  star : Tree → Tree

-- THE LANGUAGE of a tree
pub data Word : Tree → List ℕ → Type 0 where
  one : {m : ℕ} → Word (letter m) (m ∷ [])
  none : Word empty []
  join : {a b : Tree} {u v : List ℕ} → Word a u → Word b v → Word (sequence a b) (u ++ v)
  former : {a b : Tree} {u : List ℕ} → Word a u → Word (either a b) u
  latter : {a b : Tree} {u : List ℕ} → Word b u → Word (either a b) u
  stop : {a : Tree} → Word (star a) []
  again : {a : Tree} {u v : List ℕ} → Word a u → Word (star a) v → Word (star a) (u ++ v)

-- the messages from left to right: an occurrence is a place in this list
abbrev pub letters : Tree → List ℕ
letters (letter m) = m ∷ []
letters empty = []
letters (sequence a b) = letters a ++ letters b
letters (either a b) = letters a ++ letters b
letters (star a) = letters a

-- how many there are
abbrev pub size : Tree → ℕ
size (letter m) = 1
size empty = 0
size (sequence a b) = size a + size b
size (either a b) = size a + size b
size (star a) = size a

-- the rules of the language, over the occurrences of the tree, which are numbered from k on
pub data Marked : Tree → ℕ → List ℕ → Type 0 where
  one : {m k : ℕ} → Marked (letter m) k (k ∷ [])
  none : {k : ℕ} → Marked empty k []
  join : {a b : Tree} {k : ℕ} {u v : List ℕ} → Marked a k u → Marked b (k + size a) v → Marked (sequence a b) k (u ++ v)
  former : {a b : Tree} {k : ℕ} {u : List ℕ} → Marked a k u → Marked (either a b) k u
  latter : {a b : Tree} {k : ℕ} {u : List ℕ} → Marked b (k + size a) u → Marked (either a b) k u
  stop : {a : Tree} {k : ℕ} → Marked (star a) k []
  again : {a : Tree} {k : ℕ} {u v : List ℕ} → Marked a k u → Marked (star a) k v → Marked (star a) k (u ++ v)
