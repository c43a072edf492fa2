-- What may begin a tree's words, what may end them and what may follow what (Glushkov), by recursion on the tree. Its occurrences are
-- numbered from k on.
use Rattle.std.specs.Prelude.{Bool, true, false, cond, not, ◌&&◌, ◌||◌, List, ℕ, ◌+◌, ltb, eqb, replicate}
use Rattle.std.proofs.Math.Option.{Option, none, some}
use Rattle.theory_grammar.specs.Tree.{Tree, letter, empty, sequence, either, star, size}
use Rattle.theory_grammar.specs.Offends.{most_occurrences, message_limit}
use Rattle.theory_occurrences.specs.Sets.{joined, meet, only, put, link, gather, marked}

-- is the empty word one of its words?
abbrev pub skips : Tree → Bool
skips (letter m) = false
skips empty = true
skips (sequence a b) = skips a && skips b
skips (either a b) = skips a || skips b
skips (star a) = true

abbrev pub first : Tree → ℕ → ℕ
first (letter m) k = only k
first empty k = 0
first (sequence a b) k = joined (first a k) (cond (skips a) (first b (k + size a)) 0)
first (either a b) k = joined (first a k) (first b (k + size a))
first (star a) k = first a k

abbrev pub last : Tree → ℕ → ℕ
last (letter m) k = only k
last empty k = 0
last (sequence a b) k = joined (last b (k + size a)) (cond (skips b) (last a k) 0)
last (either a b) k = joined (last a k) (last b (k + size a))
last (star a) k = last a k

-- THE TABLE of what may follow each occurrence
abbrev pub follows : Tree → ℕ → List ℕ → List ℕ
follows (letter m) k F = F
follows empty k F = F
follows (sequence a b) k F = link (last a k) (first b (k + size a)) (follows b (k + size a) (follows a k F))
follows (either a b) k F = follows b (k + size a) (follows a k F)
follows (star a) k F = link (last a k) (first a k) (follows a k F)

-- a message; 32 stands for every number that is none
abbrev pub clip : ℕ → ℕ
clip n = cond (ltb n message_limit) n message_limit

-- THE TABLE of each occurrence's message
abbrev pub labels : Tree → ℕ → List ℕ → List ℕ
labels (letter m) k L = put k (clip m) L
labels empty k L = L
labels (sequence a b) k L = labels b (k + size a) (labels a k L)
labels (either a b) k L = labels b (k + size a) (labels a k L)
labels (star a) k L = labels a k L

-- all that the states are made of
pub record Automaton : Type 0 where
  pub skips : Bool
  pub first : ℕ
  pub last : ℕ
  pub follow : List ℕ
  pub label : List ℕ

abbrev pub automaton : Tree → Automaton
automaton t =
    record {
      skips = skips t;
      first = first t 0;
      last = last t 0;
      follow = follows t 0 (replicate most_occurrences 0);
      label = labels t 0 (replicate most_occurrences 0);
    }

-- what may come next: at the start, which is 0, what may begin a word; at a set, what may follow one of its occurrences
abbrev pub next_set : Automaton → ℕ → ℕ
next_set A x = cond (eqb x 0) A.first (gather x A.follow)

-- the set that a message leads to from the start or a set; empty where it leads nowhere
abbrev pub after : Automaton → ℕ → ℕ → ℕ
after A x m = meet (next_set A x) (marked m A.label)

abbrev pub move : Automaton → ℕ → ℕ → Option ℕ
move A x m = cond (eqb (after A x m) 0) none (some (after A x m))

-- may a word end there?
abbrev pub ends : Automaton → ℕ → Bool
ends A x = cond (eqb x 0) A.skips (not (eqb (meet x A.last) 0))
