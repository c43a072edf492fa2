-- The contracts of parsing. What reading a part answers is said by what the parse does there, from any state that it may be in: so many groups
-- open, so many alternatives and items done.
use Rattle.std.specs.Prelude.{◌≡◌, Bool, true, false, cond, ◌&&◌, ◌||◌, List, [], ◌∷◌, ℕ, ◌+◌, ◌-◌, ◌≤◌, ◌<◌, ltb, leb, eqb, length, get_or, drop, Result, Ok, Err}
use Rattle.theory_grammar.specs.Tree.{Tree, empty, size}
use Rattle.theory_grammar.specs.Parse.{is_digit, Frame, State, state, fresh, item, chain, choice, Parsed, parsed, stuck, run, parse}
use Rattle.theory_occurrences.specs.Sets.{joined, link}
use Rattle.theory_occurrences.specs.Positions.{first, last, skips, follows, labels}
use Rattle.expression_parse.specs.declared.parts.Part.{Part}
use Rattle.expression_parse.specs.declared.parts.Stuck.{Stuck}

abbrev pub is_space : ℕ → Bool
is_space b = eqb b 32

-- does this byte stand there?
abbrev pub stands_at : List ℕ → ℕ → ℕ → Bool
stands_at s at b = ltb at (length s) && eqb (get_or s at 0) b

-- does an alternative end there: with the text, at ) or at | ?
abbrev pub ends_at : List ℕ → ℕ → Bool
ends_at s at = leb (length s) at || (eqb (get_or s at 0) 41 || eqb (get_or s at 0) 124)

-- the parse from a place on
abbrev pub run_at : List ℕ → ℕ → State → Parsed
run_at s at σ = run (drop at s) σ

-- WHAT IS ASKED where a part is to be read: it begins at its first sign, and there are no more occurrences than bytes before it
pub record Ready (s : List ℕ) (at k : ℕ) : Type 0 where
  pub within : at ≤ length s
  pub counted : k ≤ at
  pub clear : is_space (get_or s at 0) ≡ false

pub record ItemReady (s : List ℕ) (at k : ℕ) : Type 0 where
  pub ready : Ready s at k
  pub going : ends_at s at ≡ false

pub record NumberReady (s : List ℕ) (at k : ℕ) : Type 0 where
  pub within : at < length s
  pub counted : k ≤ at
  pub digit : is_digit (get_or s at 0) ≡ true

-- WHAT IS KNOWN of a part that is this tree, its occurrences numbered from k on
pub record PartOf (k : ℕ) (x : Tree) (p : Part) : Type 0 where
  pub counts : p.count ≡ k + size x
  pub begins : p.first ≡ first x k
  pub ends : p.last ≡ last x k
  pub skipped : p.skips ≡ skips x

-- a part was read up to a place: what it is, what the tables are then, and what the parse has read
pub record Went (s : List ℕ) (at k : ℕ) (L F L' F' : List ℕ) (Reads : ℕ → Tree → Type 0) (next : ℕ) (p : Part) : Type 0 where
  pub tree : Tree
  pub on : at ≤ next
  pub within : next ≤ length s
  pub counted : p.count ≤ next
  pub part : PartOf k tree p
  pub label : L' ≡ labels tree k L
  pub follow : F' ≡ follows tree k F
  pub reads : Reads next tree

-- the text leaves the grammar at this place
pub record Halts (s : List ℕ) (at place : ℕ) : Type 0 where
  pub within : place ≤ length s
  pub halts : (fs : List Frame) (ds is : List Tree) → run_at s at (state fs ds is fresh) ≡ stuck (length s - place)

-- a part was read, or the text leaves the grammar
pub data Reading (s : List ℕ) (at k : ℕ) (L F L' F' : List ℕ) (Reads : ℕ → Tree → Type 0) : Result Part Stuck → Type 0 where
  went : {p : Part} → Went s at k L F L' F' Reads p.next p → Reading s at k L F L' F' Reads (Ok p)
  stops : {e : Stuck} → Halts s at e.0 → Reading s at k L F L' F' Reads (Err e)

-- a number or a group was read, and a star may follow
pub record FactorReads (s : List ℕ) (at next : ℕ) (x : Tree) : Type 0 where
  pub on : at < next
  pub same : (fs : List Frame) (ds is : List Tree) → run_at s at (state fs ds is fresh) ≡ run_at s next (state fs ds is (item x))

-- an item was read, with the spaces behind it
pub record ItemReads (s : List ℕ) (at next : ℕ) (x : Tree) : Type 0 where
  pub on : at < next
  pub clear : is_space (get_or s next 0) ≡ false
  pub same : (fs : List Frame) (ds is : List Tree) → run_at s at (state fs ds is fresh) ≡ run_at s next (state fs ds (x ∷ is) fresh)

-- items were read: with those before them they make this alternative
pub record Chained (s : List ℕ) (at next : ℕ) (x : Tree) (fs : List Frame) (ds is : List Tree) : Type 0 where
  pub items : List Tree
  pub same : run_at s at (state fs ds is fresh) ≡ run_at s next (state fs ds items fresh)
  pub tree : chain items empty ≡ chain is x

pub record AlternativeReads (s : List ℕ) (at next : ℕ) (x : Tree) : Type 0 where
  pub ends : ends_at s next ≡ true
  pub goes : (fs : List Frame) (ds is : List Tree) → Chained s at next x fs ds is

-- alternatives were read: with those before them they make this group
pub record Grouped (s : List ℕ) (at next : ℕ) (x : Tree) (fs : List Frame) (ds : List Tree) : Type 0 where
  pub done : List Tree
  pub items : List Tree
  pub same : run_at s at (state fs ds [] fresh) ≡ run_at s next (state fs done items fresh)
  pub tree : choice done (chain items empty) ≡ choice ds x

pub record AlternativesReads (s : List ℕ) (at next : ℕ) (x : Tree) : Type 0 where
  pub ends : next < length s → get_or s next 0 ≡ 41
  pub goes : (fs : List Frame) (ds : List Tree) → Grouped s at next x fs ds

abbrev pub Item : List ℕ → ℕ → ℕ → List ℕ → List ℕ → List ℕ → List ℕ → Result Part Stuck → Type 0
Item s at k L F L' F' r = Reading s at k L F L' F' (ItemReads s at) r

abbrev pub Alternative : List ℕ → ℕ → ℕ → List ℕ → List ℕ → List ℕ → List ℕ → Result Part Stuck → Type 0
Alternative s at k L F L' F' r = Reading s at k L F L' F' (AlternativeReads s at) r

abbrev pub Alternatives : List ℕ → ℕ → ℕ → List ℕ → List ℕ → List ℕ → List ℕ → Result Part Stuck → Type 0
Alternatives s at k L F L' F' r = Reading s at k L F L' F' (AlternativesReads s at) r

-- PARTS MADE OF PARTS
pub record Sequenced (a b : Part) (F F' : List ℕ) (r : Part) : Type 0 where
  pub next : r.next ≡ b.next
  pub count : r.count ≡ b.count
  pub begins : r.first ≡ joined a.first (cond a.skips b.first 0)
  pub ends : r.last ≡ joined b.last (cond b.skips a.last 0)
  pub skipped : r.skips ≡ (a.skips && b.skips)
  pub linked : F' ≡ link a.last b.first F

pub record Eithered (a b r : Part) : Type 0 where
  pub next : r.next ≡ b.next
  pub count : r.count ≡ b.count
  pub begins : r.first ≡ joined a.first b.first
  pub ends : r.last ≡ joined a.last b.last
  pub skipped : r.skips ≡ (a.skips || b.skips)

-- a number or a group up to `end` becomes an item
pub record Starred (s : List ℕ) (p : Part) (end : ℕ) (F F' : List ℕ) (r : Part) : Type 0 where
  pub becomes : (at k : ℕ) (L F₀ L' : List ℕ) → Went s at k L F₀ L' F (FactorReads s at) end p
      → Went s at k L F₀ L' F' (ItemReads s at) r.next r

-- THE WHOLE TEXT
pub record Parses (s L F L' F' : List ℕ) (p : Part) : Type 0 where
  pub tree : Tree
  pub is : parse s ≡ parsed tree
  pub counts : p.count ≡ size tree
  pub begins : p.first ≡ first tree 0
  pub ends : p.last ≡ last tree 0
  pub skipped : p.skips ≡ skips tree
  pub label : L' ≡ labels tree 0 L
  pub follow : F' ≡ follows tree 0 F

pub data Whole (s L F L' F' : List ℕ) : Result Part Stuck → Type 0 where
  whole : {p : Part} → Parses s L F L' F' p → Whole s L F L' F' (Ok p)
  outside : {e : Stuck} → e.0 ≤ length s → parse s ≡ stuck (length s - e.0) → Whole s L F L' F' (Err e)
