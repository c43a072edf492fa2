-- The parse: the tree that a text spells, or where the text leaves the grammar. One byte at a time, with a stack of the groups that are open.
use Rattle.std.specs.Prelude.{Bool, cond, ◌&&◌, List, [], ◌∷◌, ℕ, zero, suc, ◌+◌, ◌-◌, ◌*◌, leb, eqb, length}
use Rattle.std.proofs.Math.Option.{Option, none, some}
use Rattle.theory_grammar.specs.Tree.{Tree, letter, empty, sequence, either, star}

pub data Sign : Type 0 where
  space : Sign
  digit : ℕ → Sign
  opening : Sign
  closing : Sign
  bar : Sign
  times : Sign
  other : Sign

abbrev pub is_digit : ℕ → Bool
is_digit b = leb 48 b && leb b 57

-- the sign that a byte stands for
abbrev pub sign : ℕ → Sign
sign b =
    cond (is_digit b) (digit (b - 48))
    (cond (eqb b 32) space
    (cond (eqb b 40) opening (cond (eqb b 41) closing (cond (eqb b 124) bar (cond (eqb b 42) times other)))))

-- what stands before the unread text in the alternative at hand
pub data Mode : Type 0 where
  -- nothing that a star may follow
  fresh : Mode
  -- the digits of a number, which may go on
  digits : ℕ → Mode
  -- a whole item, which a star may follow
  item : Tree → Mode

-- the alternatives that are done, and the items of the one at hand; last first
pub data Frame : Type 0 where
  frame : List Tree → List Tree → Frame

-- the groups that are open, innermost first; then what is done of the one at hand
pub data State : Type 0 where
  state : List Frame → List Tree → List Tree → Mode → State

abbrev pub settled : List Tree → Mode → List Tree
settled is fresh = is
settled is (digits n) = letter n ∷ is
settled is (item x) = x ∷ is

abbrev pub chain : List Tree → Tree → Tree
chain [] r = r
chain (x ∷ is) r = chain is (sequence x r)

abbrev pub choice : List Tree → Tree → Tree
choice [] r = r
choice (a ∷ ds) r = choice ds (either a r)

-- the tree of the group at hand, if it ends here
abbrev pub whole : List Tree → List Tree → Mode → Tree
whole ds is m = choice ds (chain (settled is m) empty)

abbrev pub step : Sign → State → Option State
step space (state fs ds is fresh) = some (state fs ds is fresh)
step space (state fs ds is (digits n)) = some (state fs ds is (item (letter n)))
step space (state fs ds is (item x)) = some (state fs ds is (item x))
step (digit d) (state fs ds is fresh) = some (state fs ds is (digits d))
step (digit d) (state fs ds is (item x)) = some (state fs ds (x ∷ is) (digits d))
step (digit d) (state fs ds is (digits zero)) = none
step (digit d) (state fs ds is (digits (suc n))) = some (state fs ds is (digits (suc n * 10 + d)))
step opening (state fs ds is m) = some (state (frame ds (settled is m) ∷ fs) [] [] fresh)
step closing (state [] ds is m) = none
step closing (state (frame ds' is' ∷ fs) ds is m) = some (state fs ds' is' (item (whole ds is m)))
step bar (state fs ds is m) = some (state fs (chain (settled is m) empty ∷ ds) [] fresh)
step times (state fs ds is fresh) = none
step times (state fs ds is (digits n)) = some (state fs ds (star (letter n) ∷ is) fresh)
step times (state fs ds is (item x)) = some (state fs ds (star x ∷ is) fresh)
step other (state fs ds is m) = none

-- a tree, or how many bytes were left where the text leaves the grammar
pub data Parsed : Type 0 where
  parsed : Tree → Parsed
  stuck : ℕ → Parsed

-- a group that is open at the end leaves it there
abbrev pub finish : State → Parsed
finish (state [] ds is m) = parsed (whole ds is m)
finish (state (f ∷ fs) ds is m) = stuck 0

unfoldable pub run : List ℕ → State → Parsed
run [] σ = finish σ
run (b ∷ s) σ = elim (step (sign b) σ) [ none ↦ stuck (suc (length s)) | some τ ↦ run s τ ]

-- THE PARSE
abbrev pub parse : List ℕ → Parsed
parse s = run s (state [] [] [] fresh)
