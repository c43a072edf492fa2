-- The limits on an expression: which places of a text offend, and the leftmost of them by one pass over the text.
use Rattle.std.specs.Prelude.{◌≡◌, Bool, true, false, cond, not, ◌&&◌, List, [], ◌∷◌, ◌++◌, ℕ, zero, suc, ◌+◌, ◌-◌, ◌*◌, ◌≤◌, ◌<◌, ltb, eqb, length}
use Rattle.theory_grammar.specs.Grammar.{Digit, EndsInDigit}
use Rattle.theory_grammar.specs.Parse.{is_digit}
use Rattle.numbers.specs.Refusals.{out_of_range, too_deep, too_many_numbers}

-- groups in groups, and occurrences of messages
abbrev pub most_depth : ℕ
most_depth = 8

abbrev pub most_occurrences : ℕ
most_occurrences = 32

-- the first number that is no message's
abbrev pub message_limit : ℕ
message_limit = 32

-- the number whose digits a text goes on with, n being that of the digits before
abbrev pub value_from : ℕ → List ℕ → ℕ
value_from n [] = n
value_from n (b ∷ u) = cond (is_digit b) (value_from (n * 10 + (b - 48)) u) n

-- THE NUMBERS of a text from left to right; `inside` says that a digit stands before it
abbrev pub numbers_from : Bool → List ℕ → List ℕ
numbers_from inside [] = []
numbers_from true (b ∷ u) = numbers_from (is_digit b) u
numbers_from false (b ∷ u) = cond (is_digit b) (value_from 0 (b ∷ u) ∷ numbers_from true u) (numbers_from false u)

-- how often a byte stands in a text
abbrev pub times : ℕ → List ℕ → ℕ
times c [] = 0
times c (b ∷ u) = cond (eqb b c) (suc (times c u)) (times c u)

-- a number begins behind `before`: a digit with no digit before it
pub record NumberBegins (s before after : List ℕ) : Type 0 where
  pub first : ℕ
  pub whole : s ≡ before ++ (first ∷ after)
  pub digit : Digit first
  pub alone : EndsInDigit before → ⊥

-- A PLACE OFFENDS, with the number of its refusal
pub data Offends (s : List ℕ) : ℕ → ℕ → Type 0 where
  -- a number of 32 or more
  large : {before after : List ℕ} → (n : NumberBegins s before after) → message_limit ≤ value_from 0 (n.first ∷ after)
      → Offends s out_of_range (length before)
  -- an opening bracket where eight groups are open
  deep : (before after : List ℕ) → s ≡ before ++ (40 ∷ after) → times 41 before + most_depth ≤ times 40 before
      → Offends s too_deep (length before)
  -- a number after thirty-two others
  many : {before after : List ℕ} → NumberBegins s before after → most_occurrences ≤ length (numbers_from false before)
      → Offends s too_many_numbers (length before)

-- THE LEFTMOST OFFENDER: no place before it offends, and 5 comes before 21
pub record Leftmost (s : List ℕ) (k p : ℕ) : Type 0 where
  pub offends : Offends s k p
  pub least : (j q : ℕ) → q < p → Offends s j q → ⊥
  pub before : Offends s 5 p → k ≡ 5

-- all within the limits, or the refusal and its place
pub data Limit : Type 0 where
  kept : Limit
  passed : ℕ → ℕ → Limit

-- does this byte offend, where so many groups were opened and closed and so many numbers have begun? 0 if not
abbrev pub offence : Bool → ℕ → ℕ → ℕ → ℕ → List ℕ → ℕ
offence inside opened closed count b u =
    cond (is_digit b)
    (cond inside 0 (cond (ltb (value_from 0 (b ∷ u)) message_limit) (cond (ltb count most_occurrences) 0 21) 5))
    (cond (eqb b 40) (cond (ltb opened (closed + most_depth)) 0 20) 0)

-- one more, if the test holds
abbrev pub more : Bool → ℕ → ℕ
more test n = cond test (n + 1) n

-- from a place on
unfoldable pub limits_from : Bool → ℕ → ℕ → ℕ → ℕ → List ℕ → Limit
limits_from inside opened closed count place [] = kept
limits_from inside opened closed count place (b ∷ u) =
    elim (offence inside opened closed count b u) [
      | zero ↦ limits_from (is_digit b) (more (eqb b 40) opened) (more (eqb b 41) closed) (more (is_digit b && not inside) count) (place + 1) u
      | suc k ↦ passed (suc k) place
    ]

-- THE LIMITS of a text
abbrev pub limits : List ℕ → Limit
limits s = limits_from false 0 0 0 0 s
