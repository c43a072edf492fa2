-- Runs of like bytes at a place of a text.
use Rattle.std.specs.Prelude.{◌≡◌, Bool, cond, List, [], ◌∷◌, ℕ, suc}
use Rattle.theory_grammar.specs.Parse.{is_digit}
use Rattle.theory_grammar.specs.Offends.{value_from}
use Rattle.theory_occurrences.specs.Positions.{clip}
use Rattle.expression_scan.specs.declared.digits.Run.{Run}

-- how many bytes at the front of a text pass a test, up to the first that does not
unfoldable pub leading : (ℕ → Bool) → List ℕ → ℕ
leading test [] = 0
leading test (b ∷ u) = cond (test b) (suc (leading test u)) 0

-- the digits at the front of a text: their number, 0 if there is none, and how many they are
pub record Runs (u : List ℕ) (r : Run) : Type 0 where
  pub number : r.value ≡ clip (value_from 0 u)
  pub long : r.len ≡ leading is_digit u
