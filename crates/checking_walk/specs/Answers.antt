-- What the search answers.
use Rattle.std.specs.Prelude.{◌≡◌, suc, List, ℕ, ◌<◌}
use Rattle.std.specs.Prelude as Code
use Rattle.theory_exploration.specs.Search as Search
use Rattle.theory_model.specs.Verdict.{Pair}
use Rattle.theory_model.specs.Judge.{same}
use Rattle.checking_pairs.specs.Marks.{Tables, view}
use Rattle.checking_pairs.specs.Over.{go_over, wrong_over}
use Rattle.checking_pairs.specs.Pairs.{most_codes}
use Rattle.checking_pairs.specs.declared.pairs.Walk.{Walk}

-- a failing pair's place, or none, with the list of the pairs found
abbrev pub said_failing : Code.Option ℕ → List (Search.Found Pair) → Search.Outcome Pair
said_failing (Code.Some k) L = Search.found k L
said_failing Code.None L = Search.finished L

-- the search over a list of pairs found, from the first of them on
abbrev pub search_on : List ℕ → List ℕ → List ℕ → Walk → List (Search.Found Pair) → Search.Outcome Pair
search_on arcs finals rows w L = Search.search (suc w.sum) (go_over arcs rows w) same (wrong_over finals w.entry) most_codes 0 L

-- a failing pair was found
abbrev pub Within : Code.Option ℕ → ℕ → Type 0
Within (Code.Some k) tail = k < tail
Within Code.None tail = Unit {0}

-- the answer is that of the definition, and the tables show the list that it speaks of
pub record Answered (seen queue : List ℕ) (tail : ℕ) (r : Code.Option ℕ) (o : Search.Outcome Pair) : Type 0 where
  pub is : said_failing r (view seen queue tail) ≡ o
  pub tables : Tables seen queue tail
  pub within : Within r tail
