-- The judgement in the form that code has: one list of the pairs found, each with its parent's place, and the place of the pair to be taken next. A pair
-- is tested when it is taken, and the first wrong one ends the search. It is the same judgement (`search_is` of Laws/Searches).
use Rattle.std.specs.Prelude.{true, false, reverse, ℕ, suc, length}
use Rattle.std.proofs.Math.Option.{Option, none, some}
use Rattle.theory_exploration.specs.Search.{Outcome, found, finished, search_from, trace}
use Rattle.theory_model.specs.Model.{messages, begin}
use Rattle.theory_model.specs.Diagram.{word}
use Rattle.theory_model.specs.Session.{Session, inside}
use Rattle.theory_model.specs.Verdict.{Item, start, step, entry, Pair}
use Rattle.theory_model.specs.Judge.{same, Walk, Begun, go, wrong, contents, Judged, passes, fails, walk_of}

module _ (S : Session) where
  abbrev pub settled : Walk → Outcome Pair → Judged
  settled W (found k L) = fails (contents S W (reverse (trace (suc (messages S.model)) (go S W) same L k)))
  settled W (finished L) = passes (length L)

  -- at most so many pairs are taken
  unfoldable pub searched : ℕ → Walk → Pair → Judged
  searched fuel W r = settled W (search_from (suc (messages S.model)) (go S W) same (wrong S W) r fuel)

  abbrev pub search_walk : ℕ → Option Begun → Judged
  search_walk fuel none = passes 0
  search_walk fuel (some B) = searched fuel B.walk B.root

  unfoldable pub judge_by_search : ℕ → Item → Judged
  judge_by_search fuel start = elim (inside S (begin S.model)) [ true ↦ passes 0 | false ↦ fails (word S.model.starting) ]
  judge_by_search fuel (step c t τ) = search_walk fuel (walk_of S (step c t τ))
  judge_by_search fuel (entry b e) = search_walk fuel (walk_of S (entry b e))
