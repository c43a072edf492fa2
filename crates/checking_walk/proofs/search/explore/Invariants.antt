use Prim.Native.Nat.{suc, ◌-◌}
use Rattle.theory_exploration.specs.Search.{search as searched}
use Rattle.theory_model.specs.Judge.{same}
use Rattle.checking_pairs.specs.Pairs.{most_codes}
use Rattle.checking_pairs.specs.Marks.{view}
use Rattle.checking_pairs.specs.Kept.{Kept}
use Rattle.checking_pairs.specs.Over.{go_over, wrong_over}
use Rattle.checking_walk.specs.Laws.Exploring.{Exploring}
use Rattle.checking_walk.proofs.search.explore.Given as goal

abbrev pub invariant-loop-k : goal.invariant-loop-k
invariant-loop-k l = Exploring (suc l.t.walk.sum) (go_over l.t.arcs.now l.t.rows.now l.t.walk) (wrong_over l.t.finals.now l.t.walk.entry) l.found.seen.now l.found.queue.now l.found.tail l.k (searched (suc l.t.walk.sum) (go_over l.t.arcs.now l.t.rows.now l.t.walk) same (wrong_over l.t.finals.now l.t.walk.entry) most_codes 0 (view l.initial.found.seen.now l.initial.found.queue.now l.initial.found.tail)) × Kept l.initial.found l.found

abbrev pub decreases-loop-k : goal.decreases-loop-k
decreases-loop-k l = most_codes - l.k
