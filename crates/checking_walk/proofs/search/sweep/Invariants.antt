use Prim.Native.Nat.{◌-◌}
use Rattle.theory_exploration.specs.Search.{sweep}
use Rattle.theory_model.specs.Judge.{same}
use Rattle.checking_pairs.specs.Pairs.{pair_of}
use Rattle.checking_pairs.specs.Marks.{view}
use Rattle.checking_pairs.specs.Kept.{Kept}
use Rattle.checking_pairs.specs.Over.{read_from}
use Rattle.checking_walk.specs.Laws.Sweeps.{Sweeping}
use Rattle.checking_walk.proofs.search.sweep.Given as goal

abbrev pub invariant-loop-m : goal.invariant-loop-m
invariant-loop-m l = Sweeping (read_from l.arcs l.entry l.x) (pair_of l.x) l.from l.end l.m l.found.seen.now l.found.queue.now l.found.tail (sweep (read_from l.arcs l.entry l.x) same (pair_of l.x) l.from (l.end - l.first) l.first (view l.initial.found.seen.now l.initial.found.queue.now l.initial.found.tail)) × Kept l.initial.found l.found
