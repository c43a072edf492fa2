use Prim.Native.Nat.{◌-◌}
use mathlib.Core.Path.{◌≡◌}
use Rattle.theory_exploration.specs.Search.{lowest_from}
use Rattle.theory_model.specs.Judge.{same}
use Rattle.checking_pairs.specs.Pairs.{decode, pair_of}
use Rattle.checking_pairs.specs.Over.{read_from}
use Rattle.checking_walk.proofs.edges.message_to.Given as goal

abbrev pub invariant-loop-m : goal.invariant-loop-m
invariant-loop-m l = lowest_from (read_from l.t.arcs.now l.t.walk.entry l.x) same (pair_of l.x) (decode l.code) (l.end - l.m) l.m ≡ lowest_from (read_from l.t.arcs.now l.t.walk.entry l.x) same (pair_of l.x) (decode l.code) (l.end - l.first) l.first
