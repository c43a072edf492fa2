use Rattle.expression_sets.specs.Laws.Linking.{LinkingTable}
use Rattle.expression_sets.proofs.sets.Occurring.connect.Given as goal

abbrev pub invariant-loop-behind : goal.invariant-loop-behind
invariant-loop-behind l = LinkingTable l.fn.from l.to l.initial.behind-items l.rest l.behind-index l.behind-items
