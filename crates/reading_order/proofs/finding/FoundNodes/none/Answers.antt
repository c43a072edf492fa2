use mathlib.Core.Path.{refl}
use Rattle.reading_order.specs.Nodes.{most_nodes}
use Rattle.reading_order.specs.Laws.Finding.{found_none}
use Rattle.reading_order.proofs.finding.FoundNodes.none.Goals as goal

pub invariant_of-result : goal.invariant_of-result
invariant_of-result c = record { found = found_none most_nodes refl }
