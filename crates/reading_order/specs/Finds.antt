-- What a method of `FoundNodes` does: these nodes are found now, or were there.
use Rattle.std.specs.Prelude.{ℕ, List}
use Rattle.reading_order.specs.Found.{Grows}
use Rattle.reading_order.specs.declared.finding.FoundNodes.{FoundNodes}

abbrev pub Finds : FoundNodes → List ℕ → FoundNodes → Type 0
Finds a new b = Grows a.seen a.list a.count new b.seen b.list b.count
