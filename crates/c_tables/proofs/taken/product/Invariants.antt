use Rattle.c_tables.specs.Laws.Products.{Multiplied}
use Rattle.c_tables.proofs.taken.product.Given as goal

abbrev pub invariant-loop-size : goal.invariant-loop-size
invariant-loop-size l = Multiplied l.states l.size-index l.product
