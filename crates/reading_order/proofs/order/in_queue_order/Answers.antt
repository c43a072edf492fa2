use Rattle.reading_order.specs.Laws.Testing.{order_is}
use Rattle.reading_order.proofs.order.in_queue_order.Goals as goal

pub returns : goal.returns
returns c = λ P f a. order_is _ P _ _ f a (rw c.none-found.ensures at c.find_roots.ensures) c.find_bad.ensures c.none_fails.ensures
