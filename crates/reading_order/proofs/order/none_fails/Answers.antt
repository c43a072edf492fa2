use native.Mathlib.Omega.{arith}
use mathlib.Core.Path.{sym, ◌∙◌}
use Rattle.reading_order.specs.Search.{reached}
use Rattle.reading_order.specs.Laws.Finding.{found_most}
use Rattle.reading_order.specs.Laws.Testing.{testing_begin, testing_fails, testing_next, testing_end, none_is, some_is}
use Rattle.reading_order.proofs.order.none_fails.Goals as goal

pub loop-k-init : goal.loop-k-init
unfolding reached
loop-k-init c = testing_begin c.args.found.now.found

pub bounds-found-k : goal.bounds-found-k
bounds-found-k c = omega (arith, found_most c.loop-k.invariant.holds)

pub returns-then-is_fault : goal.returns-then-is_fault
returns-then-is_fault c = some_is _ _ _ _ _ (testing_fails c.loop-k.invariant c.loop-k-test.true (sym c.is_fault.ensures ∙ c.if-is_fault.true))

pub loop-k-smaller : goal.loop-k-smaller
loop-k-smaller c = omega (arith, c.loop-k-test.true, found_most c.loop-k.invariant.holds)

pub loop-k-preserved : goal.loop-k-preserved
loop-k-preserved c = testing_next c.loop-k.invariant c.loop-k-test.true (sym c.is_fault.ensures ∙ c.if-is_fault.false) c.find_next.ensures

pub returns : goal.returns
returns c = none_is _ _ _ _ _ (testing_end c.loop-k.invariant c.loop-k-test.false)
