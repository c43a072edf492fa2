use native.Mathlib.Omega.{arith}
use mathlib.Core.Path.{◌∙◌}
use native.Mathlib.Nat.{add-zero, sub-zero}
use Rattle.reading_order.specs.Laws.Finding.{finding_begin, finding_part, finding_end}
use Rattle.theory_exploration.specs.Laws.Gather.{gather_on, gather_end}
use Rattle.reading_order.proofs.finding.FoundNodes.find_bad.Goals as goal

pub loop-b-init : goal.loop-b-init
loop-b-init c = rw sub-zero (finding_begin c.args.self.now.found)

pub find-requires : goal.find-requires
find-requires c = omega (arith, c.wide.ensures.same, c.entry-root.ensures, c.requires.each c.loop-b.b (omega (arith, c.loop-b-test.true, c.wide-b-end.ensures.same)))

pub loop-b-preserved : goal.loop-b-preserved
loop-b-preserved c = finding_part c.loop-b.invariant c.find.ensures (gather_on _ (omega (arith, c.loop-b-test.true, c.wide-b-end.ensures.same)) (rw (c.wide.ensures.same ∙ c.entry-root.ensures, add-zero)))

pub returns : goal.returns
returns c = finding_end c.loop-b.invariant (gather_end _ (omega (arith, c.loop-b-test.false, c.wide-b-end.ensures.same)))
