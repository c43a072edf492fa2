use native.Mathlib.Omega.{arith}
use mathlib.Core.Path.{sym, ◌∙◌}
use borrow.Author.Tests.{ne_eqb}
use native.Mathlib.Nat.{add-zero, sub-zero}
use Rattle.tables.specs.Lookup.{root_of}
use Rattle.reading_order.specs.Laws.Finding.{finding_begin, finding_skip, finding_part, finding_end}
use Rattle.theory_exploration.specs.Laws.Gather.{gather_skip, gather_on, gather_end}
use Rattle.reading_order.proofs.finding.FoundNodes.find_roots.Goals as goal

pub loop-c-init : goal.loop-c-init
loop-c-init c = rw sub-zero (finding_begin c.args.self.now.found)

pub loop-c-preserved-then-root-eq0 : goal.loop-c-preserved-then-root-eq0
loop-c-preserved-then-root-eq0 c = finding_skip c.loop-c.invariant (gather_skip _ c.loop-c-test.true (rw (sym c.entry-root.ensures ∙ c.if-root-eq0.true, root_of)))

pub find-requires : goal.find-requires
find-requires c = omega (arith, c.wide.ensures.same, c.entry-root.ensures, c.if-root-eq0.false, c.requires.each c.loop-c.c)

pub loop-c-preserved : goal.loop-c-preserved
loop-c-preserved c = finding_part c.loop-c.invariant c.find.ensures (gather_on _ c.loop-c-test.true (rw (c.wide.ensures.same, c.entry-root.ensures, ne_eqb _ 0 (λ w. c.if-root-eq0.false (c.entry-root.ensures ∙ w)), add-zero, root_of)))

pub returns : goal.returns
returns c = finding_end c.loop-c.invariant (gather_end _ c.loop-c-test.false)
