use mathlib.Core.Path.{sym, ◌∙◌}
use native.Mathlib.Omega.{arith}
use borrow.Author.Tests.{eq-eqb, ne_eqb}
use Rattle.tables.specs.Laws.Starting.{waits_here, waits_on, waits_end}
use Rattle.tables.proofs.starting.waits.Goals as goal

pub returns-then-length-ne0 : goal.returns-then-length-ne0
returns-then-length-ne0 c =
    sym (waits_here c.args.lengths _ (omega arith) (ne_eqb _ _ c.if-length-ne0.true)) ∙ c.loop-length.invariant

pub loop-length-preserved : goal.loop-length-preserved
loop-length-preserved c =
    sym (waits_on c.args.lengths _ (omega arith) (eq-eqb _ _ c.if-length-ne0.false)) ∙ c.loop-length.invariant

pub returns : goal.returns
returns c = sym (waits_end c.args.lengths c.loop-length.length-index (omega arith)) ∙ c.loop-length.invariant
