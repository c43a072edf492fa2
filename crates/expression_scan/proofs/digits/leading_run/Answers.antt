use Rattle.std.proofs.Common.{sym, ◌∙◌}
use Rattle.expression_scan.specs.Laws.Values.{running_on, running_ends, running_whole}
use Rattle.expression_scan.proofs.digits.leading_run.Goals as goal

pub returns-then-not-is_digit : goal.returns-then-not-is_digit
returns-then-not-is_digit c = running_ends c.loop-len.invariant (λ h. sym c.is_digit.ensures ∙ c.if-not-is_digit.true)

pub loop-len-preserved : goal.loop-len-preserved
loop-len-preserved c = running_on c.loop-len.invariant c.loop-len-test.true (sym c.is_digit.ensures ∙ c.if-not-is_digit.false) c.with_digit-value.ensures

pub returns : goal.returns
returns c = running_whole c.loop-len.invariant c.loop-len.auto.len-end c.loop-len-test.false
