use Rattle.expression_scan.specs.Laws.Limits.{checking_stops, checking_on, checking_ends}
use Rattle.expression_scan.proofs.limits.check.Goals as goal

pub returns-in-Some : goal.returns-in-Some
returns-in-Some c = checking_stops c.loop-place.invariant c.loop-place-test.true c.offence.ensures c.in-Some.is

pub loop-place-preserved : goal.loop-place-preserved
loop-place-preserved c =
    let a = c.after-before.ensures in
    checking_on c.loop-place.invariant c.loop-place-test.true c.offence.ensures c.in_default.is a.inside a.opened a.closed a.numbers

pub returns : goal.returns
returns c = checking_ends c.loop-place.invariant c.loop-place-test.false
