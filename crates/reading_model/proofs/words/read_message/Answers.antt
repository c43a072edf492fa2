-- By hand, so that a wrong test of the queue's end is refused at its fact.
use Rattle.std.proofs.Common.{◌<◌, ◌≤◌, le-leb, lt-ltb, arith}
use Rattle.reading_model.specs.Words.{read_message}
use Rattle.reading_model.proofs.words.read_message.Goals as goal

pub returns-clause-read : goal.returns-clause-read
unfolding read_message
returns-clause-read c =
    let from : c.args.own.lo ≤ c.in_ok-m.m = omega (arith, c.if-raw-own.false, c.from-raw.ensures) in
    let below : c.in_ok-m.m < c.args.own.hi = omega (arith, c.if-own-raw.false, c.from-raw.ensures) in
    rw (← c.from.ensures, ← c.in_ok-m.ensures.read, le-leb _ _ from, lt-ltb _ _ below)
