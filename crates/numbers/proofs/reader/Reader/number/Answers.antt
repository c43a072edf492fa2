-- By hand, so that a wrong test of the second byte is refused at its fact.
use Rattle.std.proofs.Common.{lt-ltb, le-ltb, ◌<◌, ◌+◌, get_or, arith}
use Rattle.numbers.specs.Number.{read_number}
use Rattle.numbers.proofs.reader.Reader.number.Goals as goal

pub returns-clause-read : goal.returns-clause-read
unfolding read_number
returns-clause-read c =
    let some : 0 < get_or c.args.self.now.bytes.now (c.args.self.now.place + 1) 0 = omega (arith, c.if-high-eq0.false) in
    let below : get_or c.args.self.now.bytes.now (c.args.self.now.place + 1) 0 < 128 = omega (arith, c.if-high-ge128.false) in
    simp (lt-ltb _ _ c.if-s-at.false, le-ltb _ _ c.if-low-lt128.false, lt-ltb _ _ c.if-s-next.false, lt-ltb _ _ some, lt-ltb _ _ below, c.from-2.ensures, c.from-3.ensures)
