use Rattle.checking_line.specs.Laws.Put.{digits_none, put_last, put_more}
use Rattle.checking_line.proofs.put.+put_digits.Goals as goal

pub returns-then-most-eq0 : goal.returns-then-most-eq0
returns-then-most-eq0 t c = digits_none _ _ _ _ c.if-most-eq0.true

pub returns-then-n-lt10 : goal.returns-then-n-lt10
returns-then-n-lt10 t c = put_last c.if-most-eq0.false c.if-n-lt10.true c.digit.ensures c.put_byte.ensures

pub returns : goal.returns
returns t c = put_more c.if-most-eq0.false c.if-n-lt10.false c.put_digits-next.ensures c.digit-2.ensures c.put_byte-2.ensures
