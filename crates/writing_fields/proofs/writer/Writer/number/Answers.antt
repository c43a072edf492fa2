use native.Mathlib.Omega.{arith}
use Rattle.writing_fields.specs.Laws.Writers.{puts_one, puts_two}
use borrow.Author.Rules.{rules}
use Rattle.writing_fields.proofs.writer.Writer.number.Goals as goal

pub returns-then-v-lt128 : goal.returns-then-v-lt128
returns-then-v-lt128 c = puts_one (omega (arith, c.if-v-lt128.true)) c.byte.ensures

pub returns : goal.returns
returns c = puts_two (omega (arith, c.if-v-lt128.false)) (search rules) c.byte.ensures c.byte-2.ensures
