use native.Mathlib.Omega.{arith}
use Rattle.checking_cursor.specs.Laws.Seeking.{entry_found, end_found}
use Rattle.checking_cursor.proofs.next.entry_from.Goals as goal

pub returns-then-b-wide : goal.returns-then-b-wide
returns-then-b-wide c = entry_found c.args.h c.args.b (omega (arith, c.wide.ensures.same))

pub returns-else-b-wide : goal.returns-else-b-wide
returns-else-b-wide c = end_found c.args.h c.args.b c.requires (omega (arith, c.wide.ensures.same))
