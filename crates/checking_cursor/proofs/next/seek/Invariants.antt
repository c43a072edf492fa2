use Rattle.checking_cursor.specs.Laws.Seeking.{Seeking}
use Rattle.checking_cursor.proofs.next.seek.Given as goal

abbrev pub invariant-loop-c : goal.invariant-loop-c
invariant-loop-c l = Seeking l.h l.rows l.from l.first l.c l.i
