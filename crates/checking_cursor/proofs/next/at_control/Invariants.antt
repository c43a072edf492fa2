use mathlib.Core.Path.{◌≡◌}
use Rattle.checking_cursor.specs.Left.{steps_on, model_in}
use Rattle.checking_cursor.proofs.next.at_control.Given as goal

abbrev pub invariant-loop-i : goal.invariant-loop-i
invariant-loop-i l = steps_on (model_in l.h l.rows) l.c.0 l.first ≡ steps_on (model_in l.h l.rows) l.c.0 l.i
