use Rattle.controls.specs.Controls.{sizes_of}
use Rattle.controls.specs.Laws.Parting.{Front}
use Rattle.controls.proofs.parting.part_at.Given as goal

abbrev pub invariant-loop-i : goal.invariant-loop-i
invariant-loop-i l = Front (sizes_of l.m) l.fn.c.0 l.fn.machine l.i l.base l.rest
