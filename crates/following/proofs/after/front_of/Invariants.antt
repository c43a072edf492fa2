use lib.ListN.{take}
use Rattle.following.specs.Laws.Front.{Fronting, left_of}
use Rattle.following.proofs.after.front_of.Given as goal

abbrev pub invariant-loop-i : goal.invariant-loop-i
invariant-loop-i l = Fronting l.cut (take l.shown l.contents) l.i (left_of l.contents l.shown l.i)
