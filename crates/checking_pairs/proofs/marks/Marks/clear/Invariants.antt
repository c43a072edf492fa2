use Rattle.checking_pairs.specs.Laws.Clearing.{Unmarking}
use Rattle.checking_pairs.proofs.marks.Marks.clear.Given as goal

abbrev pub invariant-loop-code : goal.invariant-loop-code
invariant-loop-code l = Unmarking l.seen l.code-items l.code-index
