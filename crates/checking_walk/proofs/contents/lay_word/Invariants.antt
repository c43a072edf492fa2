use Prim.Native.Nat.{◌+◌, ◌-◌}
use Rattle.checking_walk.specs.Laws.Shown.{Wording}
use Rattle.checking_walk.proofs.contents.lay_word.Given as goal

abbrev pub invariant-loop-k : goal.invariant-loop-k
invariant-loop-k l = Wording l.rows l.word l.out l.start (l.out - l.k) (l.start + l.k) l.initial.contents l.contents
