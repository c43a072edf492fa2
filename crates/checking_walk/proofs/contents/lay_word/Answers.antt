use native.Mathlib.Omega.{arith}
use Prim.Native.Nat.{◌+◌, ◌-◌}
use mathlib.Core.Path.{◌≡◌}
use Rattle.checking_walk.specs.Laws.Shown.{word_more}
use Rattle.checking_walk.proofs.contents.lay_word.Goals as goal

pub loop-k-preserved : goal.loop-k-preserved
loop-k-preserved c =
    let k = c.loop-k.k in
    let out = c.args.out in
    let left : out - (k + 1) ≡ out - k - 1 = omega arith in
    let from : out - 1 - k ≡ out - k - 1 = omega arith in
    let next : c.args.start + (k + 1) ≡ c.args.start + k + 1 = omega arith in
    rw (left, from, next) (word_more c.requires.word_within c.loop-k.invariant (omega (arith, c.loop-k-test.true)))
