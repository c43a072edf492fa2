use borrow.Author.Rules.{rules}
use mathlib.Core.Path.{◌≡◌, sym, subst}
use Prim.Native.Nat.{◌<◌}
use lib.ListN.{take}
use native.Mathlib.Omega.{arith}
use Rattle.std.specs.List.{sum}
use Rattle.replaying_queues.specs.Led.{Waits}
use Rattle.replaying_queues.specs.Laws.Led.{waits}
use Rattle.replaying_queues.proofs.follow.waiting_in.Goals as goal

pub sum-requires-clause-fits : goal.sum-requires-clause-fits
sum-requires-clause-fits c =
    let few : sum (take c.args.count c.args.lengths.now) < 18446744073709551616 = omega (arith, (waits c.args.lengths.now c.requires.by_index c.args.count (omega (arith, c.requires.count_le_most_queues, c.told-lengths))).most, c.requires.count_le_most_queues) in
    search (rules, few)

pub returns : goal.returns
returns c =
    let is : c.sum.result ≡ sum (take c.args.count c.args.lengths.now) = search rules in
    subst (Waits c.args.lengths.now c.args.count) (sym is) (waits c.args.lengths.now c.requires.by_index c.args.count (omega (arith, c.requires.count_le_most_queues, c.told-lengths)))
