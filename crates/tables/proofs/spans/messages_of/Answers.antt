use mathlib.Core.Path.{◌≡◌, refl}
use native.Mathlib.Omega.{arith}
use native.Mathlib.Numerals.{add-one}
use Rattle.tables.specs.Queues.{first_message}
use Rattle.tables.proofs.spans.messages_of.Goals as goal

pub loop-i-init : goal.loop-i-init
unfolding first_message
loop-i-init c = (refl, omega arith)

pub loop-i-preserved : goal.loop-i-preserved
unfolding first_message
loop-i-preserved c = (rw (add-one, c.wide-lo.ensures.same, c.entry.ensures, c.loop-i.invariant.0), omega arith)

pub returns : goal.returns
unfolding first_message
returns c =
    let e : c.loop-i.i ≡ c.args.queue = omega arith in
    let lo : c.loop-i.lo ≡ first_message c.args.counts c.args.queue = rw (← e) c.loop-i.invariant.0 in
    record { lo = lo; hi = rw (c.wide.ensures.same, c.entry-2.ensures, lo) }
