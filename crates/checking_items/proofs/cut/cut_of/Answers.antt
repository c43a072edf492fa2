use native.Mathlib.Omega.{arith}
use mathlib.Core.Path.{subst, refl}
use Rattle.tables.specs.Kind.{KindIs}
use Rattle.checking_items.specs.Laws.Cut.{cuts_local, cuts_send, cuts_receive, queue_within, first_within}
use Rattle.checking_items.proofs.cut.cut_of.Goals as goal

pub returns-in-Local : goal.returns-in-Local
returns-in-Local c = cuts_local _ _ _ (subst (KindIs _) c.in-Local.is c.from.ensures)

pub overflow_cast-result : goal.overflow_cast-result
overflow_cast-result c = let v = c.requires.queues_valid in
    omega (arith, queue_within c.args.q c.args.rows.now c.args.row v c.requires.row_bound _ refl, c.messages_of-own.ensures.hi, v.sum_most)

pub returns-in-Send : goal.returns-in-Send
returns-in-Send c =
    cuts_send _ _ _ c.requires.queues_valid c.requires.row_bound _ c.from-in-Send.ensures (subst (KindIs _) c.in-Send.is c.from.ensures) _ c.messages_of-own.ensures.hi

pub overflow_cast-result-in-Receive : goal.overflow_cast-result-in-Receive
overflow_cast-result-in-Receive c = let v = c.requires.queues_valid in
    omega (arith, first_within c.args.q c.args.rows.now c.args.row v c.requires.row_bound _ refl, c.messages_of-own-in-Receive.ensures.lo, v.sum_most)

pub returns-in-Receive : goal.returns-in-Receive
returns-in-Receive c =
    let k = subst (KindIs _) c.in-Receive.is c.from.ensures in
    cuts_receive _ _ _ c.requires.queues_valid c.requires.row_bound _ c.from-in-Receive.ensures k.0 k.1 _ c.messages_of-own-in-Receive.ensures.lo
