use Prim.Native.Nat.{◌*◌, ◌<◌}
use mathlib.Core.Path.{refl, sym, ap, subst, ◌∙◌}
use native.Mathlib.Omega.{arith}
use Rattle.tables.specs.Limits.{most_messages, most_starting}
use Rattle.tables.specs.Starting.{each, starting_at}
use Rattle.theory_model.specs.Model.{Between}
use Rattle.theory_model.specs.Diagram.{word}
use Rattle.following.specs.Standing.{standing}
use Rattle.following.specs.Laws.Follow.{follow_begin, front_small, follow_front, follow_end, follows_word}
use Rattle.following.specs.Laws.Starting.{starting_standing, starting_ring, starting_small, starting_begin, starting_next, starting_end}
use Rattle.following.proofs.starting.follow_starting.Goals as goal

pub loop-i-init : goal.loop-i-init
loop-i-init c =
    let p = c.requires in
    let q = c.args.q in
    let e = c.wide-i-end.ensures.same in
    let small = subst (λ n. Between 0 most_messages (word (each (starting_at q.lengths q.contents) n 0))) (sym e) (starting_small p.queues_valid) in
    follow_begin p.from_le_most_pool small (starting_begin q.lengths q.contents c.wide-i-end.result)

pub follow_part-requires : goal.follow_part-requires
follow_part-requires c = let p = c.requires in
    let q = c.args.q in
    let i = c.loop-i.i in
    let below : i < q.count = omega (arith, c.wide-i-end.ensures, c.loop-i-test.true) in
    let e = starting_standing p.queues_valid i below in
    let its = c.wide.ensures.same in
    let small = front_small c.loop-i.invariant _ _ (starting_next q.lengths q.contents c.wide-i-end.result c.loop-i-test.true) in (omega arith, (p.arcs_small, (c.loop-i.invariant.most, (starting_ring p.queues_valid i below, subst (λ n. Between 0 most_messages (standing most_starting q.contents (i * most_starting) 0 n)) (sym its) (subst (Between 0 most_messages) (sym e) small)))))

pub loop-i-preserved : goal.loop-i-preserved
loop-i-preserved c =
    let p = c.requires in
    let q = c.args.q in
    let i = c.loop-i.i in
    let below : i < q.count = omega (arith, c.wide-i-end.ensures, c.loop-i-test.true) in
    let its = c.wide.ensures.same in
    let e = ap (standing most_starting q.contents (i * most_starting) 0) its ∙ starting_standing p.queues_valid i below in
    follow_front c.loop-i.invariant _ _ (starting_next q.lengths q.contents c.wide-i-end.result c.loop-i-test.true) (follows_word e c.follow_part.ensures.leads)

pub returns : goal.returns
returns c =
    let q = c.args.q in
    let f = follow_end c.loop-i.invariant (starting_end q.lengths q.contents c.wide-i-end.result c.loop-i-test.false) refl in
    follows_word (ap (λ n. word (each (starting_at q.lengths q.contents) n 0)) c.wide-i-end.ensures.same) f
