use mathlib.Core.Path.{refl, sym, ap, ◌∙◌}
use mathlib.Core.Option.{some}
use native.Mathlib.Omega.{arith}
use Rattle.tables.specs.Said.{said_arc}
use Rattle.tables.specs.Laws.Lookup.{arc_small, along_missing, along_arc_lem}
use Rattle.following.specs.Laws.Rows.{row_arc}
use Rattle.following.specs.Laws.Standing.{standing_next, standing_none, next_placed}
use Rattle.following.specs.Laws.Follow.{state_some, message_small, follow_message, follow_end, follow_lost}
use Rattle.following.specs.Laws.Far.{count_message, count_missing}
use Rattle.following.proofs.messages.follow.Goals as goal

pub arc_from-requires : goal.arc_from-requires
arc_from-requires g c =
    let inv = c.loop-i.invariant in
    let r = c.args.ring in
    let first = standing_next g.row.SIZE r.table.now r.base c.loop-i.place r.count inv.2 c.loop-i-test.true in
    omega (arith, message_small inv.0 first, inv.1.is, inv.1.below, c.requires.arcs_small.long)

pub returns-in_default : goal.returns-in_default
returns-in_default g c =
    let inv = c.loop-i.invariant in
    let missing = sym (row_arc c.args.arcs.now _ inv.1) ∙ sym c.arc_from.ensures ∙ ap said_arc c.in_default.is in
    let first = standing_next _ _ _ _ _ inv.2 c.loop-i-test.true in
    let lost = follow_lost (follow_message inv.0 first (along_missing (state_some inv.1.below) refl missing refl)) refl refl in
    record { is = (lost, count_missing inv.3 inv.1.below first c.requires.state_row.below missing) }

pub loop-i-preserved : goal.loop-i-preserved
loop-i-preserved g c =
    let inv = c.loop-i.invariant in
    let p = c.requires in
    let row = c.row_after-row.ensures in
    let arc = sym (row_arc c.args.arcs.now _ inv.1) ∙ sym c.arc_from.ensures ∙ ap said_arc c.in-Some.is ∙ ap some (sym row.state) in
    let first = standing_next _ _ _ _ _ inv.2 c.loop-i-test.true in
    let small = arc_small _ _ p.arcs_small arc in (
      follow_message inv.0 first (along_arc_lem (state_some inv.1.below) refl p.arcs_small arc refl),
      row.begins,
      next_placed inv.2,
      count_message inv.3 inv.1.below first arc small refl,
    )

pub returns : goal.returns
returns g c =
    let inv = c.loop-i.invariant in
    record { is = (inv.1, follow_end inv.0 (standing_none _ _ _ _ _ (omega (arith, c.loop-i-test.false))) refl) }
