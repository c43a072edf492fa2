use mathlib.Core.Path.{sym, ◌∙◌}
use native.Mathlib.Omega.{arith}
use Rattle.checking_cursor.specs.Laws.Seeking.{passes_over}
use Rattle.checking_cursor.proofs.next.at_control.Goals as goal

pub is_at-requires : goal.is_at-requires
is_at-requires c = let m = c.requires.movable in
    record { machines_valid = m.machines; row_length_in_bounds = omega (arith, m.transitions.long, m.transitions.most, c.wide-i-end.ensures.same, c.loop-i-test.true); row_bound = (m.transitions.row c.loop-i.i (omega (arith, c.wide-i-end.ensures.same, c.loop-i-test.true))).move.machine; c_lt_product = c.requires.c_lt_product.0 }

pub loop-i-preserved : goal.loop-i-preserved
loop-i-preserved c = passes_over c.args.h c.args.rows.now c.args.c.0 c.args.first c.loop-i.i (omega (arith, c.wide-i-end.ensures.same, c.loop-i-test.true)) (sym c.is_at.ensures ∙ c.if-is_at.false) c.loop-i.invariant
