use mathlib.Core.Path.{refl}
use native.Mathlib.Omega.{arith}
use Rattle.replaying_queues.specs.Laws.Led.{led_to_lem}
use Rattle.replaying_step.specs.Laws.Inside.{root_small, small_arcs, in_rings, messages_small, located_lost, located_final, located_other}
use Rattle.replaying_step.proofs.runs.RunRecord.locate.Goals as goal

pub root_of-root-requires : goal.root_of-root-requires
root_of-root-requires c = root_small c.requires c.control_of.result.0

pub follow_rings-requires : goal.follow_rings-requires
follow_rings-requires c = let P = c.requires in rw c.wide-count.ensures.same (record { arcs_small = small_arcs P; from_le_most_pool = c.root_of-root.ensures.most; rings = in_rings P; between = messages_small P })

pub is_final-requires : goal.is_final-requires
is_final-requires c = let small = (led_to_lem c.follow_rings.ensures c.in-Ok.is).1 in record { finals_len = c.requires.pool.finals_long; at_le_most_pool = omega (arith, c.at.ensures) }

pub returns-then-is_final : goal.returns-then-is_final
returns-then-is_final c = located_final c.requires c.control_of.ensures c.root_of-root.ensures (rw c.wide-count.ensures.same at c.follow_rings.ensures) c.in-Ok.is c.at.ensures c.is_final.ensures c.if-is_final.true

pub waiting_in-requires : goal.waiting_in-requires
waiting_in-requires c = let R = in_rings c.requires in record { count_le_most_queues = omega (arith, c.wide-count.ensures.same, R.most); by_index = R.held }

pub returns-in-Err : goal.returns-in-Err
returns-in-Err c = located_lost c.requires c.control_of.ensures c.root_of-root.ensures (rw c.wide-count.ensures.same at c.follow_rings.ensures) c.in-Err.is refl

pub returns-else-is_final : goal.returns-else-is_final
returns-else-is_final c = located_other c.requires c.control_of.ensures c.root_of-root.ensures (rw c.wide-count.ensures.same at c.follow_rings.ensures) c.in-Ok.is c.at.ensures c.is_final.ensures c.if-is_final.false (rw c.wide-count.ensures.same at c.waiting_in.ensures) refl
