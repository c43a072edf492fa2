use native.Mathlib.Omega.{arith}
use Rattle.theory_exploration.specs.Laws.Gather.{gather_end}
use Rattle.reading_order.specs.Laws.Finding.{finding_begin, finding_part, finding_end, gather_step}
use Rattle.reading_order.proofs.finding.FoundNodes.find_arcs.Goals as goal

pub loop-m-init : goal.loop-m-init
loop-m-init c = finding_begin c.args.self.now.found

pub find_arc-requires : goal.find_arc-requires
find_arc-requires c = let p = c.requires in
    record { arcs_small = p.arcs_small; m_bound = omega (arith, c.loop-m-test.true, c.wide-row.ensures.same, p.s_lt_most_pool, p.end_le_most_messages); rank_lt_ranks = p.rank_lt_ranks }

pub loop-m-preserved : goal.loop-m-preserved
loop-m-preserved c = finding_part c.loop-m.invariant c.find_arc.ensures (gather_step _ c.loop-m-test.true)

pub returns : goal.returns
returns c = rw (← c.wide-row.ensures.same) (finding_end c.loop-m.invariant (gather_end _ c.loop-m-test.false))
