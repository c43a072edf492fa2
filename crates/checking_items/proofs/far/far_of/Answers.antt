use Rattle.checking_items.specs.Judging.{step_asked}
use Rattle.tables.specs.Laws.Lookup.{arcs_small}
use Rattle.checking_items.specs.Laws.Walked.{asked_long, asked_row, roots_small, asked_word}
use Rattle.checking_items.specs.Laws.Far.{step_far}
use Rattle.checking_items.proofs.far.far_of.Goals as goal

pub moved-to-requires : goal.moved-to-requires
moved-to-requires c = let a = (step_asked c.args.s.now.valid c.requires.step) in
    record { machines_valid = a.valid.machines; row_length_in_bounds = asked_long a; row_bound = (asked_row a).move.machine; row_bound_2 = (asked_row a).move.to; c_lt_product = a.control }

pub root_of-target-requires : goal.root_of-target-requires
root_of-target-requires c = roots_small c.args.s.now.valid _

pub cut_of-cut-requires : goal.cut_of-cut-requires
cut_of-cut-requires c = let a = (step_asked c.args.s.now.valid c.requires.step) in
    record { queues_valid = a.valid.queues; row_length_in_bounds = asked_long a; row_bound = (asked_row a).action.queue }

pub far_after-requires : goal.far_after-requires
far_after-requires c = let a = (step_asked c.args.s.now.valid c.requires.step) in
    record { arcs_small = arcs_small a.valid.pool; word_within = asked_word a c.cut_of-cut.ensures.small.2; target_le_most_pool = c.root_of-target.ensures.most; contents_at = c.requires.contents_at }

pub returns : goal.returns
returns c = step_far (step_asked c.args.s.now.valid c.requires.step) c.moved-to.ensures c.root_of-target.ensures c.cut_of-cut.ensures c.requires.contents_at c.far_after.ensures
