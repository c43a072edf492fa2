use Rattle.tables.specs.Laws.Lookup.{arcs_small}
use Rattle.checking_items.specs.Laws.Walked.{roots_small}
use Rattle.reading_file.specs.Session.{tables_in}
use Rattle.checking_items.specs.Laws.Begin.{start_final}
use Rattle.checking_items.proofs.begin.begins_inside.Goals as goal

pub first_control-c-requires : goal.first_control-c-requires
first_control-c-requires c = c.args.s.now.valid.machines

pub root_of-root-requires : goal.root_of-root-requires
root_of-root-requires c = roots_small c.args.s.now.valid c.first_control-c.result.0

pub follow_starting-at-requires : goal.follow_starting-at-requires
follow_starting-at-requires c = record { arcs_small = arcs_small c.args.s.now.valid.pool; from_le_most_pool = c.root_of-root.ensures.most; queues_valid = c.args.s.now.valid.queues }

pub returns : goal.returns
returns c =
    start_final (tables_in c.args.s.now) c.args.s.now.valid c.is_final.ensures c.follow_starting-at.ensures c.root_of-root.ensures c.first_control-c.ensures
