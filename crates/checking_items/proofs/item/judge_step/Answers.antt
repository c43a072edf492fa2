use Rattle.checking_items.specs.Judging.{step_asked}
use mathlib.Core.Path.{◌∙◌}
use Rattle.tables.specs.Laws.Lookup.{nowhere_true, nowhere_false, state_below}
use Rattle.checking_items.specs.Laws.Walked.{begins, asked_long, asked_row, roots_small, step_none, step_shown, node_fits, step_lent, step_walked}
use Rattle.checking_items.proofs.item.judge_step.Goals as goal

pub root_of-source-requires : goal.root_of-source-requires
root_of-source-requires c = roots_small c.args.s.now.valid c.args.c.0

pub returns-then-is_nowhere-clause-judged : goal.returns-then-is_nowhere-clause-judged
returns-then-is_nowhere-clause-judged c = step_none (step_asked c.args.s.now.valid c.requires.step) c.root_of-source.ensures (nowhere_true _ c.is_nowhere.ensures c.if-is_nowhere.true) c.requires.ready.scratch

pub moved-to-requires : goal.moved-to-requires
moved-to-requires c = let a = (step_asked c.args.s.now.valid c.requires.step) in
    record { machines_valid = a.valid.machines; row_length_in_bounds = asked_long a; row_bound = (asked_row a).move.machine; row_bound_2 = (asked_row a).move.to; c_lt_product = a.control }

pub root_of-target-requires : goal.root_of-target-requires
root_of-target-requires c = roots_small c.args.s.now.valid c.moved-to.result.0

pub cut_of-cut-requires : goal.cut_of-cut-requires
cut_of-cut-requires c = let a = (step_asked c.args.s.now.valid c.requires.step) in
    record { queues_valid = a.valid.queues; row_length_in_bounds = asked_long a; row_bound = (asked_row a).action.queue }

pub state-requires : goal.state-requires
state-requires c = state_below c.root_of-source.ensures.most (nowhere_false _ c.is_nowhere.ensures c.if-is_nowhere.false)

pub invariant_of-over : goal.invariant_of-over
invariant_of-over c = let a = (step_asked c.args.s.now.valid c.requires.step) in
    let b = begins a _ c.root_of-source.ensures (nowhere_false _ c.is_nowhere.ensures c.if-is_nowhere.false) c.state.ensures c.moved-to.ensures c.root_of-target.ensures c.cut_of-cut.ensures in
    record { lent = step_lent a b; finals_long = a.valid.pool.finals_long }

pub judge-requires : goal.judge-requires
judge-requires c = let a = (step_asked c.args.s.now.valid c.requires.step) in
    let b = begins a _ c.root_of-source.ensures (nowhere_false _ c.is_nowhere.ensures c.if-is_nowhere.false) c.state.ensures c.moved-to.ensures c.root_of-target.ensures c.cut_of-cut.ensures in
    let s = c.requires.ready.scratch in
    record { node_fits = node_fits a b; blank = s.blank; seen_len = s.seen_long; queue_len = s.queue_long; shown_fits = step_shown a b; contents_least_in_bounds = c.requires.ready.room }

pub returns-clause-judged : goal.returns-clause-judged
returns-clause-judged c =
    let a = (step_asked c.args.s.now.valid c.requires.step) in
    let b = begins a _ c.root_of-source.ensures (nowhere_false _ c.is_nowhere.ensures c.if-is_nowhere.false) c.state.ensures c.moved-to.ensures c.root_of-target.ensures c.cut_of-cut.ensures in
    let s = c.requires.ready.scratch in
    step_walked a b c.judge.ensures.walk_judged (c.judge.auto.seen ∙ s.seen_long) (c.judge.auto.queue ∙ s.queue_long) c.judge.auto.contents
