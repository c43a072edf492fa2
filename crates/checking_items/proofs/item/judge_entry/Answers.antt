use Rattle.checking_items.specs.Judging.{entry_asked}
use mathlib.Core.Path.{◌∙◌}
use Rattle.tables.specs.Laws.Lookup.{nowhere_true, nowhere_false, state_below}
use Rattle.checking_items.specs.Laws.Walked.{root_as, state_somewhere, roots_small, entry_none, entry_shown, entry_node, entry_lent, entry_walked}
use Rattle.checking_items.proofs.item.judge_entry.Goals as goal

pub root_of-source-requires : goal.root_of-source-requires
root_of-source-requires c = roots_small c.args.s.now.valid c.args.control.0

pub returns-then-is_nowhere-clause-judged : goal.returns-then-is_nowhere-clause-judged
returns-then-is_nowhere-clause-judged c = entry_none (entry_asked c.args.s.now.valid c.requires.entry) c.root_of-source.ensures (nowhere_true _ c.is_nowhere.ensures c.if-is_nowhere.true) c.requires.ready.scratch

pub state-from-requires : goal.state-from-requires
state-from-requires c = state_below c.root_of-source.ensures.most (nowhere_false _ c.is_nowhere.ensures c.if-is_nowhere.false)

pub invariant_of-over : goal.invariant_of-over
invariant_of-over c = let a = (entry_asked c.args.s.now.valid c.requires.entry) in
    let h = root_as c.root_of-source.ensures c.state-from.ensures in
    let e = state_somewhere c.state-from.ensures (nowhere_false _ c.is_nowhere.ensures c.if-is_nowhere.false) in
    record { lent = entry_lent a h e c.at.ensures; finals_long = a.valid.pool.finals_long }

pub judge-requires : goal.judge-requires
judge-requires c = let a = (entry_asked c.args.s.now.valid c.requires.entry) in
    let h = root_as c.root_of-source.ensures c.state-from.ensures in
    let e = state_somewhere c.state-from.ensures (nowhere_false _ c.is_nowhere.ensures c.if-is_nowhere.false) in
    let t = c.at.ensures in
    let s = c.requires.ready.scratch in
    record { node_fits = entry_node a h e t; blank = s.blank; seen_len = s.seen_long; queue_len = s.queue_long; shown_fits = entry_shown a h e t; contents_least_in_bounds = c.requires.ready.room }

pub returns-clause-judged : goal.returns-clause-judged
returns-clause-judged c =
    let h = root_as c.root_of-source.ensures c.state-from.ensures in
    let e = state_somewhere c.state-from.ensures (nowhere_false _ c.is_nowhere.ensures c.if-is_nowhere.false) in
    let s = c.requires.ready.scratch in
    entry_walked (entry_asked c.args.s.now.valid c.requires.entry) h e c.at.ensures c.judge.ensures.walk_judged (c.judge.auto.seen ∙ s.seen_long) (c.judge.auto.queue ∙ s.queue_long) c.judge.auto.contents
