use mathlib.Core.Path.{◌∙◌}
use native.Mathlib.Omega.{arith}
use Rattle.tables.specs.Limits.{most_controls, most_pool}
use Rattle.tables.specs.Laws.Kinds.{made_is}
use Rattle.checking_items.specs.Laws.Walked.{entry_root}
use Rattle.checking_session.specs.Laws.Entries.{entry_asked, entry_of, entry_passes, entry_fails}
use Rattle.checking_session.proofs.entries.judge_one.Goals as goal

pub judge_entry-requires-clause-entry : goal.judge_entry-requires-clause-entry
judge_entry-requires-clause-entry c = let v = c.args.s.now.valid in
    let h = c.requires.within.0 in
    let e = made_is most_controls _ c.wide.ensures.small c.new-control.ensures ∙ c.wide.ensures.same in
    let f = made_is most_pool _ (omega (arith, c.wide-2.ensures.same, entry_root (entry_asked v c.args.b h))) c.new-root.ensures ∙ c.wide-2.ensures.same in
    entry_of v c.args.b h e f

pub returns-in-Err-clause-judged : goal.returns-in-Err-clause-judged
returns-in-Err-clause-judged c =
    let v = c.args.s.now.valid in
    let h = c.requires.within.0 in
    let e = made_is most_controls _ c.wide.ensures.small c.new-control.ensures ∙ c.wide.ensures.same in
    let f = made_is most_pool _ (omega (arith, c.wide-2.ensures.same, entry_root (entry_asked v c.args.b h))) c.new-root.ensures ∙ c.wide-2.ensures.same in
    entry_fails v c.args.b h e f _ _ _ _ _ _ _ c.in-Err.is c.judge_entry.ensures.judged

pub returns-in-Ok-clause-judged : goal.returns-in-Ok-clause-judged
returns-in-Ok-clause-judged c =
    let v = c.args.s.now.valid in
    let h = c.requires.within.0 in
    let e = made_is most_controls _ c.wide.ensures.small c.new-control.ensures ∙ c.wide.ensures.same in
    let f = made_is most_pool _ (omega (arith, c.wide-2.ensures.same, entry_root (entry_asked v c.args.b h))) c.new-root.ensures ∙ c.wide-2.ensures.same in
    entry_passes v c.args.b h e f _ _ _ _ _ _ _ c.in-Ok.is c.judge_entry.ensures.judged
