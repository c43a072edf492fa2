use mathlib.Core.Path.{sym, ◌∙◌}
use Rattle.checking_session.specs.Judges.{turn_of}
use Rattle.checking_session.specs.Laws.Turns.{turn_none, step_of, turn_passes, turn_fails, turn_contents}
use Rattle.checking_session.proofs.steps.judge_turn.Goals as goal

pub returns-then-not-is_at-clause-judged : goal.returns-then-not-is_at-clause-judged
returns-then-not-is_at-clause-judged c =
    turn_none c.args.c (turn_of c.args.s.now.valid c.requires.within) (sym (c.if-not-is_at.true) ∙ c.is_at.ensures) _ c.requires.ready.scratch

pub judge_step-requires-clause-step : goal.judge_step-requires-clause-step
judge_step-requires-clause-step c =
    step_of c.args.c (turn_of c.args.s.now.valid c.requires.within) (sym (c.if-not-is_at.false) ∙ c.is_at.ensures)

pub far_of-far-requires-clause-step : goal.far_of-far-requires-clause-step
far_of-far-requires-clause-step c =
    step_of c.args.c (turn_of c.args.s.now.valid c.requires.within) (sym (c.if-not-is_at.false) ∙ c.is_at.ensures)

pub far_of-far-requires-clause-contents_at : goal.far_of-far-requires-clause-contents_at
far_of-far-requires-clause-contents_at c =
    turn_contents c.args.c (turn_of c.args.s.now.valid c.requires.within) (sym (c.if-not-is_at.false) ∙ c.is_at.ensures) c.args.pairs _ _ _ _ _ _ c.in-Err.is c.judge_step.ensures.judged c.requires.ready.room

pub returns-in-Err-clause-judged : goal.returns-in-Err-clause-judged
returns-in-Err-clause-judged c =
    turn_fails c.args.c (turn_of c.args.s.now.valid c.requires.within) (sym (c.if-not-is_at.false) ∙ c.is_at.ensures) _ _ _ _ _ _ _ _ c.in-Err.is c.judge_step.ensures.judged c.far_of-far.ensures

pub returns-in-Ok-clause-judged : goal.returns-in-Ok-clause-judged
returns-in-Ok-clause-judged c =
    turn_passes c.args.c (turn_of c.args.s.now.valid c.requires.within) (sym (c.if-not-is_at.false) ∙ c.is_at.ensures) _ _ _ _ _ _ _ c.in-Ok.is c.judge_step.ensures.judged
