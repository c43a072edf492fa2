use Prim.Native.Nat.{◌+◌}
use native.Mathlib.Omega.{arith}
use Rattle.std.proofs.lemmas.Result.{err_from_is_err_and}
use Rattle.reading_file.specs.Session.{tables_in}
use Rattle.theory_model.specs.Judge.{decide}
use Rattle.theory_files.specs.Tables.{session_of}
use Rattle.checking_session.specs.Laws.Sequence.{same_on, goes_within, goes_on, stops, ends}
use Rattle.checking_cursor.specs.Left.{steps_on}
use Rattle.checking_session.specs.Laws.Links.{turn_link, turn_end}
use Rattle.checking_session.proofs.steps.judge_control.Goals as goal

pub returns-in_err-sum-clause-judged : goal.returns-in_err-sum-clause-judged
returns-in_err-sum-clause-judged c =
    let T = tables_in c.args.s.now in
    let p = err_from_is_err_and c.from_residual.result c.from_residual.ensures.1 in
    rw (p.1, p.2) (stops (decide (session_of T) (steps_on (session_of T).model c.args.c.0 (c.loop-i.i + 1))) (turn_link T c.args.c.0 c.loop-i.i c.loop-i.sum (omega (arith, c.loop-i-test.true, c.wide-i-end.ensures.same))) _ _ c.in_err-sum.was c.judge_turn.ensures.judged c.loop-i.invariant.0 _)

pub loop-i-preserved : goal.loop-i-preserved
loop-i-preserved c =
    let T = tables_in c.args.s.now in
    let g = goes_on (decide (session_of T) (steps_on (session_of T).model c.args.c.0 (c.loop-i.i + 1))) (turn_link T c.args.c.0 c.loop-i.i c.loop-i.sum (omega (arith, c.loop-i-test.true, c.wide-i-end.ensures.same))) _ _ c.in_ok-sum.was c.judge_turn.ensures.judged c.loop-i.invariant.0 in
    (goes_within (omega (arith, c.loop-i.invariant.0.few)) g, (same_on c.judge_turn.ensures.same c.loop-i.invariant.1.0, omega (arith, c.loop-i-test.true, c.wide-i-end.ensures.same)))

pub returns-clause-judged : goal.returns-clause-judged
returns-clause-judged c =
    ends (turn_end (tables_in c.args.s.now) c.args.c.0 c.loop-i.i c.loop-i.sum (omega (arith, c.loop-i-test.false, c.wide-i-end.ensures.same))) c.loop-i.invariant.0 _ (omega (arith, c.loop-i.invariant.1.1, c.args.s.now.valid.transitions.most))
