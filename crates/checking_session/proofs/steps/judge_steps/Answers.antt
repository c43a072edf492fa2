use Prim.Native.Nat.{◌+◌, ◌-◌}
use native.Mathlib.Omega.{arith}
use Rattle.std.proofs.lemmas.Result.{err_from_is_err_and}
use Rattle.reading_file.specs.Session.{tables_in}
use Rattle.theory_model.specs.Judge.{decide}
use Rattle.theory_files.specs.Tables.{session_of}
use Rattle.checking_session.specs.Laws.Sequence.{same_on, goes_on, stops, ends}
use Rattle.theory_model.specs.Model.{controls}
use Rattle.tables.specs.Laws.Kinds.{control_made}
use Rattle.checking_cursor.specs.Left.{steps_left}
use Rattle.checking_session.specs.Laws.Links.{control_link, control_end}
use Rattle.checking_session.proofs.steps.judge_steps.Goals as goal

pub returns-in_err-sum-clause-judged : goal.returns-in_err-sum-clause-judged
returns-in_err-sum-clause-judged c =
    let T = tables_in c.args.s.now in
    let v = c.args.s.now.valid.machines in
    let made = control_made v c.loop-c.c c.loop-c-test.true c.new-control.ensures in
    let p = err_from_is_err_and c.from_residual.result c.from_residual.ensures.1 in
    rw (p.1, p.2) (stops (decide (session_of T) (steps_left (session_of T).model (c.loop-c.c + 1) 0 (controls (session_of T).model - (c.loop-c.c + 1)))) (control_link T v c.loop-c.c c.loop-c.i c.loop-c.sum c.loop-c-test.true) _ _ c.in_err-sum.was (rw made at c.judge_control.ensures.judged) c.loop-c.invariant.0 _)

pub loop-c-preserved : goal.loop-c-preserved
loop-c-preserved c =
    let T = tables_in c.args.s.now in
    let v = c.args.s.now.valid.machines in
    let made = control_made v c.loop-c.c c.loop-c-test.true c.new-control.ensures in
    let g = goes_on (decide (session_of T) (steps_left (session_of T).model (c.loop-c.c + 1) 0 (controls (session_of T).model - (c.loop-c.c + 1)))) (control_link T v c.loop-c.c c.loop-c.i c.loop-c.sum c.loop-c-test.true) _ _ c.in_ok-sum.was (rw made at c.judge_control.ensures.judged) c.loop-c.invariant.0 in
    (g, (same_on c.judge_control.ensures.same c.loop-c.invariant.1.0, (omega arith, omega (arith, c.loop-c-test.true, v.product_most))))

pub returns-clause-judged : goal.returns-clause-judged
returns-clause-judged c =
    ends (control_end (tables_in c.args.s.now) c.args.s.now.valid.machines c.loop-c.c c.loop-c.i c.loop-c.sum c.loop-c-test.false) c.loop-c.invariant.0 _ (omega (arith, c.loop-c.invariant.1.1.1))
