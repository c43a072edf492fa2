use Prim.Native.Nat.{◌+◌}
use native.Mathlib.Omega.{arith}
use Rattle.std.proofs.lemmas.Result.{err_from_is_err_and}
use Rattle.reading_file.specs.Session.{tables_in}
use Rattle.theory_model.specs.Judge.{decide}
use Rattle.theory_files.specs.Tables.{session_of}
use Rattle.checking_session.specs.Laws.Sequence.{same_on, goes_within, goes_on, stops, ends}
use Rattle.checking_cursor.specs.Left.{from_entry}
use Rattle.checking_session.specs.Laws.Links.{entry_link, entry_end}
use Rattle.checking_session.proofs.entries.judge_entries.Goals as goal

pub returns-in_err-sum-clause-judged : goal.returns-in_err-sum-clause-judged
returns-in_err-sum-clause-judged c =
    let T = tables_in c.args.s.now in
    let p = err_from_is_err_and c.from_residual.result c.from_residual.ensures.1 in
    rw (p.1, p.2) (stops (decide (session_of T) (from_entry (session_of T) (c.loop-b.b + 1))) (entry_link T c.loop-b.b c.loop-b.sum (omega (arith, c.loop-b-test.true, c.wide-b-end.ensures.same))) _ _ c.in_err-sum.was c.judge_one.ensures.judged c.loop-b.invariant.0 _)

pub loop-b-preserved : goal.loop-b-preserved
loop-b-preserved c =
    let T = tables_in c.args.s.now in
    let g = goes_on (decide (session_of T) (from_entry (session_of T) (c.loop-b.b + 1))) (entry_link T c.loop-b.b c.loop-b.sum (omega (arith, c.loop-b-test.true, c.wide-b-end.ensures.same))) _ _ c.in_ok-sum.was c.judge_one.ensures.judged c.loop-b.invariant.0 in
    (goes_within (omega (arith, c.loop-b.invariant.0.few)) g, (same_on c.judge_one.ensures.same c.loop-b.invariant.1.0, omega (arith, c.loop-b-test.true, c.wide-b-end.ensures.same)))

pub returns-clause-judged : goal.returns-clause-judged
returns-clause-judged c =
    ends (entry_end (tables_in c.args.s.now) c.loop-b.b c.loop-b.sum (omega (arith, c.loop-b-test.false, c.wide-b-end.ensures.same))) c.loop-b.invariant.0 _ (omega (arith, c.loop-b.invariant.1.1, c.args.s.now.valid.bad.most))
