use Rattle.std.proofs.lemmas.Result.{err_from_is_err_and}
use Rattle.reading_file.specs.Session.{tables_in}
use Rattle.theory_model.specs.Judge.{decide}
use Rattle.theory_files.specs.Tables.{session_of}
use Rattle.checking_session.specs.Laws.Sequence.{begins, goes_on, stops, joins}
use Rattle.checking_cursor.specs.Left.{from_entry}
use Rattle.checking_session.specs.Laws.Links.{steps_link}
use Rattle.checking_session.proofs.session.judge_from_step.Goals as goal

pub returns-in_err-sum-clause-judged : goal.returns-in_err-sum-clause-judged
returns-in_err-sum-clause-judged c =
    let T = tables_in c.args.s.now in
    let a = c.args in
    let p = err_from_is_err_and c.from_residual.result c.from_residual.ensures.1 in
    rw (p.1, p.2) (stops (decide (session_of T) (from_entry (session_of T) 0)) (steps_link T a.from a.first a.pairs) _ _ c.in_err-sum.was c.judge_steps.ensures.judged (begins c.requires.pairs_bound c.requires.ready.scratch) _)

pub returns-clause-judged : goal.returns-clause-judged
returns-clause-judged c =
    let T = tables_in c.args.s.now in
    let a = c.args in
    let g = goes_on (decide (session_of T) (from_entry (session_of T) 0)) (steps_link T a.from a.first a.pairs) _ _ c.in_ok-sum.was c.judge_steps.ensures.judged (begins c.requires.pairs_bound c.requires.ready.scratch) in
    joins g c.judge_entries.ensures.judged
