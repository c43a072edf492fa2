use Prim.Native.Nat.{◌≤◌}
use Rattle.reading_file.specs.Session.{tables_in}
use Rattle.theory_model.specs.Judge.{decide}
use Rattle.theory_files.specs.Tables.{session_of}
use Rattle.checking_items.specs.Promises.{SameLent}
use Rattle.checking_session.specs.Laws.Sequence.{Going}
use Rattle.checking_cursor.specs.Left.{steps_on}
use Rattle.checking_session.specs.Judges.{pairs_before}
use Rattle.checking_session.proofs.steps.judge_control.Given as goal

abbrev pub invariant-loop-i : goal.invariant-loop-i
invariant-loop-i l =
    let S = session_of (tables_in l.s) in
    Going (pairs_before l.c.0 l.i)
    (decide S (steps_on S.model l.c.0 l.first) l.pairs)
    (decide S (steps_on S.model l.c.0 l.i) l.sum) l.initial.m.contents.now l.sum l.m.contents.now l.m.seen.now l.m.queue.now
    × (SameLent l.initial.m l.m × (l.i ≤ l.s.tables.head.transitions))
