use Prim.Native.Nat.{◌+◌, ◌-◌, ◌*◌, ◌≤◌}
use Rattle.reading_file.specs.Session.{tables_in}
use Rattle.theory_model.specs.Judge.{decide}
use Rattle.theory_files.specs.Tables.{session_of}
use Rattle.tables.specs.Limits.{most_transitions}
use Rattle.checking_items.specs.Promises.{SameLent}
use Rattle.checking_session.specs.Laws.Sequence.{Going}
use Rattle.theory_model.specs.Model.{controls}
use Rattle.checking_cursor.specs.Left.{steps_left, most_steps}
use Rattle.checking_session.specs.Judges.{pairs_before}
use Rattle.checking_session.proofs.steps.judge_steps.Given as goal

abbrev pub invariant-loop-c : goal.invariant-loop-c
invariant-loop-c l =
    let S = session_of (tables_in l.s) in
    Going (pairs_before l.c l.i)
    (decide S (steps_left S.model l.from l.first (controls S.model - l.from)) l.pairs)
    (decide S (steps_left S.model l.c l.i (controls S.model - l.c)) l.sum) l.initial.m.contents.now l.sum l.m.contents.now l.m.seen.now l.m.queue.now
    × (SameLent l.initial.m l.m × ((l.i ≤ l.s.tables.head.transitions) × (l.c * most_transitions + l.i ≤ most_steps)))
