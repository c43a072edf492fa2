use Prim.Native.Nat.{◌≤◌}
use Rattle.reading_file.specs.Session.{tables_in}
use Rattle.theory_model.specs.Judge.{decide}
use Rattle.theory_files.specs.Tables.{session_of}
use Rattle.checking_items.specs.Promises.{SameLent}
use Rattle.checking_session.specs.Laws.Sequence.{Going}
use Rattle.checking_cursor.specs.Left.{from_entry}
use Rattle.checking_session.specs.Judges.{pairs_to_entry}
use Rattle.checking_session.proofs.entries.judge_entries.Given as goal

abbrev pub invariant-loop-b : goal.invariant-loop-b
invariant-loop-b l =
    let S = session_of (tables_in l.s) in
    Going (pairs_to_entry l.b)
    (decide S (from_entry S l.first) l.pairs)
    (decide S (from_entry S l.b) l.sum) l.initial.m.contents.now l.sum l.m.contents.now l.m.seen.now l.m.queue.now
    × (SameLent l.initial.m l.m × (l.b ≤ l.s.tables.head.bad))
