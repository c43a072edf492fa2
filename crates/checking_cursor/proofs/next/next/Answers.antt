use Rattle.checking_cursor.proofs.next.next.Goals as goal

pub returns-in-Entry : goal.returns-in-Entry
returns-in-Entry c = rw (c.in_ok-at.was, c.in-Entry.is) (c.entry_from.ensures c.args.rows.now)
