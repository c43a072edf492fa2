use native.Mathlib.Omega.{arith}
use Rattle.std.proofs.Common.{inl, inr}
use Rattle.writing_file.specs.Laws.Writing.{fronted, unread_machines, unread_product, unread_long, restored_by}
use Rattle.writing_file.proofs.Promises.{writes_unread, writes_short, writes_whole}
use Rattle.writing_file.proofs.write.write_parts.Goals.{then-n-gt-MOST_BYTES-via-then-n-gt-MOST_BYTES, then-n-gt-MOST_BYTES-via-else-n-gt-MOST_BYTES+then-not-gives}
use Rattle.writing_file.proofs.write.write_parts.Goals as goal

pub returns-then-machines-gt-MOST_MACHINES : goal.returns-then-machines-gt-MOST_MACHINES
returns-then-machines-gt-MOST_MACHINES c =
    writes_unread _ _ (elim c.then-machines-gt-MOST_MACHINES.either [ inl h ↦ unread_machines _ h | inr h ↦ unread_product _ h.1 ])

pub returns-then-n-gt-MOST_BYTES : goal.returns-then-n-gt-MOST_BYTES
returns-then-n-gt-MOST_BYTES c =
    writes_unread _ _
    (elim c.then-n-gt-MOST_BYTES.branch [
      | then-n-gt-MOST_BYTES-via-then-n-gt-MOST_BYTES w ↦ unread_long _ (omega (arith, c.put_file-n.ensures.next, w.if-n-gt-MOST_BYTES.true))
      | then-n-gt-MOST_BYTES-via-else-n-gt-MOST_BYTES+then-not-gives w ↦ restored_by _ (fronted _ c.put_file-n.ensures w.if-n-gt-MOST_BYTES.false) w.gives.ensures w.if-not-gives.true
    ])

pub returns-then-buffer-n : goal.returns-then-buffer-n
returns-then-buffer-n c =
    let front = fronted _ c.put_file-n.ensures c.if-n-gt-MOST_BYTES.false in
    writes_short _ _ front (restored_by _ front c.gives.ensures c.if-not-gives.false) c.if-buffer-n.true

pub returns : goal.returns
returns c =
    let front = fronted _ c.put_file-n.ensures c.if-n-gt-MOST_BYTES.false in
    writes_whole _ _ front (restored_by _ front c.gives.ensures c.if-not-gives.false) c.if-buffer-n.false c.put_word.ensures
