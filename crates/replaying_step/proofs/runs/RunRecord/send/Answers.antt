use mathlib.Core.Path.{refl}
use Rattle.replaying_step.specs.Laws.Shifting.{word_cut, send_full, send_put}
use Rattle.replaying_step.proofs.runs.RunRecord.send.Goals as goal

pub returns-then-count-n-gt-QUEUE_ROOM : goal.returns-then-count-n-gt-QUEUE_ROOM
returns-then-count-n-gt-QUEUE_ROOM c = (record { states = refl; shifts = λ q S. send_full S c.if-count-n-gt-QUEUE_ROOM.true }, refl)

pub returns : goal.returns
returns c =
    let put = rw (c.of-ring.ensures, word_cut c.args.rows.now c.args.row) at c.put.ensures in
    (record { states = refl; shifts = λ q S. rw put (send_put S c.if-count-n-gt-QUEUE_ROOM.false) }, refl)
