use mathlib.Core.Path.{refl, sym, ◌∙◌}
use Rattle.replaying_step.specs.Laws.Shifting.{word_cut, receive_none, receive_length, receive_taken}
use Rattle.replaying_step.proofs.runs.RunRecord.receive.Goals as goal

pub returns-then-not-begins : goal.returns-then-not-begins
returns-then-not-begins c =
    let begins = rw (c.of-ring.ensures, word_cut c.args.rows.now c.args.row) at c.begins.ensures in
    record { states = refl; shifts = λ q S. receive_none S (sym c.if-not-begins.true ∙ begins) }

pub overflow_sub-self : goal.overflow_sub-self
overflow_sub-self c =
    let begins = rw (c.of-ring.ensures, word_cut c.args.rows.now c.args.row) at c.begins.ensures in
    rw c.of-ring.ensures (receive_length c.requires.shiftable (sym c.if-not-begins.false ∙ begins))

pub returns : goal.returns
returns c =
    let begins = rw (c.of-ring.ensures, word_cut c.args.rows.now c.args.row) at c.begins.ensures in
    record { states = refl; shifts = λ q S. rw c.of-ring.ensures (receive_taken S (sym c.if-not-begins.false ∙ begins)) }
