use Rattle.std.proofs.Common.{sym, ap, ◌∙◌}
use Rattle.reading_file.specs.Said.{said_answer}
use Rattle.reading_file.specs.File.{handed}
use Rattle.reading_file.specs.Lent.{lent_reading}
use Rattle.membership.specs.Laws.Asking.{said_handed_on, read_valid, reply_unread, reply_asked}
use Rattle.membership.proofs.member.member.Goals as goal

pub returns-in_err-read : goal.returns-in_err-read
returns-in_err-read c =
    let a = c.args in
    let e = ap (λ r. lent_reading r c.read_into.new.rows c.read_into.new.finals c.read_into.new.arcs) c.in_err-read.was in
    said_handed_on _ _ c.from_residual.ensures.1 ∙ sym (reply_unread a.file.now a.control a.contents.now (sym (ap said_answer e) ∙ c.read_into.ensures.reads.reply))

pub ask-requires : goal.ask-requires
ask-requires c =
    let e = ap (λ r. lent_reading r c.read_into.new.rows c.read_into.new.finals c.read_into.new.arcs) c.in_ok-read.was in
    read_valid c.args.file.now (sym (ap said_answer e) ∙ c.read_into.ensures.reads.reply) (sym (ap handed e) ∙ c.read_into.ensures.reads.tables)

pub returns : goal.returns
returns c =
    let a = c.args in
    let e = ap (λ r. lent_reading r c.read_into.new.rows c.read_into.new.finals c.read_into.new.arcs) c.in_ok-read.was in
    c.ask.ensures ∙ sym (reply_asked a.file.now a.control a.contents.now (sym (ap said_answer e) ∙ c.read_into.ensures.reads.reply) (sym (ap handed e) ∙ c.read_into.ensures.reads.tables))
