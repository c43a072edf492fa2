use mathlib.Core.Path.{refl, sym, ap, ◌∙◌}
use native.Mathlib.Omega.{arith}
use Rattle.std.proofs.lemmas.Result.{err_from_is_err_and}
use Rattle.reading_file.specs.Lent.{lent_reading}
use Rattle.checking_file.specs.Laws.Reply.{too_long_lem, too_little, not_read, read_valid, blank_room, judged}
use Rattle.checking_file.proofs.check.check.Goals as goal

pub returns-then-file-gt-MOST_BYTES : goal.returns-then-file-gt-MOST_BYTES
returns-then-file-gt-MOST_BYTES c =
    let said = too_long_lem c.args.file.now c.args.seen.now c.args.queue.now c.args.contents.now c.if-file-gt-MOST_BYTES.true in
    record { checks = said.0; two_runs = said.1.0; means = said.1.1.0; shows = said.1.1.1 }

pub returns-then-not-is_enough : goal.returns-then-not-is_enough
returns-then-not-is_enough c =
    let said = too_little c.args.file.now c.args.seen.now c.args.queue.now c.args.contents.now (omega (arith, c.if-file-gt-MOST_BYTES.false)) (sym c.is_enough.ensures ∙ c.if-not-is_enough.true) in
    record { checks = said.0; two_runs = said.1.0; means = said.1.1.0; shows = said.1.1.1 }

pub returns-in_err-read : goal.returns-in_err-read
returns-in_err-read c =
    let p = err_from_is_err_and c.from_residual.result c.from_residual.ensures.1 in
    let said = not_read c.args.file.now c.args.seen.now c.args.queue.now c.args.contents.now c.read_into.ensures.reads (sym c.is_enough.ensures ∙ c.if-not-is_enough.false) _ (ap (λ r. lent_reading r c.read_into.new.rows c.read_into.new.finals c.read_into.new.arcs) c.in_err-read.was) in
    rw (p.1, p.2) (record { checks = said.0; two_runs = said.1.0; means = said.1.1.0; shows = said.1.1.1 })

pub invariant_of-session : goal.invariant_of-session
invariant_of-session c =
    record { valid = read_valid c.args.file.now c.read_into.ensures.reads (ap (λ r. lent_reading r c.read_into.new.rows c.read_into.new.finals c.read_into.new.arcs) c.in_ok-read.was) }

pub judge_read-requires : goal.judge_read-requires
judge_read-requires c = record { room = blank_room c.args.file.now c.args.seen.now c.args.queue.now c.args.contents.now (sym c.is_enough.ensures ∙ c.if-not-is_enough.false) c.blank.ensures c.blank-2.ensures }

pub returns : goal.returns
returns c =
    let e = ap (λ r. lent_reading r c.read_into.new.rows c.read_into.new.finals c.read_into.new.arcs) c.in_ok-read.was in
    let said = judged c.args.file.now c.args.seen.now c.args.queue.now c.args.contents.now c.read_into.ensures.reads (sym c.is_enough.ensures ∙ c.if-not-is_enough.false) _ e c.judge_read.result _ _ c.blank.ensures c.blank-2.ensures refl c.judge_read.ensures in
    record { checks = said.0; two_runs = said.1.0; means = said.1.1.0; shows = said.1.1.1 }
