-- The line that is written of a verdict is the line of checking's reply; and with enough lent it is the line of the file's reply.
use Rattle.std.specs.Prelude.{ℕ, ◌+◌, ◌*◌, ◌≤◌, ◌≡◌, Result, List, ◌++◌, length, drop, replicate, leb}
use Rattle.std.proofs.Common.{sym, ap, subst, ◌∙◌, le-leb, arith}
use Rattle.std.proofs.lemmas.List.{length-replicate}
use Rattle.theory_files.specs.Reply.{shown_of, line_of, reply_of, reply_to}
use Rattle.theory_files.specs.Checking.{check_of, read_lent, Checks, table_least, most_shown}
use Rattle.tables.specs.Limits.{contents_least}
use Rattle.theory_files.specs.Laws.Checking.{long_enough, lent_enough, lent_sound}
use Rattle.theory_files.specs.Laws.Shown.{shown_fits}
use Rattle.checking_line.specs.Said.{holds, given, Writes}
use Rattle.verdicts.specs.Said.{said_verdict, shown_in}
use Rattle.checking_file.specs.Laws.Shows.{checks_shows}
use Rattle.verdicts.specs.declared.verdict.Verdict.{Verdict}
use Rattle.verdicts.specs.declared.verdict.CheckRefusal.{CheckRefusal}
use Rattle.checking_answer.specs.Answer.{line_in, Answers, Lines, most_line, WholeLine}

-- room for a line that shows no more messages than there are, and no more than any verdict shows
room_for : (room contents shown : ℕ) → shown ≤ contents → shown ≤ most_shown → holds room contents shown ≡ leb (4 * shown + 52) room
room_for room contents shown h k = rw (le-leb shown contents h, le-leb shown contents_least (omega arith))

-- CHECKED AND WRITTEN: ANSWERED
module _ {file seen queue contents seen₁ queue₁ contents₁ : List ℕ} (v : Result Verdict CheckRefusal)
    (checks : Checks file seen queue contents (said_verdict v contents₁) seen₁ queue₁ contents₁) where
  few : length (shown_of (said_verdict v contents₁)) ≤ most_shown
  few = subst (λ r. length (shown_of r) ≤ most_shown) (sym checks.reply) (shown_fits (read_lent file seen queue contents) (lent_sound file seen queue contents))

  counted : shown_in v ≡ length (shown_of (said_verdict v contents₁))
  counted = (checks_shows v checks).number

  within : length (shown_of (said_verdict v contents₁)) ≤ length contents₁
  within = omega (arith, counted, (checks_shows v checks).within)

  room : (n : ℕ) → holds n (length contents₁) (shown_in v) ≡ leb (4 * length (shown_of (said_verdict v contents₁)) + 52) n
  room n = ap (holds n (length contents₁)) counted ∙ room_for n (length contents₁) (length (shown_of (said_verdict v contents₁))) within few

  text : (n : ℕ) → given (holds n (length contents₁) (shown_in v)) (line_of (said_verdict v contents₁)) ≡ line_in n (check_of file seen queue contents).reply
  text n = ap (λ b. given b (line_of (said_verdict v contents₁))) (room n) ∙ ap (line_in n) checks.reply

  pub answered_by : {buffer buffer₁ : List ℕ} {r : ℕ} → Writes buffer v contents₁ buffer₁ r
      → Answers file seen queue contents buffer seen₁ queue₁ contents₁ buffer₁ r
  answered_by {buffer} {buffer₁} {r} w = record {
    reply = w.line.reply ∙ ap length (text (length buffer));
    buffer = subst (λ (t : List ℕ). buffer₁ ≡ t ++ drop (length t) buffer) (text (length buffer)) w.line.buffer;
    seen = checks.seen;
    queue = checks.queue;
    contents = checks.contents;
  }

-- with enough lent checking's reply is the reply to the file
reply_whole : (file seen queue contents : List ℕ) → table_least ≤ length seen → table_least ≤ length queue → contents_least ≤ length contents
    → (check_of file seen queue contents).reply ≡ reply_of file
unfolding reply_of
reply_whole file seen queue contents a b c = ap reply_to (lent_enough file seen queue contents (long_enough file seen queue contents a b c))

-- ANSWERED WITH ENOUGH LENT: the line of the file
pub lines : {file seen queue contents buffer seen₁ queue₁ contents₁ buffer₁ : List ℕ} {r : ℕ} → table_least ≤ length seen → table_least ≤ length queue
    → contents_least ≤ length contents → Answers file seen queue contents buffer seen₁ queue₁ contents₁ buffer₁ r → Lines file buffer buffer₁ r
lines {file} {seen} {queue} {contents} {buffer} {seen₁} {queue₁} {contents₁} {buffer₁} a b c answers =
    let e = ap (line_in (length buffer)) (reply_whole file seen queue contents a b c) in
    record {
      reply = answers.reply ∙ ap length e;
      buffer = subst (λ (t : List ℕ). buffer₁ ≡ t ++ drop (length t) buffer) e answers.buffer;
    }

-- a new table has the length that was asked for
pub new_long : (n : ℕ) → n ≤ length {A = ℕ} (replicate n 0)
new_long n = let l : length {A = ℕ} (replicate n 0) ≡ n = length-replicate n 0 in omega (arith, l)

-- THERE IS ROOM FOR EVERY LINE
pub room_for_all : (file : List ℕ) (room : ℕ) → most_line ≤ room → line_in room (reply_of file) ≡ line_of (reply_of file)
room_for_all file room h =
    let seen : List ℕ = replicate table_least 0 in
    let contents : List ℕ = replicate contents_least 0 in
    let e = reply_whole file seen seen contents (new_long table_least) (new_long table_least) (new_long contents_least) in
    let few =
    subst (λ r. length (shown_of r) ≤ most_shown) e (shown_fits (read_lent file seen seen contents) (lent_sound file seen seen contents))
    in
    let wide : 4 * length (shown_of (reply_of file)) + 52 ≤ room = omega (arith, few) in
    ap (λ b. given b (line_of (reply_of file))) (le-leb (4 * length (shown_of (reply_of file)) + 52) room wide)

pub whole : {file buffer buffer₁ : List ℕ} {r : ℕ} → length buffer ≡ most_line → length buffer₁ ≡ most_line → Lines file buffer buffer₁ r
    → WholeLine file buffer buffer₁ r
whole {file} {buffer} {buffer₁} long kept lines =
    let e = room_for_all file (length buffer) (omega (arith, long)) in
    record {
      reply = lines.reply ∙ ap length e;
      buffer = subst (λ (t : List ℕ). buffer₁ ≡ t ++ drop (length t) buffer) e lines.buffer;
      long = kept;
    }
