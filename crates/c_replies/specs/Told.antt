-- What a call tells: the kind of the reply, and for each kind the numbers of document 01 in its order, 0 where there are fewer than four.
use Rattle.std.specs.Prelude.{ℕ, ◌≡◌, List, ◌∷◌, length, drop, Result, Ok, Err}
use Rattle.reading_file.specs.Said as Session
use Rattle.theory_model.specs.Verdict.{closed, outside, leaves, bad}
use Rattle.theory_files.specs.Reply.{FileReply, refused, verdict}
use Rattle.membership.specs.Member as Member
use Rattle.writing_file.specs.Write as Write
use Rattle.verdicts.specs.Said.{why_number, why_place}
use Rattle.verdicts.specs.declared.verdict.Failing.{Failing}
use Rattle.verdicts.specs.declared.verdict.Failing.TheVariants.{Outside, Leaves, Bad}
use Rattle.verdicts.specs.declared.verdict.Verdict.{Verdict}
use Rattle.verdicts.specs.declared.verdict.Verdict.TheVariants.{Closed, Fails}
use Rattle.verdicts.specs.declared.verdict.CheckRefusal.{CheckRefusal}
use Rattle.c_replies.specs.declared.told.Told.{Told}

-- the kinds
abbrev pub CLOSED : ℕ
CLOSED = 0

abbrev pub OUTSIDE : ℕ
OUTSIDE = 1

abbrev pub LEAVES : ℕ
LEAVES = 2

abbrev pub BAD : ℕ
BAD = 3

abbrev pub REFUSED : ℕ
REFUSED = 4

abbrev pub NO_QUEUE_ROOM : ℕ
NO_QUEUE_ROOM = 5

abbrev pub READ : ℕ
READ = 6

abbrev pub YES : ℕ
YES = 7

abbrev pub NO : ℕ
NO = 8

abbrev pub WRITTEN : ℕ
WRITTEN = 14

abbrev pub told_of : ℕ → ℕ → ℕ → ℕ → ℕ → Told
told_of kind a b c d = record { kind = kind; first = a; second = b; third = c; fourth = d }

-- a refusal's number and place
abbrev pub told_refusal : ℕ → ℕ → Told
told_refusal number place = told_of REFUSED number place 0 0

-- of checking: the pairs; or control state, transition, how many messages are shown and how many are followed after the step; or bad entry and how many
-- are shown
abbrev pub told_reply : FileReply → Told
told_reply (refused k p) = told_refusal k p
told_reply (verdict (closed n)) = told_of CLOSED n 0 0 0
told_reply (verdict outside) = told_of OUTSIDE 0 0 0 0
told_reply (verdict (leaves c t w f)) = told_of LEAVES c t (length w) f
told_reply (verdict (bad b w)) = told_of BAD b (length w) 0 0

abbrev pub told_answer : Session.ReadReply → Told
told_answer Session.read = told_of READ 0 0 0 0
told_answer (Session.refusal k p) = told_refusal k p

-- of membership: how many messages are followed
abbrev pub told_member : Member.MemberReply → Told
told_member (Member.yes far) = told_of YES far 0 0 0
told_member (Member.no far) = told_of NO far 0 0 0
told_member (Member.refusal k p) = told_refusal k p

-- of writing: how many bytes
abbrev pub told_written : Write.WriteReply → Told
told_written (Write.wrote n) = told_of WRITTEN n 0 0 0
told_written (Write.refusal k p) = told_refusal k p

-- the same of a verdict by value, which has how many messages are shown
abbrev pub told_failing : Failing → Told
told_failing Outside = told_of OUTSIDE 0 0 0 0
told_failing (Leaves c t n f) = told_of LEAVES c.0 t n f
told_failing (Bad b n) = told_of BAD b n 0 0

abbrev pub told_verdict : Result Verdict CheckRefusal → Told
told_verdict (Ok (Closed n)) = told_of CLOSED n 0 0 0
told_verdict (Ok (Fails f)) = told_failing f
told_verdict (Err why) = told_refusal (why_number why) (why_place why)

-- the reply's space needs so many entries, and the numbers fill its front
abbrev pub reply_least : ℕ
reply_least = 4

abbrev pub reply_after : Told → List ℕ → List ℕ
reply_after t reply = t.first ∷ t.second ∷ t.third ∷ t.fourth ∷ drop reply_least reply

pub record Tells (t : Told) (reply₀ reply₁ : List ℕ) (r : ℕ) : Type 0 where
  pub kind : r ≡ t.kind
  pub reply : reply₁ ≡ reply_after t reply₀
