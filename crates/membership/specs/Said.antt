-- What the code's enums say: for each case the number and the values of document 01.
use Rattle.std.specs.Prelude.{ℕ, Result, Ok, Err}
use Rattle.numbers.specs.Said.{number_of, place_of}
use Rattle.membership.specs.Member.{MemberReply, yes, no, refusal}
use Rattle.membership.specs.declared.reply.Member.{Member}
use Rattle.membership.specs.declared.reply.Member.TheVariants.{Yes, No}
use Rattle.membership.specs.declared.reply.MemberRefusal.{MemberRefusal}
use Rattle.membership.specs.declared.reply.MemberRefusal.TheVariants.{File, NoControl, NoMessage, EarlierQueue}
use Rattle.numbers.specs.Refusals.{no_control, no_message, earlier_queue}

-- the number and the place of a refusal
abbrev pub why_number : MemberRefusal → ℕ
why_number (File why) = number_of why
why_number NoControl = no_control
why_number (NoMessage p) = no_message
why_number (EarlierQueue p) = earlier_queue

abbrev pub why_place : MemberRefusal → ℕ
why_place (File why) = place_of why
why_place NoControl = 0
why_place (NoMessage p) = p
why_place (EarlierQueue p) = p

abbrev pub said_member : Result Member MemberRefusal → MemberReply
said_member (Ok (Yes far)) = yes far
said_member (Ok (No far)) = no far
said_member (Err why) = refusal (why_number why) (why_place why)
