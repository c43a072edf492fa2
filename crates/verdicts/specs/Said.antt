-- What a verdict says: for each case of the code's enums the reply of document 01.
use Rattle.std.specs.Prelude.{ℕ, ◌≤◌, ◌≡◌, List, length, take, Result, Ok, Err}
use Rattle.numbers.specs.Said.{number_of, place_of}
use Rattle.numbers.specs.Refusals.{short_memory}
use Rattle.theory_model.specs.Verdict.{Reply, closed, outside, leaves, bad}
use Rattle.theory_files.specs.Reply.{FileReply, refused, verdict, shown_of}
use Rattle.verdicts.specs.declared.verdict.Failing.{Failing}
use Rattle.verdicts.specs.declared.verdict.Failing.TheVariants.{Outside, Leaves, Bad}
use Rattle.verdicts.specs.declared.verdict.Verdict.{Verdict}
use Rattle.verdicts.specs.declared.verdict.Verdict.TheVariants.{Closed, Fails}
use Rattle.verdicts.specs.declared.verdict.CheckRefusal.{CheckRefusal}
use Rattle.verdicts.specs.declared.verdict.CheckRefusal.TheVariants.{File, ShortMemory}

-- an item that fails; the contents shown stand at the front of the buffer at exit
abbrev pub said_failing : Failing → List ℕ → Reply
said_failing Outside contents = outside
said_failing (Leaves control transition shown far) contents = leaves control.0 transition (take shown contents) far
said_failing (Bad number shown) contents = bad number (take shown contents)

-- items judged: the pairs visited, or the first that fails
abbrev pub said_items : Result ℕ Failing → List ℕ → Reply
said_items (Ok pairs) contents = closed pairs
said_items (Err failing) contents = said_failing failing contents

-- a verdict, and what a check answers
abbrev pub said : Verdict → List ℕ → Reply
said (Closed pairs) contents = closed pairs
said (Fails failing) contents = said_failing failing contents

-- the number and the place of why there is none
abbrev pub why_number : CheckRefusal → ℕ
why_number (File why) = number_of why
why_number ShortMemory = short_memory

abbrev pub why_place : CheckRefusal → ℕ
why_place (File why) = place_of why
why_place ShortMemory = 0

abbrev pub said_verdict : Result Verdict CheckRefusal → List ℕ → FileReply
said_verdict (Ok v) contents = verdict (said v contents)
said_verdict (Err why) contents = refused (why_number why) (why_place why)

-- the verdict on items judged
abbrev pub concluded : Result ℕ Failing → Verdict
concluded (Ok pairs) = Closed pairs
concluded (Err failing) = Fails failing

-- how many messages are shown
abbrev pub messages_in : Failing → ℕ
messages_in Outside = 0
messages_in (Leaves control transition shown far) = shown
messages_in (Bad number shown) = shown

abbrev pub shown_items : Result ℕ Failing → ℕ
shown_items (Ok pairs) = 0
shown_items (Err failing) = messages_in failing

abbrev pub shown_in : Result Verdict CheckRefusal → ℕ
shown_in (Ok (Closed pairs)) = 0
shown_in (Ok (Fails failing)) = messages_in failing
shown_in (Err why) = 0

-- THE NUMBER that an answer carries is that of the messages shown, and the buffer has as many
pub record Shows (r : Result Verdict CheckRefusal) (contents : List ℕ) : Type 0 where
  pub number : shown_in r ≡ length (shown_of (said_verdict r contents))
  pub within : shown_in r ≤ length contents
