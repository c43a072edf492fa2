-- What the result of reading says: for each case the values of document 01.
use Rattle.std.specs.Prelude.{ℕ, Result, Ok, Err}
use Rattle.numbers.specs.Said.{number_of, place_of}
use Rattle.numbers.specs.declared.refusal.Refusal.{Refusal}

-- the answer of reading: read, or a refusal's number and place
pub data ReadReply : Type 0 where
  read : ReadReply
  refusal : ℕ → ℕ → ReadReply

module _ {A : Type 0} where
  abbrev pub said_answer : Result A Refusal → ReadReply
  said_answer (Ok tables) = read
  said_answer (Err why) = refusal (number_of why) (place_of why)
