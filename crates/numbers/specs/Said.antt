-- What the code's enums say: for each case the number and the values of document 01.
use Rattle.std.specs.Prelude.{ℕ, ◌<◌, ◌≡◌, Result, Ok, Err}
use Rattle.numbers.specs.Limits.{most_bytes}
use Rattle.numbers.specs.Part.{Part, got, refused}
use Rattle.numbers.specs.declared.refusal.Refusal.{Refusal}
use Rattle.numbers.specs.declared.refusal.Refusal.TheVariants.{TooLong, Ends, NotShortest, OutOfRange, PassesLimit, OtherQueue, NotAscending, NotInQueueOrder, Trailing, StartsEmpty}
use Rattle.numbers.specs.Refusals.{too_long, ends_early, not_shortest, out_of_range, passes_limit, other_queue, not_ascending, not_in_queue_order, trailing, starts_empty}

-- a refusal's number in the table of document 01, "When a file or a question is turned away", and of document 02, change 8
abbrev pub number_of : Refusal → ℕ
number_of TooLong = too_long
number_of (Ends p) = ends_early
number_of (NotShortest p) = not_shortest
number_of (OutOfRange p) = out_of_range
number_of (PassesLimit p) = passes_limit
number_of (OtherQueue p) = other_queue
number_of (NotAscending p) = not_ascending
number_of (NotInQueueOrder p) = not_in_queue_order
number_of (Trailing p) = trailing
number_of StartsEmpty = starts_empty

-- and its place
abbrev pub place_of : Refusal → ℕ
place_of TooLong = most_bytes
place_of (Ends p) = p
place_of (NotShortest p) = p
place_of (OutOfRange p) = p
place_of (PassesLimit p) = p
place_of (OtherQueue p) = p
place_of (NotAscending p) = p
place_of (NotInQueueOrder p) = p
place_of (Trailing p) = p
place_of StartsEmpty = 0

-- WHAT A RESULT SAYS: the value and the place after it, or why not
module _ {A B : Type 0} where
  -- with what was filled on the way: of no account after a refusal
  abbrev pub said_with : (A → B) → Result A Refusal → ℕ → Part B
  said_with f (Ok x) next = got (f x) next
  said_with f (Err why) next = refused (number_of why) (place_of why)

module _ {A : Type 0} where
  abbrev pub said : Result A Refusal → ℕ → Part A
  said (Ok x) next = got x next
  said (Err why) next = refused (number_of why) (place_of why)

-- a byte as a wider number
pub record Widened (x r : ℕ) : Type 0 where
  pub same : r ≡ x
  pub small : r < 256
