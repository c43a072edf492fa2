-- Field 2: the queues and their messages, which are numbered through the queues; and, in a file that resumes, what waits in them at the start.
use Rattle.std.specs.Prelude.{ℕ, zero, suc, ◌+◌, ◌*◌, Bool, cond, List, set, replicate, leb}
use Rattle.tables.specs.Limits.{most_queues, most_messages, most_starting}
use Rattle.tables.specs.Queues.{first_message}
use Rattle.tables.specs.Starting.{starting_length, waits}
use Rattle.numbers.specs.Part.{Part, got, provided, and_then}
use Rattle.numbers.specs.Number.{read_within}
use Rattle.tables.specs.declared.tables.Queues.{Queues}
use Rattle.reading_model.specs.Words.{read_word}
use Rattle.numbers.specs.Refusals.{passes_limit, starts_empty}

-- how many messages a queue has: with those before it the sum passes no limit
unfoldable pub read_term : List ℕ → ℕ → ℕ → Part ℕ
read_term s at sum =
    and_then (read_within s at 1 most_messages) (λ v next. provided (leb (sum + v) most_messages) passes_limit at (got v next))

-- the messages of the queues from number i on, and the sum
unfoldable pub read_counts : List ℕ → ℕ → ℕ → ℕ → ℕ → List ℕ → Part (ℕ × List ℕ)
read_counts s at sum zero i counts = got (sum, counts) at
read_counts s at sum (suc left) i counts =
    and_then (read_term s at sum) (λ v next. read_counts s next (sum + v) left (i + 1) (set counts i v))

-- queues that start empty
unfoldable pub counted_queues : List ℕ → ℕ → Part Queues
counted_queues s at =
    and_then (read_within s at 1 most_queues) (λ count p₁.
    and_then (read_counts s p₁ 0 count 0 (replicate most_queues 0)) (λ counted p₂.
    got
    (record {
      count = count;
      sum = counted.0;
      messages = counted.1;
      lengths = replicate most_queues 0;
      contents = replicate starting_length 0;
    })
    p₂))

-- the contents of queue i: how many messages, and these, each of the queue
unfoldable pub read_content : List ℕ → ℕ → Queues → ℕ → List ℕ × List ℕ → Part (List ℕ × List ℕ)
read_content s at q i held =
    and_then (read_within s at 0 most_starting) (λ len p₁.
    and_then (read_word s p₁ q.sum (first_message q.messages i) (first_message q.messages (suc i)) len (i * most_starting) held.1) (λ contents p₂.
    got (set held.0 i len, contents) p₂))

-- of the queues from number i on
unfoldable pub read_contents : List ℕ → ℕ → Queues → ℕ → ℕ → List ℕ × List ℕ → Part (List ℕ × List ℕ)
read_contents s at q zero i held = got held at
read_contents s at q (suc left) i held = and_then (read_content s at q i held) (λ held' next. read_contents s next q left (i + 1) held')

-- queues that start with these contents
abbrev pub starting_with : Queues → List ℕ × List ℕ → Queues
starting_with q held = record { count = q.count; sum = q.sum; messages = q.messages; lengths = held.0; contents = held.1 }

-- WHAT WAITS AT THE START; 23, at the first number, if nothing does
unfoldable pub read_starting : List ℕ → ℕ → Queues → Part Queues
read_starting s at q =
    and_then (read_contents s at q q.count 0 (replicate most_queues 0, replicate starting_length 0)) (λ held next.
    provided (waits held.0) starts_empty 0 (got (starting_with q held) next))

unfoldable pub read_queues : List ℕ → ℕ → Bool → Part Queues
read_queues s at resumes = and_then (counted_queues s at) (λ q p. cond resumes (read_starting s p q) (got q p))
