-- What holds of the queues that were read (field 2), where they start empty.
use Rattle.std.specs.Prelude.{ℕ, ◌+◌, ◌*◌, ◌≤◌, ◌<◌, ◌≡◌, List, length, set}
use Rattle.std.proofs.Math.Path.{refl, subst}
use Rattle.std.proofs.Common.{sym, ap, ◌∙◌, arith, zero-add}
use Rattle.std.proofs.Math.ListN.{replicate}
use Rattle.tables.specs.Limits.{most_queues, most_messages, most_starting}
use Rattle.tables.specs.Starting.{starting_length}
use Rattle.numbers.specs.Part.{got}
use Rattle.numbers.specs.Laws.Parts.{and_then_got, same_value}
use Rattle.numbers.specs.Number.{read_within}
use Rattle.reading_model.specs.Queues.{read_term, read_counts, counted_queues}
use Rattle.tables.specs.Queues.{first_message}
use Rattle.numbers.specs.Laws.Ranges.{within_range}
use Rattle.tables.specs.Valid.{QueuesValid}
use Rattle.reading_model.specs.Laws.Ranges.{term_within, term_range}
use Rattle.numbers.specs.Laws.Written.{Entries, entries_none, entries_more, zeros_hold}
use Rattle.numbers.specs.Laws.Rounds.{Rounds, rounds_keep}
use Rattle.tables.specs.declared.tables.Queues.{Queues}
use Rattle.tables.specs.Laws.Queues.{first_set}

-- of the queues before number i: their messages, over the table as it was, and their sum
record Counted (before : List ℕ) (i : ℕ) (x : ℕ × List ℕ) : Type 0 where
  entries : Entries (λ k v. (1 ≤ v) × (v ≤ most_messages)) 0 i before x.1
  sum : x.0 ≡ first_message x.1 i
  least : i ≤ x.0
  most : x.0 ≤ most_messages

module _ (s : List ℕ) where
  pub counts_rounds : Rounds (λ left i at x. read_counts s at x.0 left i x.1) (λ i at x. read_term s at x.0)
      (λ i v x. (x.0 + v, set x.1 i v))
  unfolding read_counts
  counts_rounds = record { stop = λ i at x. refl; round = λ left i at x. refl }

  counts_step : (before : List ℕ) (i at : ℕ) (x : ℕ × List ℕ) (v next : ℕ) → i < length before → read_term s at x.0 ≡ got v next
      → Counted before i x → Counted before (i + 1) (x.0 + v, set x.1 i v)
  counts_step before i at x v next h e z =
      let r = term_within s at x.0 e in
      record {
        entries = entries_more (λ k w. (1 ≤ w) × (w ≤ most_messages)) (omega arith) h z.entries r;
        sum = ap (λ y. y + v) z.sum ∙ sym (first_set x.1 i v (omega (arith, z.entries.changed.long)));
        least = omega (arith, z.least, r.0);
        most = term_range s at x.0 e;
      }

  counts_read : (count at : ℕ) {x : ℕ × List ℕ} {next : ℕ} → count ≤ most_queues
      → read_counts s at 0 count 0 (replicate most_queues 0) ≡ got x next → Counted (replicate most_queues 0) count x
  unfolding first_message
  counts_read count at h e =
      rounds_keep counts_rounds (Counted (replicate most_queues 0)) count
      (λ i at' x v next l. counts_step (replicate most_queues 0) i at' x v next (omega arith)) count 0 at (0, replicate most_queues 0)
      (zero-add count) e
      (record {
        entries = entries_none (λ k w. (1 ≤ w) × (w ≤ most_messages)) 0 (replicate most_queues 0);
        sum = refl;
        least = omega arith;
        most = omega arith;
      })

  pub counted_valid : (at : ℕ) {q : Queues} {next : ℕ} → counted_queues s at ≡ got q next → QueuesValid q
  unfolding counted_queues
  counted_valid at e =
      let t = and_then_got (read_within s at 1 most_queues) e in
      let r = within_range s at 1 most_queues t.first in
      let a = and_then_got (read_counts s t.place 0 t.value 0 (replicate most_queues 0)) t.then in
      let z = counts_read t.value t.place r.1 a.first in
      subst QueuesValid (same_value a.then)
      (record {
        least = r.0;
        most = r.1;
        long = z.entries.changed.long;
        messages = λ i g. z.entries.each i (omega arith) g;
        rest = λ i g. z.entries.changed.over i g ∙ zeros_hold most_queues i;
        sum = z.sum;
        sum_least = omega (arith, z.least, r.0);
        sum_most = z.most;
        starting =
            record {
              lengths_long = refl;
              contents_long = refl;
              words =
                  λ i g.
                  let n = zeros_hold most_queues i in
                  record {
                    most = omega arith;
                    word = λ j h. absurd (omega arith);
                    below = λ j h. absurd (omega arith);
                    rest = λ j h l. zeros_hold starting_length (i * most_starting + j);
                  };
              lengths_rest = λ i g. zeros_hold most_queues i;
              contents_rest = λ k g. zeros_hold starting_length k;
            };
      })
