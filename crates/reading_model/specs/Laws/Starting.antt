-- What holds of the queues that were read, and of what waits in them at the start.
use Rattle.std.specs.Prelude.{ℕ, suc, ◌+◌, ◌*◌, ◌≤◌, ◌<◌, ◌≡◌, Bool, length, set}
use Rattle.std.proofs.Math.Path.{refl, ap, subst, subst₂}
use Rattle.std.proofs.Common.{sym, ◌∙◌, get_or-set_same, arith, zero-add}
use Rattle.std.proofs.Math.Bool.{true, false, cond}
use mathlib.Core.List.{List}
use Rattle.std.proofs.Math.ListN.{get_or, replicate, length-set}
use Rattle.std.proofs.lemmas.List.{length-replicate}
use Rattle.std.proofs.Math.Seq.{get_or-set_other}
use Rattle.std.proofs.Math.Dec.{ltb}
use borrow.Author.Tests.{ltb-true, ltb-false}
use Rattle.tables.specs.Limits.{most_queues, most_starting}
use Rattle.tables.specs.Starting.{starting_length, waits}
use Rattle.tables.specs.Queues.{first_message}
use Rattle.tables.specs.Valid.{WordValid, QueuesValid}
use Rattle.tables.specs.declared.tables.Queues.{Queues}
use Rattle.numbers.specs.Part.{got}
use Rattle.numbers.specs.Number.{read_within}
use Rattle.numbers.specs.Laws.Parts.{and_then_got, provided_got, same_value}
use Rattle.numbers.specs.Laws.Ranges.{within_range}
use Rattle.numbers.specs.Laws.Written.{zeros_hold}
use Rattle.numbers.specs.Laws.Rounds.{Rounds, rounds_keep}
use Rattle.reading_model.specs.Words.{read_word}
use Rattle.reading_model.specs.Queues.{counted_queues, read_content, read_contents, starting_with, read_starting, read_queues}
use Rattle.reading_model.specs.Laws.Words.{word_same, word_read, word_made}
use Rattle.reading_model.specs.Laws.Queues.{counted_valid}

-- of the queues before number i: how many messages wait in each, and these
record Held (q : Queues) (i : ℕ) (held : List ℕ × List ℕ) : Type 0 where
  lengths_long : length held.0 ≡ most_queues
  contents_long : length held.1 ≡ starting_length
  words : (j : ℕ) → j < i → WordValid q most_starting j (get_or held.0 j 0) (j * most_starting) held.1
  lengths_rest : (j : ℕ) → i ≤ j → get_or held.0 j 0 ≡ 0
  contents_rest : (k : ℕ) → i * most_starting ≤ k → get_or held.1 k 0 ≡ 0

-- a word is of the same queues, whatever waits in them
word_with : (q : Queues) (held : List ℕ × List ℕ) {room p len first : ℕ} {table : List ℕ} → WordValid q room p len first table
    → WordValid (starting_with q held) room p len first table
word_with q held w =
    record {
      most = w.most;
      word = λ j h. let o = w.word j h in record { queue = o.queue; from = o.from; below = o.below };
      below = w.below;
      rest = w.rest;
    }

module _ (s : List ℕ) where
  pub contents_rounds : (q : Queues) → Rounds (λ left i at x. read_contents s at q left i x) (λ i at x. read_content s at q i x) (λ i v x. v)
  unfolding read_contents
  contents_rounds q = record { stop = λ i at x. refl; round = λ left i at x. refl }

  module _ (q : Queues) where
    content_step : (i at : ℕ) (held held' : List ℕ × List ℕ) (next : ℕ) → i < q.count → q.count ≤ most_queues
        → read_content s at q i held ≡ got held' next → Held q i held → Held q (i + 1) held'
    unfolding read_content
    content_step i at held held' next few most e H =
        let t = and_then_got (read_within s at 0 most_starting) e in
        let len = t.value in
        let n : len ≤ most_starting = (within_range s at 0 most_starting t.first).1 in
        let lo = first_message q.messages i in
        let hi = first_message q.messages (suc i) in
        let w = and_then_got (read_word s t.place q.sum lo hi len (i * most_starting) held.1) t.then in
        let z = word_read s q.sum lo hi len (i * most_starting) t.place held.1 (omega (arith, H.contents_long)) w.first in
        subst (Held q (i + 1)) (same_value w.then)
        (record {
          lengths_long = length-set held.0 i len ∙ H.lengths_long;
          contents_long = z.changed.long ∙ H.contents_long;
          words = λ j l. words j len w.value l (ltb j i) refl
              (get_or-set_same held.0 i len 0 (omega (arith, H.lengths_long)))
              (λ d. get_or-set_other held.0 i j len 0 d)
              (word_made q i few n z H.contents_rest)
              (λ k h. z.changed.under k h);
          lengths_rest = λ j l. get_or-set_other held.0 i j len 0 (omega arith) ∙ H.lengths_rest j (omega arith);
          contents_rest = λ k l. z.changed.over k (omega arith) ∙ H.contents_rest k (omega arith);
        })
      where
        words : (j len : ℕ) (table : List ℕ) → j < i + 1 → (b : Bool) → ltb j i ≡ b → get_or (set held.0 i len) i 0 ≡ len
            → ((j ≡ i → ⊥) → get_or (set held.0 i len) j 0 ≡ get_or held.0 j 0)
            → WordValid q most_starting i len (i * most_starting) table
            → ((k : ℕ) → k < i * most_starting → get_or table k 0 ≡ get_or held.1 k 0)
            → WordValid q most_starting j (get_or (set held.0 i len) j 0) (j * most_starting) table
        words j len table g false t its other made under =
            let same : j ≡ i = omega (arith, ltb-false j i t) in
            subst₂ (λ p m. WordValid q most_starting p m (p * most_starting) table) (sym same) (sym its ∙ ap (λ p. get_or (set held.0 i len) p 0) (sym same)) made
        words j len table g true t its other made under =
            let l = ltb-true j i t in
            subst (λ m. WordValid q most_starting j m (j * most_starting) table) (sym (other (λ d. omega arith)))
            (word_same q (get_or held.0 j 0) (λ k h. under k (omega arith)) (H.words j l))

    contents_held : (at : ℕ) {held : List ℕ × List ℕ} {next : ℕ} → q.count ≤ most_queues
        → read_contents s at q q.count 0 (replicate most_queues 0, replicate starting_length 0) ≡ got held next → Held q q.count held
    contents_held at most e =
        rounds_keep (contents_rounds q) (Held q) q.count
        (λ i at' x v next l. content_step i at' x v next l most) q.count 0 at (replicate most_queues 0, replicate starting_length 0)
        (zero-add q.count) e
        (record {
          lengths_long = length-replicate {A = ℕ} most_queues 0;
          contents_long = length-replicate {A = ℕ} starting_length 0;
          words = λ j l. absurd (omega arith);
          lengths_rest = λ j l. zeros_hold most_queues j;
          contents_rest = λ k l. zeros_hold starting_length k;
        })

    -- WHAT WAS READ AS WAITING is valid, and some queue starts with a message
    pub starting_valid : QueuesValid q → (at : ℕ) {q' : Queues} {next : ℕ} → read_starting s at q ≡ got q' next
        → QueuesValid q' × (waits q'.lengths ≡ true)
    unfolding read_starting
    starting_valid Q at e =
        let t = and_then_got (read_contents s at q q.count 0 (replicate most_queues 0, replicate starting_length 0)) e in
        let H = contents_held at Q.most t.first in
        let g = provided_got (waits t.value.0) 23 0 (got (starting_with q t.value) t.place) t.then in
        subst (λ q'. QueuesValid q' × (waits q'.lengths ≡ true)) (same_value g.1) (
          record {
            least = Q.least;
            most = Q.most;
            long = Q.long;
            messages = Q.messages;
            rest = Q.rest;
            sum = Q.sum;
            sum_least = Q.sum_least;
            sum_most = Q.sum_most;
            starting =
                record {
                  lengths_long = H.lengths_long;
                  contents_long = H.contents_long;
                  words = λ i l. word_with q t.value (H.words i l);
                  lengths_rest = H.lengths_rest;
                  contents_rest = H.contents_rest;
                };
          },
          g.0,
        )

  pub queues_valid : (at : ℕ) (resumes : Bool) {q : Queues} {next : ℕ} → read_queues s at resumes ≡ got q next → QueuesValid q
  unfolding read_queues
  queues_valid at resumes {q} {next} e =
      let t = and_then_got (counted_queues s at) e in
      by_form resumes t.value t.place (counted_valid s at t.first) t.then
    where
      by_form : (b : Bool) (r : Queues) (p : ℕ) → QueuesValid r → cond b (read_starting s p r) (got r p) ≡ got q next → QueuesValid q
      by_form true r p R f = (starting_valid r R p f).0
      by_form false r p R f = subst QueuesValid (same_value f) R
