-- The ranges of what is read of the model: a value lies where its field says.
use Rattle.std.specs.Prelude.{ℕ, ◌+◌, ◌*◌, ◌≤◌, ◌<◌, ◌≡◌, List, ltb}
use Rattle.std.proofs.Math.Path.{subst}
use Rattle.std.proofs.Math.Dec.{leb}
use borrow.Author.Tests.{ltb-true, leb-true}
use Rattle.tables.specs.Limits.{most_states, most_controls, most_messages}
use Rattle.numbers.specs.Part.{got}
use Rattle.numbers.specs.Laws.Parts.{provided_got, and_then_got, same_value}
use Rattle.numbers.specs.Number.{read_within, read_below}
use Rattle.numbers.specs.Laws.Ranges.{below_range, within_range, tested_got}
use Rattle.reading_model.specs.Machines.{read_factor}
use Rattle.reading_model.specs.Queues.{read_term}
use Rattle.reading_model.specs.Words.{read_message}

module _ (s : List ℕ) (at : ℕ) {v next : ℕ} where
  -- a machine's states: in range, and so is the product with those before it
  pub factor_range : (product : ℕ) → read_factor s at product ≡ got v next → product * v ≤ most_controls
  unfolding read_factor
  factor_range product e =
      let t = and_then_got (read_within s at 1 most_states) e in
      let g = provided_got (leb (product * t.value) most_controls) 6 at (got t.value t.place) t.then in
      subst (λ x. product * x ≤ most_controls) (same_value g.1) (leb-true (product * t.value) most_controls g.0)

  pub factor_within : (product : ℕ) → read_factor s at product ≡ got v next → (1 ≤ v) × (v ≤ most_states)
  unfolding read_factor
  factor_within product e =
      within_range s at 1 most_states
      (tested_got (read_within s at 1 most_states) (λ w. leb (product * w) most_controls) 6 at e).0

  -- a queue's messages: in range, and so is the sum with those before it
  pub term_within : (sum : ℕ) → read_term s at sum ≡ got v next → (1 ≤ v) × (v ≤ most_messages)
  unfolding read_term
  term_within sum e =
      within_range s at 1 most_messages
      (tested_got (read_within s at 1 most_messages) (λ w. leb (sum + w) most_messages) 6 at e).0

  pub term_range : (sum : ℕ) → read_term s at sum ≡ got v next → sum + v ≤ most_messages
  unfolding read_term
  term_range sum e =
      leb-true (sum + v) most_messages
      (tested_got (read_within s at 1 most_messages) (λ w. leb (sum + w) most_messages) 6 at e).1

  -- a message of a word
  pub message_range : (sum lo hi : ℕ) → read_message s at sum lo hi ≡ got v next → (lo ≤ v) × (v < hi) × (v < sum)
  unfolding read_message
  message_range sum lo hi e =
      let t = and_then_got (read_below s at sum) e in
      let g = provided_got (leb lo t.value) 7 at _ t.then in
      let h = provided_got (ltb t.value hi) 7 at (got t.value t.place) g.1 in
      subst (λ x. (lo ≤ x) × (x < hi) × (x < sum)) (same_value h.1)
      (leb-true lo t.value g.0, ltb-true t.value hi h.0, below_range s at sum t.first)
