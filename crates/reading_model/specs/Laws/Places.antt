-- The fields of the model are fair: places only grow and stay within the file, and each refuses by 3 to 8, or by 23 at the first number.
use Rattle.std.specs.Prelude.{ℕ, suc, ◌+◌, ◌*◌, ◌≤◌, Bool, List, length, get_or, set, ltb, eqb}
use Rattle.std.proofs.Math.ListN.{replicate}
use Rattle.std.proofs.Math.Dec.{leb}
use native.Mathlib.Omega.{arith}
use Rattle.tables.specs.Limits.{most_machines, most_states, most_controls, most_queues, most_messages, most_starting, most_transitions, most_word}
use Rattle.tables.specs.Starting.{starting_length, waits}
use Rattle.numbers.specs.Part.{got}
use Rattle.numbers.specs.Number.{read_within, read_below, read_two}
use Rattle.reading_model.specs.Machines.{read_factor, read_sizes, read_starts, counted_machines, most_first, resumes_by, machines_by, read_machines}
use Rattle.reading_model.specs.Queues.{read_term, read_counts, counted_queues, read_content, read_contents, starting_with, read_starting, read_queues}
use Rattle.tables.specs.Queues.{first_message}
use Rattle.reading_model.specs.Words.{read_message, read_word}
use Rattle.reading_model.specs.Transitions.{read_action, read_transition, read_rows, read_transitions}
use Rattle.numbers.specs.Laws.Ranges.{below_number, within_number}
use Rattle.reading_model.specs.Model.{read_model}
use Rattle.reading_model.specs.Laws.Machines.{sizes_rounds, starts_rounds}
use Rattle.reading_model.specs.Laws.Queues.{counts_rounds}
use Rattle.reading_model.specs.Laws.Words.{word_rounds}
use Rattle.reading_model.specs.Laws.Starting.{contents_rounds}
use Rattle.reading_model.specs.Laws.Transitions.{rows_rounds}
use Rattle.tables.specs.declared.tables.Machines.{Machines}
use Rattle.tables.specs.declared.tables.Queues.{Queues}
use Rattle.numbers.specs.Laws.Places.{Fair, fair_provided, fair_cond, fair_then, fair_tested, rounds_fair, refuses_number, refuses_empty, tested_fair, within_fair, below_fair, two_fair}
use Rattle.tables.specs.Rows.{row_length, rows_length, from_entry, to_entry, kind_entry, queue_entry, length_entry, word_entry}

module _ (s : List ℕ) where
  pub factor_fair : (at product : ℕ) → at ≤ length s → Fair s 8 at (read_factor s at product)
  unfolding read_factor
  factor_fair at product h =
      tested_fair s at (read_within s at 1 most_states) (λ v. leb (product * v) most_controls) 6 (omega arith) (omega arith) h
      (λ v next e. within_number s at 1 most_states e) (within_fair s at 1 most_states h)

  pub counted_machines_fair : (first p : ℕ) → p ≤ length s → Fair s 8 p (counted_machines s p (machines_by first))
  unfolding counted_machines
  counted_machines_fair first p h₁ =
      let count = machines_by first in
      fair_then s 8 p (read_sizes s p 1 count 0 (replicate most_machines 0)) _
      (rounds_fair s 8 (sizes_rounds s) (λ i at' x h'. factor_fair at' x.0 h') count 0 p (1, replicate most_machines 0) h₁) (λ sized p₁ h₂.
      fair_then s 8 p₁ (read_starts s p₁ sized.1 count 0 (replicate most_machines 0))
      (λ starts p₂. got (record { count = count; product = sized.0; states = sized.1; starts = starts }) p₂)
      (rounds_fair s 8 (starts_rounds s sized.1) (λ i at' x h'. below_fair s at' (get_or sized.1 i 0) h') count 0 p₁
      (replicate most_machines 0) h₂)
      (λ starts p₂ h₃. (omega arith, h₃)))

  pub machines_fair : (at : ℕ) → at ≤ length s → Fair s 8 at (read_machines s at)
  unfolding read_machines
  machines_fair at h =
      fair_then s 8 at (read_within s at 1 most_first) _ (within_fair s at 1 most_first h) (λ first p h₁.
      fair_then s 8 p (counted_machines s p (machines_by first)) (λ m next. got (resumes_by first, m) next) (counted_machines_fair first p h₁)
      (λ m next h₂. (omega arith, h₂)))

  pub term_fair : (at sum : ℕ) → at ≤ length s → Fair s 8 at (read_term s at sum)
  unfolding read_term
  term_fair at sum h =
      tested_fair s at (read_within s at 1 most_messages) (λ v. leb (sum + v) most_messages) 6 (omega arith) (omega arith) h
      (λ v next e. within_number s at 1 most_messages e) (within_fair s at 1 most_messages h)

  pub counted_fair : (at : ℕ) → at ≤ length s → Fair s 8 at (counted_queues s at)
  unfolding counted_queues
  counted_fair at h =
      fair_then s 8 at (read_within s at 1 most_queues) _ (within_fair s at 1 most_queues h) (λ count p₁ h₁.
      fair_then s 8 p₁ (read_counts s p₁ 0 count 0 (replicate most_queues 0))
      _
      (rounds_fair s 8 (counts_rounds s) (λ i at' x h'. term_fair at' x.0 h') count 0 p₁ (0, replicate most_queues 0) h₁)
      (λ counted p₂ h₂. (omega arith, h₂)))

  pub message_fair : (at sum lo hi : ℕ) → at ≤ length s → Fair s 8 at (read_message s at sum lo hi)
  unfolding read_message
  message_fair at sum lo hi h =
      fair_tested s 8 at (read_below s at sum) _ (below_fair s at sum h) (λ m next e l g.
      let r = refuses_number s at 7 (omega arith) (omega arith) h (below_number s at sum e) in
      fair_provided s 8 at (leb lo m) 7 at _ r (fair_provided s 8 at (ltb m hi) 7 at (got m next) r (l, g)))

  pub word_fair : (sum lo hi len first at : ℕ) (table : List ℕ) → at ≤ length s → Fair s 8 at (read_word s at sum lo hi len first table)
  word_fair sum lo hi len first at table h =
      rounds_fair s 8 (word_rounds s sum lo hi) (λ j at' x h'. message_fair at' sum lo hi h') len first at table h

  -- what waits in a queue, and in all; then 23 if nothing does
  pub content_fair : (q : Queues) (i at : ℕ) (held : List ℕ × List ℕ) → at ≤ length s → Fair s 8 at (read_content s at q i held)
  unfolding read_content
  content_fair q i at held h =
      fair_then s 8 at (read_within s at 0 most_starting) _ (within_fair s at 0 most_starting h) (λ len p₁ h₁.
      let lo = first_message q.messages i in
      let hi = first_message q.messages (suc i) in
      fair_then s 8 p₁ (read_word s p₁ q.sum lo hi len (i * most_starting) held.1) (λ contents p₂. got (set held.0 i len, contents) p₂)
      (word_fair q.sum lo hi len (i * most_starting) p₁ held.1 h₁) (λ contents p₂ h₂. (omega arith, h₂)))

  pub contents_fair : (q : Queues) (at : ℕ) → at ≤ length s
      → Fair s 8 at (read_contents s at q q.count 0 (replicate most_queues 0, replicate starting_length 0))
  contents_fair q at h =
      rounds_fair s 8 (contents_rounds s q) (λ i at' x h'. content_fair q i at' x h') q.count 0 at
      (replicate most_queues 0, replicate starting_length 0) h

  pub starting_fair : (q : Queues) (at : ℕ) → at ≤ length s → Fair s 8 at (read_starting s at q)
  unfolding read_starting
  starting_fair q at h =
      fair_then s 8 at (read_contents s at q q.count 0 (replicate most_queues 0, replicate starting_length 0)) _ (contents_fair q at h) (λ held next h₁.
      fair_provided s 8 next (waits held.0) 23 0 (got (starting_with q held) next) (refuses_empty s 8 next) (omega arith, h₁))

  pub queues_fair : (at : ℕ) (resumes : Bool) → at ≤ length s → Fair s 8 at (read_queues s at resumes)
  unfolding read_queues
  queues_fair at resumes h =
      fair_then s 8 at (counted_queues s at) _ (counted_fair at h) (λ q p h₁.
      fair_cond s 8 p resumes (read_starting s p q) (got q p) (starting_fair q p h₁) (omega arith, h₁))

  pub action_fair : (q : Queues) (row at : ℕ) (rows : List ℕ) → at ≤ length s → Fair s 8 at (read_action s at q row rows)
  unfolding read_action
  action_fair q row at rows h =
      fair_then s 8 at (read_below s at q.count) _ (below_fair s at q.count h) (λ queue p₁ h₁.
      fair_then s 8 p₁ (read_within s p₁ 0 most_word) _ (within_fair s p₁ 0 most_word h₁) (λ len p₂ h₂.
      word_fair q.sum (first_message q.messages queue) (first_message q.messages (suc queue)) len (word_entry row) p₂
      (set (set rows (queue_entry row) queue) (length_entry row) len) h₂))

  pub transition_fair : (m : Machines) (q : Queues) (row at : ℕ) (rows : List ℕ) → at ≤ length s
      → Fair s 8 at (read_transition s at m q row rows)
  unfolding read_transition
  transition_fair m q row at rows h =
      fair_then s 8 at (read_below s at m.count) _ (below_fair s at m.count h) (λ machine p₁ h₁.
      fair_then s 8 p₁ (read_two s p₁ (get_or m.states machine 0) (get_or m.states machine 0)) _
      (two_fair s p₁ (get_or m.states machine 0) (get_or m.states machine 0) h₁) (λ move p₂ h₂.
      fair_then s 8 p₂ (read_below s p₂ 3) _ (below_fair s p₂ 3 h₂) (λ kind p₃ h₃.
      fair_cond s 8 p₃ (eqb kind 0) (got _ p₃) (read_action s p₃ q row _) (omega arith, h₃)
      (action_fair q row p₃ (set (set (set (set rows row machine) (from_entry row) move.0) (to_entry row) move.1) (kind_entry row) kind) h₃))))

  pub transitions_fair : (m : Machines) (q : Queues) (at : ℕ) → at ≤ length s → Fair s 8 at (read_transitions s at m q)
  unfolding read_transitions
  transitions_fair m q at h =
      fair_then s 8 at (read_within s at 0 most_transitions) _ (within_fair s at 0 most_transitions h) (λ count p₁ h₁.
      fair_then s 8 p₁ (read_rows s p₁ m q count 0 (replicate (rows_length) 0))
      (λ rows p₂. got (record { count = count; rows = rows }) p₂)
      (rounds_fair s 8 (rows_rounds s m q) (λ t at' x h'. transition_fair m q (t * row_length) at' x h') count 0 p₁
      (replicate (rows_length) 0) h₁)
      (λ rows p₂ h₂. (omega arith, h₂)))

  pub model_fair : (at : ℕ) → at ≤ length s → Fair s 8 at (read_model s at)
  unfolding read_model
  model_fair at h =
      fair_then s 8 at (read_machines s at) _ (machines_fair at h) (λ first p₁ h₁.
      fair_then s 8 p₁ (read_queues s p₁ first.0) _ (queues_fair p₁ first.0 h₁) (λ q p₂ h₂.
      fair_then s 8 p₂ (read_transitions s p₂ first.1 q) (λ τ p₃. got (record { machines = first.1; queues = q; transitions = τ }) p₃)
      (transitions_fair first.1 q p₂ h₂) (λ τ p₃ h₃. (omega arith, h₃))))
