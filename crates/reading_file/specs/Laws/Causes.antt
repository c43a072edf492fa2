-- EACH REFUSAL BY 3 TO 8 AND BY 23 HAS ITS CAUSE: field after field, what is read on the way is kept.
use Prim.Native.Nat.{ℕ, zero, suc, ◌+◌, ◌-◌, ◌*◌, ◌≤◌, ◌<◌}
use Rattle.std.specs.Prelude.{◌≡◌, refl, Bool, cond, ◌↔◌, ltb, leb, eqb}
use Rattle.std.proofs.Common.{sym, ap, subst, subst₂, ◌∙◌}
use Rattle.std.proofs.Math.Bool.{true, false}
use Rattle.std.proofs.Math.Logic.{inl, inr}
use Rattle.std.proofs.Math.Option.{Option, none, some}
use mathlib.Core.List.{List}
use Rattle.std.proofs.Math.ListN.{length, get_or, set, replicate}
use borrow.Author.Tests.{ltb-true, ltb-false, leb-false, eqb-false, leb-true, le-leb}
use native.Mathlib.Omega.{arith}
use Rattle.numbers.specs.Limits.{most_bytes}
use Rattle.tables.specs.Limits.{most_machines, most_states, most_controls, most_queues, most_messages, most_starting, most_transitions, most_word, most_pool, most_bad}
use Rattle.tables.specs.Starting.{starting_length, waits}
use Rattle.tables.specs.Laws.Starting.{waits_none, none_waits}
use Rattle.numbers.specs.Part.{Part, got, refused, provided, and_then}
use Rattle.numbers.specs.Number.{read_number, read_within, read_below, read_two}
use Rattle.numbers.specs.Laws.Parts.{not_refused}
use Rattle.numbers.specs.Laws.Ranges.{below_number, below_range, within_number, within_range}
use Rattle.numbers.specs.Laws.Rounds.{Rounds, rounds_more}
use Rattle.numbers.specs.Laws.Places.{Fair, rounds_fair, number_fair, within_fair, below_fair, two_fair}
use Rattle.reading_model.specs.Machines.{read_factor, read_sizes, read_starts, counted_machines, most_first, resumes_by, machines_by, read_machines}
use Rattle.reading_model.specs.Queues.{read_term, read_counts, counted_queues, read_content, read_contents, starting_with, read_starting, read_queues}
use Rattle.tables.specs.Queues.{first_message}
use Rattle.reading_model.specs.Words.{read_message, read_word}
use Rattle.reading_model.specs.Transitions.{read_action, read_transition, read_rows, read_transitions}
use Rattle.tables.specs.Pool.{pool_arcs}
use Rattle.reading_pool.specs.Pool.{read_ascending, read_arc, read_arcs, read_state, read_states, read_pool}
use Rattle.reading_file.specs.Map.{read_roots, read_map}
use Rattle.reading_file.specs.Bad.{read_entries, read_bad}
use Rattle.reading_model.specs.Model.{read_model}
use Rattle.reading_file.specs.Sets.{read_sets}
use Rattle.reading_file.specs.File.{read_file, joined}
use Rattle.reading_file.specs.Causes.{FileField, machine_states, starting_state, queue_messages, word_message, InRange}
use Rattle.reading_file.specs.Causes.{Resumes, ContentsRead, ToContent, ToTransitions, ToTransition, ToMove, ToAction, ToWord, ToState, ToArcs, least_after, ArcsRead, no_arc, one_arc_more, ToArc, ToSets, ToBad, ToEntry}
use Rattle.reading_file.specs.Causes.{Comes, to_machine_count, to_states, to_start, to_queue_count, to_messages, to_content_length, to_content, to_transition_count, to_machine, to_from, to_to, to_kind, to_queue, to_word_length, to_word, to_pool_count, to_final, to_arc_count, to_arc, to_target, to_root, to_bad_count, to_control, to_bad_root}
use Rattle.reading_file.specs.Causes.{NumberAt, Cause, ends, malformed, outside, product_passed, sum_passed, other_queue, not_ascending, starts_empty}
use Rattle.reading_model.specs.Laws.Machines.{sizes_rounds, starts_rounds}
use Rattle.reading_model.specs.Laws.Queues.{counts_rounds}
use Rattle.reading_model.specs.Laws.Words.{word_rounds}
use Rattle.reading_model.specs.Laws.Starting.{contents_rounds}
use Rattle.reading_model.specs.Laws.Transitions.{rows_rounds}
use Rattle.reading_pool.specs.Laws.Pool.{states_rounds}
use Rattle.reading_file.specs.Laws.Map.{roots_rounds}
use Rattle.reading_file.specs.Laws.Bad.{entries_rounds}
use Rattle.reading_file.specs.Laws.Fields.{is_ordered, at_end, from_pool, parts, file_is}
use Rattle.reading_model.specs.Laws.Places.{factor_fair, counted_machines_fair, machines_fair, term_fair, counted_fair, content_fair, contents_fair, queues_fair, message_fair, word_fair, transition_fair, transitions_fair, model_fair}
use Rattle.reading_pool.specs.Laws.Places.{ascending_fair, arc_fair, arcs_fair, state_fair, pool_fair}
use Rattle.reading_file.specs.Laws.Places.{map_fair, bad_fair, sets_fair}
use Rattle.tables.specs.declared.tables.Machines.{Machines}
use Rattle.tables.specs.declared.tables.Queues.{Queues}
use Rattle.tables.specs.declared.tables.ModelTables.{ModelTables}
use Rattle.tables.specs.Rows.{row_length, rows_length, from_entry, to_entry, kind_entry, queue_entry, length_entry, word_entry}

module _ (s : List ℕ) where
  module _ {A : Type 0} where
    -- a part that is refused has a cause
    abbrev Caused : Part A → Type 0
    Caused (got v next) = Unit {0}
    Caused (refused k p) = Cause s k p

    caused_provided : (b : Bool) (k p : ℕ) (x : Part A) → (b ≡ false → Cause s k p) → (b ≡ true → Caused x) → Caused (provided b k p x)
    caused_provided true k p x f g = g refl
    caused_provided false k p x f g = f refl

    caused_cond : (b : Bool) (x y : Part A) → Caused x → (b ≡ false → Caused y) → Caused (cond b x y)
    caused_cond true x y f g = f
    caused_cond false x y f g = g refl

  module _ {A B : Type 0} where
    caused_then : (at : ℕ) (x : Part A) (f : A → ℕ → Part B) → Fair s 8 at x → Caused x
        → ((v : A) (next : ℕ) → x ≡ got v next → next ≤ length s → Caused (f v next)) → Caused (and_then x f)
    caused_then at (got v next) f h c g = g v next refl h.1
    caused_then at (refused k p) f h c g = c

  module _ {S B : Type 0} {loop : ℕ → ℕ → ℕ → S → Part S} {read : ℕ → ℕ → S → Part B} {put : ℕ → B → S → S} (rounds : Rounds loop read put)
      (fair : (i at : ℕ) (x : S) → at ≤ length s → Fair s 8 at (read i at x)) (i₀ at₀ : ℕ) (x₀ : S) (n : ℕ)
      (each : (j i at : ℕ) (x : S) → j < n → i ≡ i₀ + j → loop j i₀ at₀ x₀ ≡ got x at → at ≤ length s → Caused (read i at x)) where
    -- a round is refused after those before it were read
    rounds_on : (left j i at : ℕ) (x : S) → j + left ≡ n → i ≡ i₀ + j → loop j i₀ at₀ x₀ ≡ got x at → at ≤ length s → Caused (loop left i at x)
    rounds_on zero j i at x m l e h = subst Caused (sym (rounds.stop i at x)) tt
    rounds_on (suc left) j i at x m l e h =
        subst Caused (sym (rounds.round left i at x))
        (caused_then at (read i at x) (λ v next. loop left (i + 1) next (put i v x)) (fair i at x h) (each j i at x (omega arith) l e h)
        (λ v next f g. rounds_on left (suc j) (i + 1) next (put i v x) (omega arith) (omega arith) (rounds_more rounds j i₀ at₀ x₀ i l e f) g))

    rounds_caused : at₀ ≤ length s → Caused (loop n i₀ at₀ x₀)
    rounds_caused h = rounds_on n 0 i₀ at₀ x₀ (omega arith) (omega arith) (rounds.stop i₀ at₀ x₀) h

  -- NUMBERS, of a field that reading has come to
  module _ {f : FileField} {at : ℕ} (comes : Comes s f at) (h : at ≤ length s) where
    number_caused : Caused (read_number s at)
    unfolding read_number
    number_caused =
        caused_provided (ltb at (length s)) 3 (length s) _
        (λ e. let l = ltb-false at (length s) e in ends comes (inl (omega arith))) (λ e₁.
        caused_cond (ltb (get_or s at 0) 128) (got (get_or s at 0) (at + 1)) _ tt (λ e₂.
        let long = ltb-false (get_or s at 0) 128 e₂ in
        let there = ltb-true at (length s) e₁ in
        caused_provided (ltb (at + 1) (length s)) 3 (length s) _
        (λ e. let l = ltb-false (at + 1) (length s) e in ends comes (inr (omega arith, long))) (λ e₃.
        let inside = ltb-true (at + 1) (length s) e₃ in
        caused_provided (ltb 0 (get_or s (at + 1) 0)) 4 at _
        (λ e.
        let z = ltb-false 0 (get_or s (at + 1) 0) e in
        malformed comes (record { inside = inside; first = long; second = inl (omega arith) })) (λ _.
        caused_provided (ltb (get_or s (at + 1) 0) 128) 4 at (got (get_or s at 0 - 128 + 128 * get_or s (at + 1) 0) (at + 2))
        (λ e. malformed comes (record { inside = inside; first = long; second = inr (ltb-false (get_or s (at + 1) 0) 128 e) }))
        (λ _. tt)))))

    below_caused : (limit : ℕ) → ((v : ℕ) → InRange f v → v < limit) → Caused (read_below s at limit)
    unfolding read_below
    below_caused limit range =
        caused_then at (read_number s at) _ (number_fair s at h) number_caused (λ v next e _.
        caused_provided (ltb v limit) 5 at (got v next)
        (λ t.
        outside (record { comes = comes; next = next; number = e })
        (λ r. let a = range v r in let b = ltb-false v limit t in omega arith))
        (λ _. tt))

    within_caused : (least most : ℕ) → ((v : ℕ) → InRange f v → (least ≤ v) × (v ≤ most)) → Caused (read_within s at least most)
    unfolding read_within
    within_caused least most range =
        caused_then at (read_number s at) _ (number_fair s at h) number_caused (λ v next e _.
        let stands : NumberAt s f v at = record { comes = comes; next = next; number = e } in
        caused_provided (leb least v) 5 at _
        (λ t. outside stands (λ r. let a = range v r in let b = leb-false least v t in omega (arith, a.0)))
        (λ _. caused_provided (leb v most) 5 at (got v next)
        (λ t. outside stands (λ r. let a = range v r in let b = leb-false v most t in omega (arith, a.1)))
        (λ _. tt)))

  -- FIELD 1
  factor_caused : (at product : ℕ) → Comes s (machine_states product) at → at ≤ length s → Caused (read_factor s at product)
  unfolding read_factor
  factor_caused at product c h =
      caused_then at (read_within s at 1 most_states) _ (within_fair s at 1 most_states h) (within_caused c h 1 most_states (λ v r. r)) (λ v next e _.
      caused_provided (leb (product * v) most_controls) 6 at (got v next)
      (λ t.
      product_passed (record { comes = c; next = next; number = within_number s at 1 most_states e }) (within_range s at 1 most_states e)
      (leb-false (product * v) most_controls t))
      (λ _. tt))

  module _ {first p₁ : ℕ} (counted : read_within s 0 1 most_first ≡ got first p₁) (h₁ : p₁ ≤ length s) where
    abbrev count : ℕ
    count = machines_by first

    sizes_caused : Caused (read_sizes s p₁ 1 count 0 (replicate most_machines 0))
    sizes_caused =
        rounds_caused (sizes_rounds s) (λ i at x h. factor_fair s at x.0 h) 0 p₁ (1, replicate most_machines 0) count
        (λ j i at x l n e h. factor_caused at x.0 (to_states counted l e) h) h₁

    starts_caused : {product p₂ : ℕ} {sizes : List ℕ} → read_sizes s p₁ 1 count 0 (replicate most_machines 0) ≡ got (product, sizes) p₂
        → p₂ ≤ length s → Caused (read_starts s p₂ sizes count 0 (replicate most_machines 0))
    starts_caused {product} {p₂} {sizes} sized h₂ =
        rounds_caused (starts_rounds s sizes) (λ i at x h. below_fair s at (get_or sizes i 0) h) 0 p₂ (replicate most_machines 0) count
        (λ j i at x l n e h.
        let same : j ≡ i = omega arith in
        below_caused (subst (λ k. Comes s (starting_state (get_or sizes k 0)) at) same (to_start counted sized l e)) h (get_or sizes i 0)
        (λ v r. r))
        h₂

  machines_caused : Caused (read_machines s 0)
  unfolding read_machines counted_machines
  machines_caused =
      caused_then 0 (read_within s 0 1 most_first) _ (within_fair s 0 1 most_first (omega arith))
      (within_caused to_machine_count (omega arith) 1 most_first (λ v r. r)) (λ first p₁ e₁ h₁.
      let count = machines_by first in
      caused_then p₁ (counted_machines s p₁ count) (λ m next. got (resumes_by first, m) next) (counted_machines_fair s first p₁ h₁)
      (caused_then p₁ (read_sizes s p₁ 1 count 0 (replicate most_machines 0)) _
      (rounds_fair s 8 (sizes_rounds s) (λ i at x h. factor_fair s at x.0 h) count 0 p₁ (1, replicate most_machines 0) h₁)
      (sizes_caused e₁ h₁) (λ sized p₂ e₂ h₂.
      caused_then p₂ (read_starts s p₂ sized.1 count 0 (replicate most_machines 0)) _
      (rounds_fair s 8 (starts_rounds s sized.1) (λ i at x h. below_fair s at (get_or sized.1 i 0) h) count 0 p₂
      (replicate most_machines 0) h₂)
      (starts_caused e₁ h₁ e₂ h₂) (λ _ _ _ _. tt))) (λ _ _ _ _. tt))

  -- FIELD 2
  term_caused : (at sum : ℕ) → Comes s (queue_messages sum) at → at ≤ length s → Caused (read_term s at sum)
  unfolding read_term
  term_caused at sum c h =
      caused_then at (read_within s at 1 most_messages) _ (within_fair s at 1 most_messages h) (within_caused c h 1 most_messages (λ v r. r)) (λ v next e _.
      caused_provided (leb (sum + v) most_messages) 6 at (got v next)
      (λ t.
      sum_passed (record { comes = c; next = next; number = within_number s at 1 most_messages e }) (within_range s at 1 most_messages e)
      (leb-false (sum + v) most_messages t))
      (λ _. tt))

  counted_caused : {m : Bool × Machines} {p : ℕ} → read_machines s 0 ≡ got m p → p ≤ length s → Caused (counted_queues s p)
  unfolding counted_queues
  counted_caused {m} {p} e h =
      caused_then p (read_within s p 1 most_queues) _ (within_fair s p 1 most_queues h)
      (within_caused (to_queue_count e) h 1 most_queues (λ v r. r)) (λ count p₁ e₁ h₁.
      caused_then p₁ (read_counts s p₁ 0 count 0 (replicate most_queues 0)) _
      (rounds_fair s 8 (counts_rounds s) (λ i at x h'. term_fair s at x.0 h') count 0 p₁ (0, replicate most_queues 0) h₁)
      (rounds_caused (counts_rounds s) (λ i at x h'. term_fair s at x.0 h') 0 p₁ (0, replicate most_queues 0) count
      (λ j i at x l n f h'. term_caused at x.0 (to_messages e e₁ l f) h') h₁)
      (λ _ _ _ _. tt))

  -- A MESSAGE of a word
  message_caused : (q : Queues) (i at : ℕ) → Comes s (word_message q i) at → at ≤ length s
      → Caused (read_message s at q.sum (first_message q.messages i) (first_message q.messages (suc i)))
  unfolding read_message
  message_caused q i at c h =
      caused_then at (read_below s at q.sum) _ (below_fair s at q.sum h) (below_caused c h q.sum (λ v r. r)) (λ v next e _.
      let stands : NumberAt s (word_message q i) v at = record { comes = c; next = next; number = below_number s at q.sum e } in
      let range = below_range s at q.sum e in
      caused_provided (leb (first_message q.messages i) v) 7 at _
      (λ t. other_queue stands range (λ o. let b = leb-false (first_message q.messages i) v t in omega (arith, o.from)))
      (λ _. caused_provided (ltb v (first_message q.messages (suc i))) 7 at (got v next)
      (λ t. other_queue stands range (λ o. let b = ltb-false v (first_message q.messages (suc i)) t in omega (arith, o.below)))
      (λ _. tt)))

  -- what waits in queue i at the start
  content_caused : (q : Queues) (i at : ℕ) (held : List ℕ × List ℕ) → ToContent s q i at → at ≤ length s → Caused (read_content s at q i held)
  unfolding read_content
  content_caused q i at held c h =
      caused_then at (read_within s at 0 most_starting) _ (within_fair s at 0 most_starting h)
      (within_caused (to_content_length c) h 0 most_starting (λ v r. (omega arith, r))) (λ len p e h₁.
      caused_then p (read_word s p q.sum (first_message q.messages i) (first_message q.messages (suc i)) len (i * most_starting) held.1) _
      (word_fair s q.sum (first_message q.messages i) (first_message q.messages (suc i)) len (i * most_starting) p held.1 h₁)
      (rounds_caused (word_rounds s q.sum (first_message q.messages i) (first_message q.messages (suc i)))
      (λ j at' x h'. message_fair s at' q.sum (first_message q.messages i) (first_message q.messages (suc i)) h') (i * most_starting) p held.1 len
      (λ j k at' x l n f h'. message_caused q i at' (to_content (i * most_starting) held.1 c e l f) h') h₁)
      (λ _ _ _ _. tt))

  starting_caused : {q : Queues} {p : ℕ} → Resumes s q p → p ≤ length s → Caused (read_starting s p q)
  unfolding read_starting
  starting_caused {q} {p} r h =
      caused_then p (read_contents s p q q.count 0 (replicate most_queues 0, replicate starting_length 0)) _ (contents_fair s q p h)
      (rounds_caused (contents_rounds s q) (λ i at x h'. content_fair s q i at x h') 0 p (replicate most_queues 0, replicate starting_length 0) q.count
      (λ j i at x l n f h'.
      let same : j ≡ i = omega arith in
      content_caused q i at x
      (subst (λ k. ToContent s q k at) same (record { begins = p; before = r; below = l; held = x; read = f })) h')
      h)
      (λ held next e h₁.
      caused_provided (waits held.0) 23 0 (got (starting_with q held) next) (λ t. starts_empty r e (waits_none held.0 t)) (λ _. tt))

  queues_caused : {m : Machines} {p : ℕ} (resumes : Bool) → read_machines s 0 ≡ got (resumes, m) p → p ≤ length s → Caused (read_queues s p resumes)
  unfolding read_queues
  queues_caused {m} {p} resumes e h =
      caused_then p (counted_queues s p) _ (counted_fair s p h) (counted_caused e h) (λ q p₁ e₁ h₁. by_form resumes e q p₁ e₁ h₁)
    where
      by_form : (b : Bool) → read_machines s 0 ≡ got (b, m) p → (q : Queues) (p₁ : ℕ) → counted_queues s p ≡ got q p₁ → p₁ ≤ length s
          → Caused (cond b (read_starting s p₁ q) (got q p₁))
      by_form true f q p₁ e₁ h₁ = starting_caused (record { machines = m; after_machines = p; resumes = f; queues = e₁ }) h₁
      by_form false f q p₁ e₁ h₁ = tt

  -- FIELD 3
  action_caused : (q : Queues) (row at : ℕ) (rows : List ℕ) → ToAction s q at → at ≤ length s → Caused (read_action s at q row rows)
  unfolding read_action
  action_caused q row at rows c h =
      caused_then at (read_below s at q.count) _ (below_fair s at q.count h) (below_caused (to_queue c) h q.count (λ v r. r)) (λ i p₁ e₁ h₁.
      let to : ToWord s q i p₁ = record { begins = at; before = c; read = e₁ } in
      let rows' : ℕ → List ℕ = λ len. set (set rows (queue_entry row) i) (length_entry row) len in
      caused_then p₁ (read_within s p₁ 0 most_word) _ (within_fair s p₁ 0 most_word h₁)
      (within_caused (to_word_length to) h₁ 0 most_word (λ v r. (omega arith, r))) (λ len p₂ e₂ h₂.
      rounds_caused (word_rounds s q.sum (first_message q.messages i) (first_message q.messages (suc i)))
      (λ j at' x h'. message_fair s at' q.sum (first_message q.messages i) (first_message q.messages (suc i)) h') (word_entry row) p₂ (rows' len) len
      (λ j e at' x l n f h'. message_caused q i at' (to_word (word_entry row) (rows' len) to e₂ l f) h') h₂))

  -- from and to of a transition
  move_caused : (m : Machines) (q : Queues) (i at : ℕ) → ToMove s m q i at → at ≤ length s
      → Caused (read_two s at (get_or m.states i 0) (get_or m.states i 0))
  unfolding read_two
  move_caused m q i at c h =
      caused_then at (read_below s at (get_or m.states i 0)) _ (below_fair s at (get_or m.states i 0) h)
      (below_caused (to_from c) h (get_or m.states i 0) (λ v r. r)) (λ from p e h₁.
      caused_then p (read_below s p (get_or m.states i 0)) _ (below_fair s p (get_or m.states i 0) h₁)
      (below_caused (to_to c e) h₁ (get_or m.states i 0) (λ v r. r)) (λ _ _ _ _. tt))

  transition_caused : (m : Machines) (q : Queues) (t row at : ℕ) (rows : List ℕ) → ToTransition s m q t at → at ≤ length s
      → Caused (read_transition s at m q row rows)
  unfolding read_transition
  transition_caused m q t row at rows c h =
      caused_then at (read_below s at m.count) _ (below_fair s at m.count h) (below_caused (to_machine c) h m.count (λ v r. r)) (λ i p₁ e₁ h₁.
      let to : ToMove s m q i p₁ = record { number = t; begins = at; before = c; read = e₁ } in
      caused_then p₁ (read_two s p₁ (get_or m.states i 0) (get_or m.states i 0)) _
      (two_fair s p₁ (get_or m.states i 0) (get_or m.states i 0) h₁) (move_caused m q i p₁ to h₁) (λ move p₂ e₂ h₂.
      caused_then p₂ (read_below s p₂ 3) _ (below_fair s p₂ 3 h₂) (below_caused (to_kind to e₂) h₂ 3 (λ v r. r)) (λ k p₃ e₃ h₃.
      caused_cond (eqb k 0) (got _ p₃) (read_action s p₃ q row _) tt (λ n.
      action_caused q row p₃ (set (set (set (set rows row i) (from_entry row) move.0) (to_entry row) move.1) (kind_entry row) k)
      (record {
        machines = m;
        machine = i;
        begins = p₁;
        before = to;
        move = move;
        after_move = p₂;
        moved = e₂;
        kind = k;
        read = e₃;
        acts = eqb-false k 0 n;
      })
      h₃))))

  transitions_caused : {m : Machines} {q : Queues} {p : ℕ} → ToTransitions s m q p → p ≤ length s → Caused (read_transitions s p m q)
  unfolding read_transitions
  transitions_caused {m} {q} {p} c h =
      caused_then p (read_within s p 0 most_transitions) _ (within_fair s p 0 most_transitions h)
      (within_caused (to_transition_count c) h 0 most_transitions (λ v r. (omega arith, r))) (λ count p₁ e₁ h₁.
      caused_then p₁ (read_rows s p₁ m q count 0 (replicate rows_length 0)) _
      (rounds_fair s 8 (rows_rounds s m q) (λ t at x h'. transition_fair s m q (t * row_length) at x h') count 0 p₁ (replicate rows_length 0) h₁)
      (rounds_caused (rows_rounds s m q) (λ t at x h'. transition_fair s m q (t * row_length) at x h') 0 p₁ (replicate rows_length 0) count
      (λ j t at x l n f h'.
      transition_caused m q j (t * row_length) at x
      (record {
        begins = p;
        before = c;
        count = count;
        after_count = p₁;
        counted = e₁;
        below = l;
        rows = x;
        read = f;
      })
      h')
      h₁)
      (λ _ _ _ _. tt))

  model_caused : Caused (read_model s 0)
  unfolding read_model
  model_caused =
      caused_then 0 (read_machines s 0) _ (machines_fair s 0 (omega arith)) machines_caused (λ first p₁ e₁ h₁.
      caused_then p₁ (read_queues s p₁ first.0) _ (queues_fair s p₁ first.0 h₁) (queues_caused first.0 e₁ h₁) (λ q p₂ e₂ h₂.
      caused_then p₂ (read_transitions s p₂ first.1 q) _ (transitions_fair s first.1 q p₂ h₂)
      (transitions_caused (record { resumes = first.0; after_machines = p₁; machines = e₁; queues = e₂ }) h₂) (λ _ _ _ _. tt)))

  -- FIELD 4
  -- a message that is not above the one before it
  ascending_caused : (at sum n : ℕ) (before : Option ℕ) → ToArc s sum n before at → at ≤ length s
      → Caused (read_ascending s at sum (least_after before))
  unfolding read_ascending
  ascending_caused at sum n before c h =
      caused_then at (read_below s at sum) _ (below_fair s at sum h) (below_caused (to_arc c) h sum (λ v r. r)) (λ v next e _.
      caused_provided (leb (least_after before) v) 8 at (got v next) (λ t. late before c v next e (leb-false (least_after before) v t)) (λ _. tt))
    where
      late : (b : Option ℕ) → ToArc s sum n b at → (v next : ℕ) → read_below s at sum ≡ got v next → v < least_after b → Cause s 8 at
      late none c' v next e l = absurd (omega arith)
      late (some m) c' v next e l =
          not_ascending (record { comes = to_arc c'; next = next; number = below_number s at sum e }) (below_range s at sum e) (omega arith)

  arc_caused : (at sum n : ℕ) (before : Option ℕ) → ToArc s sum n before at → at ≤ length s
      → Caused (read_arc s at n sum (least_after before))
  unfolding read_arc
  arc_caused at sum n before c h =
      caused_then at (read_ascending s at sum (least_after before)) _ (ascending_fair s at sum (least_after before) h)
      (ascending_caused at sum n before c h) (λ m p e h₁.
      caused_then p (read_below s p n) _ (below_fair s p n h₁) (below_caused (to_target c e) h₁ n (λ v r. r)) (λ _ _ _ _. tt))

  module _ (sum n row count : ℕ) {begins first : ℕ} (earlier : ToArcs s sum n begins) (counted : read_within s begins 0 sum ≡ got count first) where
    arcs_caused : (left j at : ℕ) (before : Option ℕ) (arcs : List ℕ) → j + left ≡ count → ArcsRead s sum n first j before at → at ≤ length s
        → Caused (read_arcs s at n sum (least_after before) row left arcs)
    unfolding read_arcs
    arcs_caused zero j at before arcs m c h = tt
    arcs_caused (suc left) j at before arcs m c h =
        caused_then at (read_arc s at n sum (least_after before)) _ (arc_fair s at n sum (least_after before) h)
        (arc_caused at sum n before
        (record {
          begins = begins;
          earlier = earlier;
          count = count;
          after_count = first;
          counted = counted;
          arc = j;
          below = omega arith;
          read = c;
        })
        h)
        (λ arc next e h₁.
        arcs_caused left (suc j) next (some arc.0) (set arcs (row + arc.0) (arc.1 + 1)) (omega arith) (one_arc_more c e) h₁)

  state_caused : (sum n i row at : ℕ) (arcs : List ℕ) → ToState s sum n i at → at ≤ length s → Caused (read_state s at n sum row arcs)
  unfolding read_state
  state_caused sum n i row at arcs c h =
      caused_then at (read_below s at 2) _ (below_fair s at 2 h) (below_caused (to_final c) h 2 (λ v r. r)) (λ mark p₁ e₁ h₁.
      let to : ToArcs s sum n p₁ = record { number = i; begins = at; before = c; mark = mark; read = e₁ } in
      caused_then p₁ (read_within s p₁ 0 sum) _ (within_fair s p₁ 0 sum h₁)
      (within_caused (to_arc_count to) h₁ 0 sum (λ v r. (omega arith, r))) (λ count p₂ e₂ h₂.
      caused_then p₂ (read_arcs s p₂ n sum 0 row count arcs) _ (arcs_fair s n sum row count p₂ 0 arcs h₂)
      (arcs_caused sum n row count to e₂ count 0 p₂ none arcs (omega arith) no_arc h₂) (λ _ _ _ _. tt)))

  pool_caused : {M : ModelTables} {p : ℕ} → read_model s 0 ≡ got M p → p ≤ length s → Caused (read_pool s p M.queues.sum)
  unfolding read_pool
  pool_caused {M} {p} e h =
      caused_then p (read_within s p 1 most_pool) _ (within_fair s p 1 most_pool h)
      (within_caused (to_pool_count e) h 1 most_pool (λ v r. r)) (λ n p₁ e₁ h₁.
      caused_then p₁ (read_states s p₁ n M.queues.sum n 0 (replicate most_pool 0) (replicate pool_arcs 0)) _
      (rounds_fair s 8 (states_rounds s n M.queues.sum) (λ i at x h'. state_fair s n M.queues.sum (i * most_messages) at x.1 h') n 0 p₁
      (replicate most_pool 0, replicate pool_arcs 0) h₁)
      (rounds_caused (states_rounds s n M.queues.sum) (λ i at x h'. state_fair s n M.queues.sum (i * most_messages) at x.1 h') 0 p₁
      (replicate most_pool 0, replicate pool_arcs 0) n
      (λ j i at x l m f h'.
      state_caused M.queues.sum n j (i * most_messages) at x.1
      (record {
        model = M;
        begins = p;
        before = e;
        sums = refl;
        after_count = p₁;
        counted = e₁;
        below = l;
        states = x;
        read = f;
      })
      h')
      h₁)
      (λ _ _ _ _. tt))

  -- FIELDS 5 AND 6
  map_caused : (controls n at : ℕ) → ToSets s controls n at → at ≤ length s → Caused (read_map s at controls n)
  unfolding read_map
  map_caused controls n at c h =
      caused_then at (read_roots s at n controls 0 (replicate most_controls 0)) _
      (rounds_fair s 8 (roots_rounds s n) (λ i at' x h'. within_fair s at' 0 n h') controls 0 at (replicate most_controls 0) h)
      (rounds_caused (roots_rounds s n) (λ i at' x h'. within_fair s at' 0 n h') 0 at (replicate most_controls 0) controls
      (λ j i at' x l m f h'. within_caused (to_root c l f) h' 0 n (λ v r. (omega arith, r))) h)
      (λ _ _ _ _. tt)

  entry_caused : (controls n at : ℕ) → ToEntry s controls n at → at ≤ length s → Caused (read_two s at controls n)
  unfolding read_two
  entry_caused controls n at c h =
      caused_then at (read_below s at controls) _ (below_fair s at controls h) (below_caused (to_control c) h controls (λ v r. r)) (λ k p e h₁.
      caused_then p (read_below s p n) _ (below_fair s p n h₁) (below_caused (to_bad_root c e) h₁ n (λ v r. r)) (λ _ _ _ _. tt))

  bad_caused : (controls n at : ℕ) → ToBad s controls n at → at ≤ length s → Caused (read_bad s at controls n)
  unfolding read_bad
  bad_caused controls n at c h =
      caused_then at (read_within s at 0 most_bad) _ (within_fair s at 0 most_bad h)
      (within_caused (to_bad_count c) h 0 most_bad (λ v r. (omega arith, r))) (λ count p₁ e₁ h₁.
      caused_then p₁ (read_entries s p₁ controls n count 0 (replicate (most_bad * 2) 0)) _
      (rounds_fair s 8 (entries_rounds s controls n) (λ b at' x h'. two_fair s at' controls n h') count 0 p₁ (replicate (most_bad * 2) 0) h₁)
      (rounds_caused (entries_rounds s controls n) (λ b at' x h'. two_fair s at' controls n h') 0 p₁ (replicate (most_bad * 2) 0) count
      (λ j b at' x l m f h'.
      entry_caused controls n at'
      (record {
        begins = at;
        before = c;
        count = count;
        after_count = p₁;
        counted = e₁;
        entry = j;
        below = l;
        rows = x;
        read = f;
      })
      h')
      h₁)
      (λ _ _ _ _. tt))

  sets_caused : (controls n at : ℕ) → ToSets s controls n at → at ≤ length s → Caused (read_sets s at controls n)
  unfolding read_sets
  sets_caused controls n at c h =
      caused_then at (read_map s at controls n) _ (map_fair s controls n at h) (map_caused controls n at c h) (λ R p₁ e₁ h₁.
      caused_then p₁ (read_bad s p₁ controls n) _ (bad_fair s controls n p₁ h₁)
      (bad_caused controls n p₁ (record { begins = at; before = c; map = R; read = e₁ }) h₁) (λ _ _ _ _. tt))

  -- a refusal of parts in a row is that of the first, or of what follows it
  in_turn : {A B : Type 0} (at : ℕ) (x : Part A) (f : A → ℕ → Part B) {k p : ℕ} → Fair s 8 at x → Caused x → and_then x f ≡ refused k p
      → ((v : A) (next : ℕ) → x ≡ got v next → next ≤ length s → f v next ≡ refused k p → Cause s k p) → Cause s k p
  in_turn at (got v next) f h c e g = g v next refl h.1 e
  in_turn at (refused j q) f {k} {p} h c e g = let n : j ≡ k = cc in let m : q ≡ p = cc in subst₂ (Cause s) n m c

  -- a test that fails by another number is not the one that refused
  past_test : {A : Type 0} (b : Bool) (j q : ℕ) (x : Part A) {k p : ℕ} → (j ≡ k → ⊥) → provided b j q x ≡ refused k p
      → (b ≡ true) × (x ≡ refused k p)
  past_test true j q x n e = (refl, e)
  past_test false j q x {k} n e = let m : j ≡ k = cc in absurd (n m)

-- THE CAUSE OF EACH REFUSAL BY 3 TO 8 AND BY 23: every one but those by 1, 9 and 10, which have theorems of their own
pub refusal_cause : (s : List ℕ) (k p : ℕ) → read_file s ≡ refused k p → (k ≡ 1 → ⊥) → (k ≡ 9 → ⊥) → (k ≡ 10 → ⊥) → Cause s k p
refusal_cause s k p e one nine ten =
    let short = past_test s (leb (length s) most_bytes) 1 most_bytes (parts s) (λ n. one (sym n)) (sym (file_is s) ∙ e) in
    in_turn s 0 (read_model s 0) _ (model_fair s 0 (omega arith)) (model_caused s) short.1 (λ M p₁ e₁ h₁ g₁.
    in_turn s p₁ (read_pool s p₁ M.queues.sum) _ (pool_fair s M.queues.sum p₁ h₁) (pool_caused s e₁ h₁) g₁ (λ P p₂ e₂ h₂ g₂.
    let to : ToSets s M.machines.product P.count p₂ =
    record {
      model = M;
      pool = P;
      controlled = refl;
      counted = refl;
      after_model = p₁;
      first = e₁;
      second = e₂;
    }
    in
    in_turn s p₂ (read_sets s p₂ M.machines.product P.count) _ (sets_fair s M.machines.product P.count p₂ h₂)
    (sets_caused s M.machines.product P.count p₂ to h₂) g₂ (λ D p₃ e₃ h₃ g₃.
    let T = joined M P D in
    let order = past_test s (is_ordered T) 9 p₃ (at_end s T p₃) (λ n. nine (sym n)) g₃ in
    let end = past_test s (leb (length s) p₃) 10 p₃ _ (λ n. ten (sym n)) order.1 in
    absurd (not_refused (sym end.1)))))

-- 23: A FILE THAT RESUMES, AND NO QUEUE STARTS WITH A MESSAGE
pub record StartsWithNothing (s : List ℕ) : Type 0 where
  pub short : length s ≤ most_bytes
  pub queues : Queues
  pub begins : ℕ
  pub before : Resumes s queues begins
  pub held : List ℕ × List ℕ
  pub ends : ℕ
  pub read : ContentsRead s queues queues.count begins held ends
  pub none : (i : ℕ) → get_or held.0 i 0 ≡ 0

module _ (s : List ℕ) where
  caused_by_nothing : {k p : ℕ} → length s ≤ most_bytes → Cause s k p → k ≡ 23 → (p ≡ 0) × StartsWithNothing s
  caused_by_nothing l (ends c u) e = absurd (omega arith)
  caused_by_nothing l (malformed c m) e = absurd (omega arith)
  caused_by_nothing l (outside n r) e = absurd (omega arith)
  caused_by_nothing l (product_passed n r g) e = absurd (omega arith)
  caused_by_nothing l (sum_passed n r g) e = absurd (omega arith)
  caused_by_nothing l (other_queue n r o) e = absurd (omega arith)
  caused_by_nothing l (not_ascending n r g) e = absurd (omega arith)
  caused_by_nothing l (starts_empty {q} {begins} {p} {held} r c z) e =
      (refl, record { short = l; queues = q; begins = begins; before = r; held = held; ends = p; read = c; none = z })

  nothing_refused : StartsWithNothing s → read_model s 0 ≡ refused 23 0
  unfolding read_model read_queues read_starting
  nothing_refused h =
      rw (h.before.resumes, h.before.queues, h.read, none_waits h.held.0 h.none)

  pub refused_twenty_three : (p : ℕ) → (read_file s ≡ refused 23 p) ↔ ((p ≡ 0) × StartsWithNothing s)
  refused_twenty_three p = (
    λ e.
        let short = past_test s (leb (length s) most_bytes) 1 most_bytes (parts s) (λ n. omega arith) (sym (file_is s) ∙ e) in
        caused_by_nothing (leb-true (length s) most_bytes short.0)
        (refusal_cause s 23 p e (λ n. omega arith) (λ n. omega arith) (λ n. omega arith)) refl,
    λ (z, h).
        file_is s
        ∙ ap (λ b. provided b 1 most_bytes (parts s)) (le-leb (length s) most_bytes h.short)
        ∙ ap (λ x. and_then x (λ M next. from_pool s next M)) (nothing_refused h)
        ∙ ap (refused 23) (sym z),
  )
