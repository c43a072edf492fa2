-- The transitions that are read are the transitions that stand there (field 3).
use Rattle.std.specs.Prelude.{ℕ, suc, ◌+◌, ◌*◌, ◌≤◌, ◌<◌, ◌≡◌, Bool, true, false, cond, List, [], ◌++◌, set, replicate, ltb, eqb}
use Rattle.std.proofs.Math.Path.{refl, subst}
use Rattle.std.proofs.Common.{sym, ap, ◌∙◌, eqb-true, ltb-true, zero-add, add-zero}
use Rattle.std.proofs.Math.ListN.{length, get_or, length-set}
use Rattle.std.proofs.lemmas.List.{length-replicate}
use native.Mathlib.Omega.{arith}
use Rattle.tables.specs.Limits.{most_transitions, most_word}
use Rattle.tables.specs.Rows.{row_length, rows_length, from_entry, to_entry, kind_entry, queue_entry, length_entry, word_entry}
use Rattle.tables.specs.Rows.{machine_at, from_at, to_at, kind_at, queue_at, length_at}
use Rattle.tables.specs.Queues.{first_message}
use Rattle.tables.specs.Valid.{MachinesValid, QueuesValid, RowValid, TransitionsValid}
use Rattle.tables.specs.declared.tables.Machines.{Machines}
use Rattle.tables.specs.declared.tables.Queues.{Queues}
use Rattle.tables.specs.declared.tables.Transitions.{Transitions}
use Rattle.numbers.specs.Part.{Part, got, and_then}
use Rattle.numbers.specs.Number.{read_within, read_below, read_two}
use Rattle.numbers.specs.Laws.Parts.{and_then_got, same_value, same_place_lem}
use Rattle.numbers.specs.Laws.Ranges.{within_range}
use Rattle.numbers.specs.Laws.Rounds.{rounds_keep}
use Rattle.numbers.specs.Laws.Written.{at_or_other}
use Rattle.reading_model.specs.Words.{read_word}
use Rattle.reading_model.specs.Transitions.{read_action, read_transition, read_rows, read_transitions}
use Rattle.reading_model.specs.Laws.Words.{word_rounds}
use Rattle.reading_model.specs.Laws.Transitions.{moved, rows_rounds}
use Rattle.theory_format.specs.Readable.{Bytes}
use Rattle.theory_format.specs.Spelled.{number, each, entries, action, transition, transitions}
use Rattle.theory_format.specs.Laws.Here.{Here, here_none, here_then, here_part}
use Rattle.theory_format.specs.Laws.Fronts.{Begun, begun_all, begun_less, begun_before}
use Rattle.theory_format.specs.Laws.Fronts.{Front, front_none, front_set, front_zeros, front_whole}
use Rattle.theory_format.specs.Laws.Numbers.{here_got, within_forth, within_back, below_forth, below_back, two_forth, two_back}
use Rattle.theory_format.specs.Laws.Loops.{Round, loop_forth, loop_back}
use Rattle.theory_format.specs.Laws.Words.{word_forth, Word, word_of, word_rest, word_back}

moved_long : (rows : List ℕ) (row a b c d : ℕ) → length (moved rows row a b c d) ≡ length rows
moved_long rows row a b c d =
    length-set (set (set (set rows row a) (from_entry row) b) (to_entry row) c) (kind_entry row) d
    ∙ length-set (set (set rows row a) (from_entry row) b) (to_entry row) c
    ∙ length-set (set rows row a) (from_entry row) b
    ∙ length-set rows row a

-- reading leaves the table as long as it was
module _ (s : List ℕ) where
  word_long : (at sum lo hi len j : ℕ) (rows : List ℕ) {x : List ℕ} {next : ℕ} → read_word s at sum lo hi len j rows ≡ got x next
      → length x ≡ length rows
  word_long at sum lo hi len j rows e =
      rounds_keep (word_rounds s sum lo hi) (λ i z. length z ≡ length rows) (j + len) (λ i a z v p l f h. length-set z i v ∙ h) len j at
      rows refl e refl

  action_long : (at : ℕ) (q : Queues) (row : ℕ) (rows : List ℕ) {x : List ℕ} {next : ℕ} → read_action s at q row rows ≡ got x next
      → length x ≡ length rows
  unfolding read_action
  action_long at q row rows e =
      let t = and_then_got (read_below s at q.count) e in
      let u = and_then_got (read_within s t.place 0 most_word) t.then in
      word_long u.place q.sum (first_message q.messages t.value) (first_message q.messages (suc t.value)) u.value
      (word_entry row) _ u.then
      ∙ length-set (set rows (queue_entry row) t.value) (length_entry row) u.value
      ∙ length-set rows (queue_entry row) t.value

  kinds_long : (b : Bool) (at : ℕ) (q : Queues) (row : ℕ) (rows : List ℕ) {x : List ℕ} {next : ℕ}
      → cond b (got rows at) (read_action s at q row rows) ≡ got x next → length x ≡ length rows
  kinds_long true at q row rows e = ap length (sym (same_value e))
  kinds_long false at q row rows e = action_long at q row rows e

  transition_long : (at : ℕ) (m : Machines) (q : Queues) (row : ℕ) (rows : List ℕ) {x : List ℕ} {next : ℕ}
      → read_transition s at m q row rows ≡ got x next → length x ≡ length rows
  unfolding read_transition
  transition_long at m q row rows e =
      let t = and_then_got (read_below s at m.count) e in
      let u = and_then_got (read_two s t.place (get_or m.states t.value 0) (get_or m.states t.value 0)) t.then in
      let k = and_then_got (read_below s u.place 3) u.then in
      kinds_long (eqb k.value 0) k.place q row (moved rows row t.value u.value.0 u.value.1 k.value) k.then
      ∙ moved_long rows row t.value u.value.0 u.value.1 k.value

here_number : {s : List ℕ} {at v w next : ℕ} → w ≡ v → Here s at (number v) next → Here s at (number w) next
here_number {s} {at} {next = next} e h = subst (λ z. Here s at (number z) next) (sym e) h

here_two : {s u : List ℕ} {at a b v w p next : ℕ} → v ≡ a → w ≡ b → Here s at (number a ++ number b) p → Here s p u next
    → Here s at (number v ++ (number w ++ u)) next
here_two {a = a} d e h g =
    let r = here_part (number a) h in here_then (here_number d r.first) (here_then (here_number e r.second) g)

-- A row from its end back, as the last table has it.
module _ (s : List ℕ) (bytes : Bytes s) (last : List ℕ) (row : ℕ) (long : row + row_length ≤ length last) where
  -- entry k of a row was set: `kind_entry 0` is the kind's
  entry_forth : {t : List ℕ} (k v : ℕ) → ltb k row_length ≡ true → Begun last (row + suc k) (set t (row + k) v)
      → Begun last (row + k) t × (get_or last (row + k) 0 ≡ v)
  entry_forth k v l = let h = ltb-true k row_length l in begun_before (row + k) v (omega arith) (omega arith)

  action_forth : (at : ℕ) (q : Queues) (rows : List ℕ) {x : List ℕ} {next : ℕ} → read_action s at q row rows ≡ got x next
      → Begun last (row + row_length) x → Begun last (queue_entry row) rows × Here s at (action last row) next
  unfolding read_action action
  action_forth at q rows {x} {next} e b =
      let t = and_then_got (read_below s at q.count) e in
      let u = and_then_got (read_within s t.place 0 most_word) t.then in
      made t.value u.value (below_forth s bytes at q.count t.first) (within_forth s bytes t.place 0 most_word u.first)
      (within_range s t.place 0 most_word u.first).1 u.then
    where
      made : (queue len : ℕ) {p₁ p₂ : ℕ} → Here s at (number queue) p₁ → Here s p₁ (number len) p₂ → len ≤ most_word
          → read_word s p₂ q.sum (first_message q.messages queue) (first_message q.messages (suc queue)) len (word_entry row)
          (set (set rows (queue_entry row) queue) (length_entry row) len)
          ≡ got x next
          → Begun last (queue_entry row) rows
          × Here s at (number (queue_at last row) ++ (number (length_at last row) ++ entries last (length_at last row) (word_entry row))) next
      made queue len {p₁} {p₂} f g few w =
          let lo = first_message q.messages queue in
          let hi = first_message q.messages (suc queue) in
          let c =
          word_forth s bytes q.sum lo hi last len (word_entry row) (omega arith) p₂ _ w
          (begun_less (word_entry row + len) (omega arith) b)
          in
          let c₅ = entry_forth (length_entry 0) len refl c.0 in
          let c₄ = entry_forth (queue_entry 0) queue refl c₅.0 in
          let word = subst (λ n. Here s p₂ (entries last n (word_entry row)) next) (sym c₅.1) c.1 in
          (c₄.0, here_then (here_number c₄.1 f) (here_then (here_number c₅.1 g) word))

  kinds_forth : (b : Bool) (at : ℕ) (q : Queues) (rows : List ℕ) {x : List ℕ} {next : ℕ}
      → cond b (got rows at) (read_action s at q row rows) ≡ got x next → Begun last (row + row_length) x
      → Begun last (queue_entry row) rows × Here s at (cond b [] (action last row)) next
  kinds_forth true at q rows e b = (
    begun_less (queue_entry row) (omega arith) (subst (Begun last (row + row_length)) (sym (same_value e)) b),
    subst (Here s at []) (same_place_lem e) (here_none s at),
  )
  kinds_forth false at q rows e b = action_forth at q rows e b

  move_forth : (rows : List ℕ) (i a b k : ℕ) → Begun last (queue_entry row) (moved rows row i a b k)
      → Begun last row rows × (machine_at last row ≡ i) × (from_at last row ≡ a) × (to_at last row ≡ b) × (kind_at last row ≡ k)
  move_forth rows i a b k h =
      let l : row < length last = omega arith in
      let c₃ = entry_forth (kind_entry 0) k refl h in
      let c₂ = entry_forth (to_entry 0) b refl c₃.0 in
      let c₁ = entry_forth (from_entry 0) a refl c₂.0 in
      let c₀ = begun_before row i refl l c₁.0 in (c₀.0, c₀.1, c₁.1, c₂.1, c₃.1)

  kind_forth : (q : Queues) (at : ℕ) (rows : List ℕ) (i a b : ℕ) {x : List ℕ} {next : ℕ}
      → and_then (read_below s at 3) (λ k p.
      cond (eqb k 0) (got (moved rows row i a b k) p) (read_action s p q row (moved rows row i a b k)))
      ≡ got x next
      → Begun last (row + row_length) x
      → Begun last row rows × (machine_at last row ≡ i) × (from_at last row ≡ a) × (to_at last row ≡ b)
      × Here s at (number (kind_at last row) ++ cond (eqb (kind_at last row) 0) [] (action last row)) next
  kind_forth q at rows i a b {next = next} e h =
      let t = and_then_got (read_below s at 3) e in
      let d = kinds_forth (eqb t.value 0) t.place q (moved rows row i a b t.value) t.then h in
      let v = move_forth rows i a b t.value d.0 in
      let k = here_then (below_forth s bytes at 3 t.first) d.1 in
      (v.0, v.1, v.2, v.3, subst (λ n. Here s at (number n ++ cond (eqb n 0) [] (action last row)) next) (sym v.4) k)

  transition_forth : (m : Machines) (q : Queues) (at : ℕ) (rows : List ℕ) {x : List ℕ} {next : ℕ}
      → read_transition s at m q row rows ≡ got x next → Begun last (row + row_length) x
      → Begun last row rows × Here s at (transition last row) next
  unfolding read_transition transition
  transition_forth m q at rows e h =
      let t = and_then_got (read_below s at m.count) e in
      let states = get_or m.states t.value 0 in
      let u = and_then_got (read_two s t.place states states) t.then in
      let d = kind_forth q u.place rows t.value u.value.0 u.value.1 u.then h in (
        d.0,
        here_then (here_number d.1 (below_forth s bytes at m.count t.first))
            (here_two d.2 d.3 (two_forth s bytes t.place states states u.first) d.4),
      )

module _ (s : List ℕ) (bytes : Bytes s) (m : Machines) (q : Queues) where
  rows_forth : (count at : ℕ) {x : List ℕ} {next : ℕ} → count ≤ most_transitions
      → read_rows s at m q count 0 (replicate rows_length 0) ≡ got x next
      → Here s at (each (λ t. transition x (t * row_length)) count 0) next
  rows_forth count at {x} few e =
      (loop_forth s (rows_rounds s m q) count (λ t. transition x (t * row_length)) (λ t z. length z ≡ rows_length)
      (λ t. Begun x (t * row_length))
      (λ t a z v p l f h. transition_long s a m q (t * row_length) z f ∙ h)
      (λ t a z v p l f h b.
      transition_forth s bytes x (t * row_length) (omega (arith, transition_long s a m q (t * row_length) z f, h, b.long, l, few)) m q a z f
      (begun_less (t * row_length + row_length) (omega arith) b))
      count 0 at (replicate rows_length 0) (zero-add count) e (length-replicate {A = ℕ} rows_length 0) (begun_all x (count * row_length))).1

  pub transitions_forth : (at : ℕ) {τ : Transitions} {next : ℕ} → read_transitions s at m q ≡ got τ next → Here s at (transitions τ) next
  unfolding read_transitions transitions
  transitions_forth at e =
      let t = and_then_got (read_within s at 0 most_transitions) e in
      let a = and_then_got (read_rows s t.place m q t.value 0 (replicate rows_length 0)) t.then in
      here_got transitions a.then
      (here_then (within_forth s bytes at 0 most_transitions t.first)
      (rows_forth t.value t.place (within_range s at 0 most_transitions t.first).1 a.first))

-- A row forwards, as the last table has it.
module _ (s : List ℕ) (m : Machines) (q : Queues) (sizes : MachinesValid m) (counts : QueuesValid q) (last : List ℕ) (row : ℕ)
    (long : row + row_length ≤ length last) (valid : RowValid m q last row) where
  -- what is read at a place, up to next: the row as the last table has it
  abbrev Reads : Part (List ℕ) → ℕ → Type 0
  Reads part next = (x : List ℕ) × (part ≡ got x next) × Front last (row + row_length) x

  -- entry k of a row is set
  entry_back : {t : List ℕ} (k : ℕ) → ltb k row_length ≡ true → Front last (row + k) t
      → Front last (row + suc k) (set t (row + k) (get_or last (row + k) 0))
  entry_back k l = let h = ltb-true k row_length l in front_set (row + k) (omega arith) (omega arith)

  its_word : Word last q.sum (first_message q.messages (queue_at last row)) (first_message q.messages (suc (queue_at last row))) most_word
      (length_at last row) (word_entry row)
  its_word = word_of q (length_at last row) last valid.action.word

  action_back : (at : ℕ) (rows : List ℕ) {next : ℕ} → Front last (queue_entry row) rows → Here s at (action last row) next
      → Reads (read_action s at q row rows) next
  unfolding read_action action
  action_back at rows f h =
      let p = here_part (number (queue_at last row)) h in
      let r = here_part (number (length_at last row)) p.second in
      let g = entry_back (length_entry 0) refl (entry_back (queue_entry 0) refl f) in
      let few : q.sum ≤ 16384 = omega (arith, counts.sum_most) in
      let w =
      word_back s last few (length_at last row) (word_entry row) (omega arith) its_word (row + row_length) r.middle _ (omega arith) g
      r.second in (
        w.0,
        rw (
          below_back s at q.count (queue_at last row) valid.action.queue (omega (arith, counts.most)) p.first,
          within_back s p.middle 0 most_word (length_at last row) (omega arith) valid.action.word.most (omega arith) r.first,
        ) w.1,
        w.2,
      )

  -- a local transition has zeros after its kind
  local_rest : kind_at last row ≡ 0 → (k : ℕ) → queue_entry row ≤ k → k < row + row_length → get_or last k 0 ≡ 0
  local_rest e =
      let z = valid.local e in
      λ k.
      at_or_other (λ j. queue_entry row ≤ j → j < row + row_length → get_or last j 0 ≡ 0) (queue_entry row) k (λ _ _. z.0)
      (λ d. at_or_other (λ j. queue_entry row ≤ j → j < row + row_length → get_or last j 0 ≡ 0) (length_entry row) k (λ _ _. z.1)
      (λ d' l h. word_rest its_word k (omega (arith, z.1)) (omega arith)))

  kinds_back : (b : Bool) (at : ℕ) (rows : List ℕ) {next : ℕ} → eqb (kind_at last row) 0 ≡ b → Front last (queue_entry row) rows
      → Here s at (cond b [] (action last row)) next → Reads (cond b (got rows at) (read_action s at q row rows)) next
  kinds_back true at rows e f h = (
    rows,
    ap (got rows) (sym (add-zero at) ∙ sym h.place),
    front_zeros (row + row_length) (omega arith) (local_rest (eqb-true (kind_at last row) 0 e)) f,
  )
  kinds_back false at rows e f h = action_back at rows f h

  transition_back : (at : ℕ) (rows : List ℕ) {next : ℕ} → Front last row rows → Here s at (transition last row) next
      → Reads (read_transition s at m q row rows) next
  unfolding read_transition transition
  transition_back at rows f h =
      let v = valid.move in
      let states = get_or m.states (machine_at last row) 0 in
      let few : states ≤ 16384 = omega (arith, (sizes.states (machine_at last row) v.machine).1) in
      let p₁ = here_part (number (machine_at last row)) h in
      let p₂ = here_part (number (from_at last row)) p₁.second in
      let p₃ = here_part (number (to_at last row)) p₂.second in
      let p₄ = here_part (number (kind_at last row)) p₃.second in
      let both = here_then p₂.first p₃.first in
      let l : row < length last = omega arith in
      let g = entry_back (kind_entry 0) refl (entry_back (to_entry 0) refl (entry_back (from_entry 0) refl (front_set row refl l f))) in
      let w =
      kinds_back (eqb (kind_at last row) 0) p₄.middle
      (moved rows row (machine_at last row) (from_at last row) (to_at last row) (kind_at last row)) refl g p₄.second
      in (
        w.0,
        rw (
          below_back s at m.count (machine_at last row) v.machine (omega (arith, sizes.most)) p₁.first,
          two_back s p₁.middle states states (from_at last row) (to_at last row) v.from v.to few few both,
          below_back s p₃.middle 3 (kind_at last row) v.kind (omega arith) p₄.first,
        ) w.1,
        w.2,
      )

module _ (s : List ℕ) (m : Machines) (q : Queues) (sizes : MachinesValid m) (counts : QueuesValid q) where
  rows_back : (τ : Transitions) (at : ℕ) {next : ℕ} → TransitionsValid m q τ
      → Here s at (each (λ t. transition τ.rows (t * row_length)) τ.count 0) next
      → read_rows s at m q τ.count 0 (replicate rows_length 0) ≡ got τ.rows next
  rows_back τ at {next} valid h =
      let l =
      loop_back s (rows_rounds s m q) τ.count (λ t. transition τ.rows (t * row_length)) (λ t. Front τ.rows (t * row_length))
      step τ.count 0 at (replicate rows_length 0) (zero-add τ.count) (front_none τ.rows rows_length valid.long) h
      in
      l.reads ∙ ap (λ z. got z next) (front_whole valid.rest l.holds)
    where
      step : (t a : ℕ) (x : List ℕ) (p : ℕ) → t < τ.count → Front τ.rows (t * row_length) x
          → Here s a (transition τ.rows (t * row_length)) p
          → Round (λ t at x. read_transition s at m q (t * row_length) x) (λ t v x. v) (λ t. Front τ.rows (t * row_length)) t a x p
      step t a x p g f e =
          let w =
          transition_back s m q sizes counts τ.rows (t * row_length) (omega (arith, valid.long, valid.most)) (valid.row t g) a x f e
          in
          let n : t * row_length + row_length ≡ (t + 1) * row_length = omega arith in
          record { value = w.0; reads = w.1; then = subst (λ k. Front τ.rows k w.0) n w.2 }

pub transitions_back : (s : List ℕ) (m : Machines) (q : Queues) (at : ℕ) (τ : Transitions) {next : ℕ} → MachinesValid m → QueuesValid q
    → TransitionsValid m q τ → Here s at (transitions τ) next → read_transitions s at m q ≡ got τ next
unfolding read_transitions transitions
transitions_back s m q at τ sizes counts valid h =
    let p = here_part (number τ.count) h in
    rw (
      within_back s at 0 most_transitions τ.count (omega arith) valid.most (omega arith) p.first,
      rows_back s m q sizes counts τ p.middle valid p.second,
    )
