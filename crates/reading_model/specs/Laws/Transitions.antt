-- What holds of the transitions that were read (field 3): each has a row of its own.
use Rattle.std.specs.Prelude.{ℕ, suc, ◌+◌, ◌*◌, ◌≤◌, ◌<◌, ◌≡◌, Bool, true, false, cond, List, length, replicate, eqb}
use Rattle.std.proofs.Math.Path.{refl, subst, subst₂}
use Rattle.std.proofs.Common.{sym, ◌∙◌, arith, zero-add}
use Rattle.std.proofs.Math.ListN.{get_or, set, length-set, length-replicate}
use Rattle.std.proofs.Math.Seq.{get_or-set_same, get_or-set_other}
use Rattle.std.proofs.lemmas.Bool.{eqb-false}
use Rattle.tables.specs.Limits.{most_transitions, most_word}
use Rattle.numbers.specs.Part.{got, and_then}
use Rattle.numbers.specs.Laws.Parts.{and_then_got, same_value}
use Rattle.numbers.specs.Number.{read_within, read_below, read_two}
use Rattle.tables.specs.Queues.{first_message}
use Rattle.reading_model.specs.Transitions.{read_action, read_transition, read_rows, read_transitions}
use Rattle.numbers.specs.Laws.Ranges.{below_range, within_range, two_range}
use Rattle.tables.specs.Valid.{MoveValid, ActionValid, RowValid, TransitionsValid}
use Rattle.reading_model.specs.Laws.Words.{word_same, word_read, word_made}
use Rattle.numbers.specs.Laws.Written.{Changed, changed_none, changed_set, changed_then, changed_wider, Written, written_none, written_more, zeros_hold}
use Rattle.numbers.specs.Laws.Rounds.{Rounds, rounds_keep}
use Rattle.tables.specs.declared.tables.Machines.{Machines}
use Rattle.tables.specs.declared.tables.Queues.{Queues}
use Rattle.tables.specs.declared.tables.Transitions.{Transitions}
use Rattle.tables.specs.Rows.{row_length, rows_length, from_entry, to_entry, kind_entry, queue_entry, length_entry, word_entry, machine_at, from_at, to_at, kind_at, queue_at, length_at}

-- a row looks at its own ten entries
row_same : (m : Machines) (q : Queues) (row : ℕ) (t u : List ℕ) → ((k : ℕ) → k < row + row_length → get_or u k 0 ≡ get_or t k 0)
    → RowValid m q t row → RowValid m q u row
row_same m q row t u same r =
    let e₀ = sym (same row (omega arith)) in
    let e₁ = sym (same (from_entry row) (omega arith)) in
    let e₂ = sym (same (to_entry row) (omega arith)) in
    let e₃ = sym (same (kind_entry row) (omega arith)) in
    let e₄ = sym (same (queue_entry row) (omega arith)) in
    let e₅ = sym (same (length_entry row) (omega arith)) in
    let a = r.action in
    let n = a.word.most in
    record {
      move =
          subst₂ (λ x y. MoveValid m (machine_at u row) (from_at u row) x y) e₂ e₃
          (subst₂ (λ x y. MoveValid m x y (to_at t row) (kind_at t row)) e₀ e₁ r.move);
      action =
          subst₂ (λ x y. ActionValid q x y (word_entry row) u) e₄ e₅
          (record {
            queue = a.queue;
            word = word_same q (length_at t row) (λ k h. same k (omega arith)) a.word;
          });
      local = λ z. let f = r.local (e₃ ∙ z) in (sym e₄ ∙ f.0, sym e₅ ∙ f.1);
    }

-- the first four entries of a row, written
abbrev pub moved : List ℕ → ℕ → ℕ → ℕ → ℕ → ℕ → List ℕ
moved rows row a b c d = set (set (set (set rows row a) (from_entry row) b) (to_entry row) c) (kind_entry row) d

pub record Moved (before : List ℕ) (row a b c d : ℕ) (after : List ℕ) : Type 0 where
  pub changed : Changed row (queue_entry row) before after
  pub machine : machine_at after row ≡ a
  pub from : from_at after row ≡ b
  pub to : to_at after row ≡ c
  pub kind : kind_at after row ≡ d

pub moved_written : (t : List ℕ) (row a b c d : ℕ) → row + row_length ≤ length t → Moved t row a b c d (moved t row a b c d)
moved_written t row a b c d h =
    let t₁ = set t row a in
    let t₂ = set t₁ (from_entry row) b in
    let t₃ = set t₂ (to_entry row) c in
    let l₁ = length-set t row a in
    let l₂ = length-set t₁ (from_entry row) b in
    let l₃ = length-set t₂ (to_entry row) c in
    record {
      changed =
          changed_then (changed_set row (queue_entry row) row a t (omega arith) (omega arith))
          (changed_then (changed_set row (queue_entry row) (from_entry row) b t₁ (omega arith) (omega arith))
          (changed_then (changed_set row (queue_entry row) (to_entry row) c t₂ (omega arith) (omega arith))
          (changed_set row (queue_entry row) (kind_entry row) d t₃ (omega arith) (omega arith))));
      machine =
          get_or-set_other t₃ (kind_entry row) row d 0 (omega arith)
          ∙ get_or-set_other t₂ (to_entry row) row c 0 (omega arith)
          ∙ get_or-set_other t₁ (from_entry row) row b 0 (omega arith)
          ∙ get_or-set_same t row a 0 (omega arith);
      from =
          get_or-set_other t₃ (kind_entry row) (from_entry row) d 0 (omega arith)
          ∙ get_or-set_other t₂ (to_entry row) (from_entry row) c 0 (omega arith)
          ∙ get_or-set_same t₁ (from_entry row) b 0 (omega arith);
      to = get_or-set_other t₃ (kind_entry row) (to_entry row) d 0 (omega arith) ∙ get_or-set_same t₂ (to_entry row) c 0 (omega arith);
      kind = get_or-set_same t₃ (kind_entry row) d 0 (omega arith);
    }

-- what is read from entry row + 4 on
record Acted (q : Queues) (row : ℕ) (before after : List ℕ) : Type 0 where
  changed : Changed (queue_entry row) (row + row_length) before after
  action : ActionValid q (queue_at after row) (length_at after row) (word_entry row) after

-- the row, from what its two parts say
row_made : (m : Machines) (q : Queues) (row : ℕ) (before after x : List ℕ) (i a b k : ℕ) → Moved before row i a b k after
    → Acted q row after x → (k ≡ 0 → (queue_at x row ≡ 0) × (length_at x row ≡ 0)) → MoveValid m i a b k
    → Changed row (row + row_length) before x × RowValid m q x row
row_made m q row before after x i a b k d acted local v =
    let c = acted.changed in
    let e₀ = c.under row (omega arith) ∙ d.machine in
    let e₁ = c.under (from_entry row) (omega arith) ∙ d.from in
    let e₂ = c.under (to_entry row) (omega arith) ∙ d.to in
    let e₃ = c.under (kind_entry row) (omega arith) ∙ d.kind in (
      changed_then (changed_wider (omega arith) (omega arith) d.changed) (changed_wider (omega arith) (omega arith) c),
      record {
        move =
            subst₂ (λ y z. MoveValid m (machine_at x row) (from_at x row) y z) (sym e₂) (sym e₃)
            (subst₂ (λ y z. MoveValid m y z b k) (sym e₀) (sym e₁) v);
        action = acted.action;
        local = λ z. local (sym e₃ ∙ z);
      },
    )

module _ (s : List ℕ) where
  action_read : (q : Queues) (row at : ℕ) (before : List ℕ) {x : List ℕ} {next : ℕ} → row + row_length ≤ length before
      → ((k : ℕ) → row + 4 ≤ k → get_or before k 0 ≡ 0) → read_action s at q row before ≡ got x next → Acted q row before x
  unfolding read_action
  action_read q row at before {x} h blank e =
      let t = and_then_got (read_below s at q.count) e in
      let u = and_then_got (read_within s t.place 0 most_word) t.then in
      let queue = t.value in
      let len = u.value in
      let n : len ≤ most_word = (within_range s t.place 0 most_word u.first).1 in
      let b₁ = set before (queue_entry row) queue in
      let b₂ = set b₁ (length_entry row) len in
      let l₁ = length-set before (queue_entry row) queue in
      let l₂ = length-set b₁ (length_entry row) len in
      let z =
      word_read s q.sum (first_message q.messages queue) (first_message q.messages (suc queue)) len (word_entry row) u.place b₂ (omega arith)
      u.then
      in
      let c = z.changed in
      let c₂ =
      changed_then (changed_set (queue_entry row) (word_entry row) (queue_entry row) queue before (omega arith) (omega arith))
      (changed_set (queue_entry row) (word_entry row) (length_entry row) len b₁ (omega arith) (omega arith))
      in
      let e₄ =
      c.under (queue_entry row) (omega arith)
      ∙ get_or-set_other b₁ (length_entry row) (queue_entry row) len 0 (omega arith)
      ∙ get_or-set_same before (queue_entry row) queue 0 (omega arith)
      in
      let e₅ = c.under (length_entry row) (omega arith) ∙ get_or-set_same b₁ (length_entry row) len 0 (omega arith) in
      record {
        changed = changed_then (changed_wider (omega arith) (omega arith) c₂) (changed_wider (omega arith) (omega arith) c);
        action =
            subst₂ (λ a b. ActionValid q a b (word_entry row) x) (sym e₄) (sym e₅)
            (record {
              queue = below_range s at q.count t.first;
              word =
                  word_made q queue (below_range s at q.count t.first) n z
                  (λ k g. c₂.over k (omega arith) ∙ blank k (omega arith));
            });
      }

  -- kind 0 ends here, with nothing more; the other kinds have an action
  kinds_read : (q : Queues) (row at kind : ℕ) (before : List ℕ) {x : List ℕ} {next : ℕ} → 1 ≤ q.count → row + row_length ≤ length before
      → ((k : ℕ) → row + 4 ≤ k → get_or before k 0 ≡ 0) → (b : Bool) → eqb kind 0 ≡ b
      → cond b (got before at) (read_action s at q row before) ≡ got x next
      → Acted q row before x × (kind ≡ 0 → (queue_at x row ≡ 0) × (length_at x row ≡ 0))
  kinds_read q row at kind before {x} l h blank true f e =
      let b₄ = blank (queue_entry row) (omega arith) in
      let b₅ = blank (length_entry row) (omega arith) in
      subst (λ y. Acted q row before y × (kind ≡ 0 → (queue_at y row ≡ 0) × (length_at y row ≡ 0))) (same_value e) (
        record {
          changed = changed_none (queue_entry row) (row + row_length) before;
          action =
              record {
                queue = omega arith;
                word =
                    record {
                      most = omega arith;
                      word = λ j g. absurd (omega arith);
                      below = λ j g. absurd (omega arith);
                      rest = λ j g₁ g₂. blank (word_entry row + j) (omega arith);
                    };
              };
        },
        λ z. (b₄, b₅),
      )
  kinds_read q row at kind before l h blank false f e = (action_read q row at before h blank e, λ z. absurd (eqb-false kind 0 f z))

  move_read : (m : Machines) (q : Queues) (row at : ℕ) (before : List ℕ) (i a b k : ℕ) {x : List ℕ} {next : ℕ} → 1 ≤ q.count
      → row + row_length ≤ length before → ((j : ℕ) → row ≤ j → get_or before j 0 ≡ 0)
      → cond (eqb k 0) (got (moved before row i a b k) at) (read_action s at q row (moved before row i a b k)) ≡ got x next
      → MoveValid m i a b k → Changed row (row + row_length) before x × RowValid m q x row
  move_read m q row at before i a b k {x} l h blank e v =
      let d = moved_written before row i a b k h in
      let r =
      kinds_read q row at k (moved before row i a b k) l (omega (arith, d.changed.long))
      (λ j g. d.changed.over j g ∙ blank j (omega arith)) (eqb k 0) refl e
      in
      row_made m q row before (moved before row i a b k) x i a b k d r.0 r.1 v

  kind_read : (m : Machines) (q : Queues) (row at : ℕ) (before : List ℕ) (i a b : ℕ) {x : List ℕ} {next : ℕ} → 1 ≤ q.count
      → row + row_length ≤ length before → ((j : ℕ) → row ≤ j → get_or before j 0 ≡ 0)
      → and_then (read_below s at 3) (λ k p.
      cond (eqb k 0) (got (moved before row i a b k) p) (read_action s p q row (moved before row i a b k)))
      ≡ got x next
      → i < m.count → (a < get_or m.states i 0) × (b < get_or m.states i 0)
      → Changed row (row + row_length) before x × RowValid m q x row
  kind_read m q row at before i a b l h blank e hi hm =
      let t = and_then_got (read_below s at 3) e in
      move_read m q row t.place before i a b t.value l h blank t.then
      (record { machine = hi; from = hm.0; to = hm.1; kind = below_range s at 3 t.first })

  transition_read : (m : Machines) (q : Queues) (row at : ℕ) (before : List ℕ) {x : List ℕ} {next : ℕ} → 1 ≤ q.count
      → row + row_length ≤ length before → ((k : ℕ) → row ≤ k → get_or before k 0 ≡ 0) → read_transition s at m q row before ≡ got x next
      → Changed row (row + row_length) before x × RowValid m q x row
  unfolding read_transition
  transition_read m q row at before l h blank e =
      let t = and_then_got (read_below s at m.count) e in
      let states = get_or m.states t.value 0 in
      let u = and_then_got (read_two s t.place states states) t.then in
      kind_read m q row u.place before t.value u.value.0 u.value.1 l h blank u.then
      (below_range s at m.count t.first) (two_range s t.place states states u.first)

  pub rows_rounds : (m : Machines) (q : Queues)
      → Rounds (λ left t at x. read_rows s at m q left t x) (λ t at x. read_transition s at m q (t * row_length) x) (λ t v x. v)
  unfolding read_rows
  rows_rounds m q = record { stop = λ i at x. refl; round = λ left i at x. refl }

  module _ (m : Machines) (q : Queues) (some : 1 ≤ q.count) where
    abbrev Row : ℕ → List ℕ → Type 0
    Row t rows = RowValid m q rows (t * row_length)

    row_step : (before : List ℕ) (t at : ℕ) (x v : List ℕ) (next : ℕ) → ((k : ℕ) → get_or before k 0 ≡ 0)
        → (t + 1) * row_length ≤ length before → read_transition s at m q (t * row_length) x ≡ got v next
        → Written Row (λ i. i * row_length) 0 t before x → Written Row (λ i. i * row_length) 0 (t + 1) before v
    row_step before t at x v next blank h e z =
        let r =
        transition_read m q (t * row_length) at x some (omega (arith, z.changed.long))
        (λ k g. z.changed.over k g ∙ blank k) e
        in
        written_more Row (λ i. i * row_length) (λ i j g. omega arith)
        (λ b y w same. row_same m q (b * row_length) y w (λ k g. same k (omega arith))) (omega arith) z
        (changed_wider (omega arith) (omega arith) r.0) r.1

    rows_read : (before : List ℕ) (count at : ℕ) {x : List ℕ} {next : ℕ} → ((k : ℕ) → get_or before k 0 ≡ 0)
        → count * row_length ≤ length before → read_rows s at m q count 0 before ≡ got x next
        → Written Row (λ i. i * row_length) 0 count before x
    rows_read before count at blank h e =
        rounds_keep (rows_rounds m q) (λ t. Written Row (λ i. i * row_length) 0 t before) count
        (λ t at' x v next l. row_step before t at' x v next blank (omega arith)) count 0 at before (zero-add count) e
        (written_none Row (λ i. i * row_length) 0 before)

    pub transitions_valid : (at : ℕ) {τ : Transitions} {next : ℕ} → read_transitions s at m q ≡ got τ next → TransitionsValid m q τ
    unfolding read_transitions
    transitions_valid at e =
        let t = and_then_got (read_within s at 0 most_transitions) e in
        let r = within_range s at 0 most_transitions t.first in
        let a = and_then_got (read_rows s t.place m q t.value 0 (replicate (rows_length) 0)) t.then in
        let z =
        rows_read (replicate (rows_length) 0) t.value t.place (zeros_hold (rows_length))
        (omega (arith, length-replicate {A = ℕ} (rows_length) 0, r.1)) a.first
        in
        subst (TransitionsValid m q) (same_value a.then)
        (record {
          most = r.1;
          long = z.changed.long ∙ length-replicate {A = ℕ} (rows_length) 0;
          row = λ i g. z.each i (omega arith) g;
          rest = λ k g. z.changed.over k g ∙ zeros_hold (rows_length) k;
        })
