-- The model's transitions and bad entries are the rows of the tables, and so are within the ranges of the rows.
use Rattle.std.specs.Prelude.{ℕ, zero, suc, ◌+◌, ◌*◌, ◌≤◌, ◌<◌, ◌≡◌, refl, List, length, get_or, take, drop}
use Rattle.std.proofs.Common.{sym, ap, subst, ◌∙◌, get_or-drop, get_or-take, length-take-le, arith}
use Rattle.std.proofs.Math.Option.{some}
use mathlib.Core.List.Memᴰ
use Rattle.std.proofs.Math.ListN.{get_elem?}
use Rattle.tables.specs.Valid.{QueuesValid, RowValid, TransitionsValid, BadValid}
use Rattle.tables.specs.declared.tables.Machines.{Machines}
use Rattle.tables.specs.declared.tables.Queues.{Queues}
use Rattle.tables.specs.declared.tables.Transitions.{Transitions}
use Rattle.tables.specs.declared.tables.BadList.{BadList}
use Rattle.theory_exploration.specs.Mem.{Mem, here, there}
use Rattle.theory_model.specs.Model.{Transition, first, Between}
use Rattle.theory_model.specs.Session.{OwnWord}
use Rattle.theory_files.specs.Tables.{action_of, transition_at, transitions_from, model_of, entry_at, bad_from}
use Rattle.theory_tables.specs.Laws.Queues.{first_is}
use Rattle.theory_files.specs.Laws.Counts.{between_take}
use Rattle.tables.specs.Rows.{row_length, word_entry, queue_at, length_at, word_at}

pub transitions_length : (rows : List ℕ) (left t : ℕ) → length (transitions_from rows left t) ≡ left
transitions_length rows zero t = refl
transitions_length rows (suc left) t = ap suc (transitions_length rows left (suc t))

pub entries_length : (rows : List ℕ) (left b : ℕ) → length (bad_from rows left b) ≡ left
entries_length rows zero b = refl
entries_length rows (suc left) b = ap suc (entries_length rows left (suc b))

-- transition i of a table
pub transition_at_lem : (rows : List ℕ) (left t i : ℕ) → i < left
    → get_elem? (transitions_from rows left t) i ≡ some (transition_at rows ((t + i) * row_length))
transition_at_lem rows zero t i h = absurd (omega arith)
transition_at_lem rows (suc left) t zero h = ap (λ n. some (transition_at rows (n * row_length))) (omega arith)
transition_at_lem rows (suc left) t (suc i) h =
    transition_at_lem rows left (suc t) i (omega arith) ∙ ap (λ n. some (transition_at rows (n * row_length))) (omega arith)

-- and bad entry i
pub entry_at_lem : (rows : List ℕ) (left b i : ℕ) → i < left → get_elem? (bad_from rows left b) i ≡ some (entry_at rows (b + i))
entry_at_lem rows zero b i h = absurd (omega arith)
entry_at_lem rows (suc left) b zero h = ap (λ n. some (entry_at rows n)) (omega arith)
entry_at_lem rows (suc left) b (suc i) h = entry_at_lem rows left (suc b) i (omega arith) ∙ ap (λ n. some (entry_at rows n)) (omega arith)

-- which row a transition is
pub transition_row : (rows : List ℕ) (left t : ℕ) (τ : Transition) → Mem τ (transitions_from rows left t)
    → (j : ℕ) × (j < t + left) × (τ ≡ transition_at rows (j * row_length))
transition_row rows zero t τ m = absurd (Memᴰ.not-nil m)
transition_row rows (suc left) t τ (here e) = (t, omega arith, e)
transition_row rows (suc left) t τ (there m) = let (j, l, e) = transition_row rows left (suc t) τ m in (j, omega arith, e)

-- and which a bad entry is
pub entry_row : (rows : List ℕ) (left b : ℕ) (e : ℕ × ℕ) → Mem e (bad_from rows left b)
    → (j : ℕ) × (j < b + left) × (e ≡ entry_at rows j)
entry_row rows zero b e m = absurd (Memᴰ.not-nil m)
entry_row rows (suc left) b e (here p) = (b, omega arith, p)
entry_row rows (suc left) b e (there m) = let (j, l, p) = entry_row rows left (suc b) e m in (j, omega arith, p)

module _ (m : Machines) (q : Queues) (τ : Transitions) (Q : QueuesValid q) where
  -- the word of a row is of messages of its queue
  row_word : (row : ℕ) → RowValid m q τ.rows row
      → (queue_at τ.rows row < length (take q.count q.messages))
      × Between (first (model_of m q τ) (queue_at τ.rows row)) (first (model_of m q τ) (suc (queue_at τ.rows row))) (word_at τ.rows row)
  row_word row r =
      let a = r.action in
      let w = a.word in
      let p = queue_at τ.rows row in
      let long = length-take-le q.count q.messages (omega (arith, Q.most, Q.long)) in
      let lo = first_is q.messages q.count p (omega (arith, a.queue)) in
      let hi = first_is q.messages q.count (suc p) a.queue in (
        omega (arith, a.queue),
        between_take (length_at τ.rows row) (drop (word_entry row) τ.rows)
            (λ j l.
            let e = get_or-drop (word_entry row) τ.rows j 0 in
            let o = w.word j l in
            (omega (arith, o.from), omega (arith, o.below))),
      )

  own_word : (k row : ℕ) → RowValid m q τ.rows row → OwnWord (model_of m q τ) (action_of k (queue_at τ.rows row) (word_at τ.rows row))
  own_word zero row r = tt
  own_word (suc zero) row r = row_word row r
  own_word (suc (suc k)) row r = row_word row r

  pub words_own : TransitionsValid m q τ → (σ : Transition) → Mem σ (model_of m q τ).transitions → OwnWord (model_of m q τ) σ.action
  words_own v σ h =
      let (j, l, e) = transition_row τ.rows τ.count 0 σ h in
      subst (λ ρ. OwnWord (model_of m q τ) ρ.action) (sym e)
      (own_word (get_or τ.rows (j * row_length + 3) 0) (j * row_length) (v.row j (omega arith)))

  -- a transition leads to a state of its machine
  pub moves_within : m.count ≤ length m.states → TransitionsValid m q τ → (σ : Transition) → Mem σ (model_of m q τ).transitions
      → σ.to < get_or (model_of m q τ).sizes σ.machine 0
  moves_within long v σ h =
      let (j, l, e) = transition_row τ.rows τ.count 0 σ h in
      let r = (v.row j (omega arith)).move in
      let machine = get_or τ.rows (j * row_length) 0 in
      let same = get_or-take m.count m.states machine 0 r.machine in
      subst (λ ρ. ρ.to < get_or (model_of m q τ).sizes ρ.machine 0) (sym e) (omega (arith, same, r.to))

-- the root of a bad entry is a state of the pool
pub entries_within : (product n : ℕ) (B : BadList) → BadValid product n B → (e : ℕ × ℕ) → Mem e (bad_from B.rows B.count 0) → e.1 < n
entries_within product n B v e h =
    let (j, l, p) = entry_row B.rows B.count 0 e h in
    subst (λ x. x.1 < n) (sym p) (v.root j (omega arith))
