-- What holds of the pool that was read (field 4).
use Prim.Native.Nat.{ℕ, zero, suc, ◌+◌, ◌*◌, ◌≤◌, ◌<◌}
use Rattle.std.specs.Prelude.{◌≡◌, List, length, set, replicate}
use Rattle.std.proofs.Math.Path.{refl, subst}
use Rattle.std.proofs.Common.{◌∙◌, arith, zero-add}
use Rattle.std.proofs.Math.ListN.{get_or, length-set}
use Rattle.std.proofs.lemmas.List.{length-replicate}
use Rattle.std.proofs.Math.Seq.{get_or-set_same, get_or-set_other}
use Rattle.tables.specs.Limits.{most_pool, most_messages}
use Rattle.numbers.specs.Part.{got}
use Rattle.numbers.specs.Laws.Parts.{and_then_got, same_value}
use Rattle.numbers.specs.Number.{read_within, read_below}
use Rattle.reading_pool.specs.Pool.{read_arc, read_arcs, read_state, read_states, read_pool}
use Rattle.numbers.specs.Laws.Ranges.{below_range, within_range}
use Rattle.tables.specs.Valid.{PoolValid}
use Rattle.reading_pool.specs.Laws.Ranges.{arc_range}
use Rattle.numbers.specs.Laws.Written.{at_or_other, Changed, changed_none, changed_set, changed_then, changed_wider, Entries, entries_none, entries_more, Written, written_none, written_more, zeros_hold}
use Rattle.numbers.specs.Laws.Rounds.{Rounds, rounds_keep}
use Rattle.tables.specs.declared.tables.Pool.{Pool}

-- What the arcs of a state write whose entries begin at row: nothing below message least, nothing from sum on.
pub record Arcs (n sum row least : ℕ) (before after : List ℕ) : Type 0 where
  pub changed : Changed (row + least) (row + sum) before after
  pub small : (k : ℕ) → row ≤ k → get_or after k 0 ≤ n

-- and what a state writes, its final mark with them
record State (n sum row : ℕ) (before : List ℕ) (x : ℕ × List ℕ) : Type 0 where
  final : x.0 < 2
  changed : Changed row (row + sum) before x.1
  small : (k : ℕ) → row ≤ k → get_or x.1 k 0 ≤ n

-- a state's part of the table
abbrev Fits : ℕ → ℕ → ℕ → List ℕ → Type 0
Fits n sum i arcs =
    (m : ℕ) → m < most_messages → (get_or arcs (i * most_messages + m) 0 ≤ n) × (sum ≤ m → get_or arcs (i * most_messages + m) 0 ≡ 0)

record States (n sum : ℕ) (finals arcs : List ℕ) (i : ℕ) (x : List ℕ × List ℕ) : Type 0 where
  marks : Entries (λ k v. v < 2) 0 i finals x.0
  parts : Written (Fits n sum) (λ k. k * most_messages) 0 i arcs x.1

module _ (s : List ℕ) (n sum : ℕ) where
  pub arcs_read : (row left at least : ℕ) (arcs : List ℕ) {x : List ℕ} {next : ℕ} → row + sum ≤ length arcs
      → ((k : ℕ) → row ≤ k → get_or arcs k 0 ≤ n) → read_arcs s at n sum least row left arcs ≡ got x next → Arcs n sum row least arcs x
  unfolding read_arcs
  arcs_read row zero at least arcs h small e =
      subst (Arcs n sum row least arcs) (same_value e) (record { changed = changed_none (row + least) (row + sum) arcs; small = small })
  arcs_read row (suc left) at least arcs h small e =
      let t = and_then_got (read_arc s at n sum least) e in
      let m = t.value.0 in
      let v = t.value.1 + 1 in
      let r = arc_range s at n sum least t.first in
      let l = length-set arcs (row + m) v in
      let rest =
      arcs_read row left t.place (m + 1) (set arcs (row + m) v) (omega arith)
      (λ k g.
      at_or_other (λ j. row ≤ j → get_or (set arcs (row + m) v) j 0 ≤ n) (row + m) k
      (λ _. omega (arith, get_or-set_same arcs (row + m) v 0 (omega (arith, r.1)), r.2))
      (λ d g'. omega (arith, get_or-set_other arcs (row + m) k v 0 d, small k g')) g)
      t.then
      in
      record {
        changed =
            changed_then (changed_set (row + least) (row + sum) (row + m) v arcs (omega (arith, r.0)) (omega (arith, r.1)))
            (changed_wider (omega (arith, r.0)) (omega arith) rest.changed);
        small = rest.small;
      }

  state_read : (row at : ℕ) (arcs : List ℕ) {x : ℕ × List ℕ} {next : ℕ} → row + sum ≤ length arcs
      → ((k : ℕ) → row ≤ k → get_or arcs k 0 ≤ n) → read_state s at n sum row arcs ≡ got x next → State n sum row arcs x
  unfolding read_state
  state_read row at arcs h small e =
      let t = and_then_got (read_below s at 2) e in
      let u = and_then_got (read_within s t.place 0 sum) t.then in
      let w = and_then_got (read_arcs s u.place n sum 0 row u.value arcs) u.then in
      let z = arcs_read row u.value u.place 0 arcs h small w.first in
      subst (State n sum row arcs) (same_value w.then)
      (record {
        final = below_range s at 2 t.first;
        changed = changed_wider (omega arith) (omega arith) z.changed;
        small = z.small;
      })

  pub states_rounds : Rounds (λ left i at x. read_states s at n sum left i x.0 x.1)
      (λ i at x. read_state s at n sum (i * most_messages) x.1) (λ i v x. (set x.0 i v.0, v.1))
  unfolding read_states
  states_rounds = record { stop = λ i at x. refl; round = λ left i at x. refl }

  state_step : (finals arcs : List ℕ) (i at : ℕ) (x : List ℕ × List ℕ) (v : ℕ × List ℕ) (next : ℕ) → sum ≤ most_messages
      → i < length finals → (i + 1) * most_messages ≤ length arcs → ((k : ℕ) → get_or arcs k 0 ≡ 0)
      → read_state s at n sum (i * most_messages) x.1 ≡ got v next → States n sum finals arcs i x
      → States n sum finals arcs (i + 1) (set x.0 i v.0, v.1)
  state_step finals arcs i at x v next few hf ha blank e z =
      let before = z.parts.changed in
      let r =
      state_read (i * most_messages) at x.1 (omega (arith, before.long))
      (λ k g. omega (arith, before.over k g, blank k)) e
      in
      record {
        marks = entries_more (λ k w. w < 2) (omega arith) hf z.marks r.final;
        parts =
            written_more (Fits n sum) (λ k. k * most_messages) (λ a b g. omega arith)
            (λ b t u same f m l.
            let e' = same (b * most_messages + m) (omega arith) in
            (omega (arith, (f m l).0), λ g. e' ∙ (f m l).1 g))
            (omega arith) z.parts (changed_wider (omega arith) (omega arith) r.changed)
            (λ m l. (
              r.small (i * most_messages + m) (omega arith),
              λ g.
                  r.changed.over (i * most_messages + m) (omega arith) ∙ before.over (i * most_messages + m) (omega arith)
                  ∙ blank (i * most_messages + m),
            ));
      }

  states_read : (finals arcs : List ℕ) (at : ℕ) {x : List ℕ × List ℕ} {next : ℕ} → sum ≤ most_messages → n ≤ length finals
      → n * most_messages ≤ length arcs → ((k : ℕ) → get_or arcs k 0 ≡ 0) → read_states s at n sum n 0 finals arcs ≡ got x next
      → States n sum finals arcs n x
  states_read finals arcs at few hf ha blank e =
      rounds_keep states_rounds (States n sum finals arcs) n
      (λ i at' x v next l. state_step finals arcs i at' x v next few (omega arith) (omega arith) blank) n 0 at (finals, arcs)
      (zero-add n) e
      (record {
        marks = entries_none (λ k w. w < 2) 0 finals;
        parts = written_none (Fits n sum) (λ k. k * most_messages) 0 arcs;
      })

pub pool_valid : (s : List ℕ) (sum at : ℕ) {P : Pool} {next : ℕ} → sum ≤ most_messages → read_pool s at sum ≡ got P next
    → PoolValid sum P
unfolding read_pool
pool_valid s sum at few e =
    let t = and_then_got (read_within s at 1 most_pool) e in
    let n = t.value in
    let r = within_range s at 1 most_pool t.first in
    let a =
    and_then_got (read_states s t.place n sum n 0 (replicate most_pool 0) (replicate (most_pool * most_messages) 0)) t.then
    in
    let lf = length-replicate {A = ℕ} most_pool 0 in
    let la = length-replicate {A = ℕ} (most_pool * most_messages) 0 in
    let z =
    states_read s n sum (replicate most_pool 0) (replicate (most_pool * most_messages) 0) t.place few (omega (arith, r.1))
    (omega (arith, r.1)) (zeros_hold (most_pool * most_messages)) a.first
    in
    subst (PoolValid sum) (same_value a.then)
    (record {
      least = r.0;
      most = r.1;
      finals_long = z.marks.changed.long ∙ lf;
      arcs_long = z.parts.changed.long ∙ la;
      finals = λ i g. z.marks.each i (omega arith) g;
      finals_rest = λ i g. z.marks.changed.over i g ∙ zeros_hold most_pool i;
      arcs = λ i m g l. (z.parts.each i (omega arith) g m l).0;
      arcs_above = λ i m g h l. (z.parts.each i (omega arith) g m l).1 h;
      arcs_rest = λ k g. z.parts.changed.over k g ∙ zeros_hold (most_pool * most_messages) k;
    })
