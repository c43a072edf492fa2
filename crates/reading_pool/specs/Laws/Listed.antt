-- The pool as the file lists it, state after state, and that the tables of the pool are this list.
use Prim.Native.Nat.{ℕ, zero, suc, ◌+◌, ◌-◌, ◌*◌, ◌≤◌, ◌<◌}
use Rattle.std.specs.Prelude.{◌≡◌, Bool, cond, length, set, replicate}
use Rattle.std.proofs.Math.Path.{refl, sym, ap, subst}
use Rattle.std.proofs.Common.{◌∙◌, get_or-set_same, arith, zero-add, add-zero}
use Rattle.std.proofs.Math.Bool.{true, false}
use mathlib.Core.List.{List, [], ◌∷◌}
use Rattle.std.proofs.Math.Option.{Option, none, some}
use Rattle.std.proofs.Math.ListN.{get_or, length-set, get_or-eq_default}
use Rattle.std.proofs.lemmas.List.{length-replicate}
use Rattle.std.proofs.Math.Seq.{get_or-set_other}
use Rattle.std.proofs.Math.Dec.{ltb}
use borrow.Author.Tests.{eq-eqb, ltb-true, ltb-false}
use Rattle.tables.specs.Limits.{most_pool, most_messages}
use Rattle.numbers.specs.Part.{Part, got, and_then}
use Rattle.numbers.specs.Laws.Parts.{and_then_got, same_value, same_place_lem}
use Rattle.numbers.specs.Number.{read_within, read_below}
use Rattle.tables.specs.Pool.{arc_at}
use Rattle.reading_pool.specs.Pool.{read_state, read_states, read_pool}
use Rattle.numbers.specs.Laws.Ranges.{within_range}
use Rattle.numbers.specs.Laws.Parts.{and_then_assoc, and_then_same}
use Rattle.numbers.specs.Laws.Written.{Changed, zeros_hold}
use Rattle.tables.specs.Valid.{PoolValid}
use Rattle.reading_pool.specs.Laws.Pool.{pool_valid}
use Rattle.tables.specs.Laws.Pool.{entry_arc}
use Rattle.reading_pool.specs.Laws.Arcs.{list_arcs, put_arcs, listed_arc, Ascends, entry_of, arcs_listed, arcs_ascend, arcs_changed, arcs_entered}
use Rattle.tables.specs.declared.tables.Pool.{Pool}

-- a state as the file lists it: its final mark and its arcs
abbrev pub ListedState : Type 0
ListedState = ℕ × List (ℕ × ℕ)

-- what stands beyond the last state
abbrev pub no_state : ListedState
no_state = (0, [])

unfoldable pub list_state : List ℕ → ℕ → ℕ → ℕ → Part ListedState
list_state s n sum at =
    and_then (read_below s at 2) (λ final p₁.
    and_then (read_within s p₁ 0 sum) (λ count p₂.
    and_then (list_arcs s p₂ n sum 0 count) (λ arcs p₃.
    got (final, arcs) p₃)))

unfoldable pub list_states : List ℕ → ℕ → ℕ → ℕ → ℕ → Part (List ListedState)
list_states s at n sum zero = got [] at
list_states s at n sum (suc left) =
    and_then (list_state s n sum at) (λ state p₁. and_then (list_states s p₁ n sum left) (λ rest p₂. got (state ∷ rest) p₂))

unfoldable pub list_pool : List ℕ → ℕ → ℕ → Part (List ListedState)
list_pool s at sum = and_then (read_within s at 1 most_pool) (λ n p. list_states s p n sum n)

-- listed states put into the two tables, from number i on
unfoldable pub put_states : List ListedState → ℕ → List ℕ × List ℕ → List ℕ × List ℕ
put_states [] i x = x
put_states (state ∷ rest) i x = put_states rest (i + 1) (set x.0 i state.0, put_arcs (i * most_messages) state.1 x.1)

module _ (s : List ℕ) (n sum : ℕ) where
  state_listed : (row at : ℕ) (t : List ℕ)
      → read_state s at n sum row t ≡ and_then (list_state s n sum at) (λ state p. got (state.0, put_arcs row state.1 t) p)
  unfolding read_state list_state
  state_listed row at t =
      and_then_same (read_below s at 2) _ _ (λ final p₁.
      and_then_same (read_within s p₁ 0 sum) _ _ (λ count p₂.
      ap (λ x. and_then x (λ arcs' p₃. got (final, arcs') p₃)) (arcs_listed s n sum row count p₂ 0 t)
      ∙ and_then_assoc (list_arcs s p₂ n sum 0 count) _ _
      ∙ sym (and_then_assoc (list_arcs s p₂ n sum 0 count) _ _))
      ∙ sym (and_then_assoc (read_within s p₁ 0 sum) _ _))
      ∙ sym (and_then_assoc (read_below s at 2) _ _)

  states_listed : (left i at : ℕ) (x : List ℕ × List ℕ)
      → read_states s at n sum left i x.0 x.1 ≡ and_then (list_states s at n sum left) (λ l p. got (put_states l i x) p)
  unfolding read_states list_states put_states
  states_listed zero i at x = refl
  states_listed (suc left) i at x =
      ap
      (λ y. and_then y (λ state next. read_states s next n sum left (i + 1) (set x.0 i state.0) state.1))
      (state_listed (i * most_messages) at x.1)
      ∙ and_then_assoc (list_state s n sum at) _ _
      ∙ and_then_same (list_state s n sum at) _ _ (λ state p₁.
      states_listed left (i + 1) p₁ (set x.0 i state.0, put_arcs (i * most_messages) state.1 x.1)
      ∙ sym (and_then_assoc (list_states s p₁ n sum left) _ _))
      ∙ sym (and_then_assoc (list_state s n sum at) _ _)

  state_ascends : (at : ℕ) {state : ListedState} {next : ℕ} → list_state s n sum at ≡ got state next → Ascends n sum 0 state.1
  unfolding list_state
  state_ascends at e =
      let a = and_then_got (read_below s at 2) e in
      let b = and_then_got (read_within s a.place 0 sum) a.then in
      let c = and_then_got (list_arcs s b.place n sum 0 b.value) b.then in
      subst (λ state. Ascends n sum 0 state.1) (same_value c.then) (arcs_ascend s n sum b.value b.place 0 c.first)

  states_ascend : (left at : ℕ) {l : List ListedState} {next : ℕ} → list_states s at n sum left ≡ got l next
      → (length l ≡ left) × ((i : ℕ) → Ascends n sum 0 (get_or l i no_state).1)
  unfolding list_states Ascends
  states_ascend zero at e =
      subst (λ l. (length l ≡ 0) × ((i : ℕ) → Ascends n sum 0 (get_or l i no_state).1)) (same_value e) (refl, λ i. tt)
  states_ascend (suc left) at e =
      let t = and_then_got (list_state s n sum at) e in
      let u = and_then_got (list_states s t.place n sum left) t.then in
      let rest = states_ascend left t.place u.first in
      subst (λ l. (length l ≡ suc left) × ((i : ℕ) → Ascends n sum 0 (get_or l i no_state).1)) (same_value u.then)
      (ap suc rest.0, λ i. each t.value u.value i (state_ascends at t.first) rest.1)
    where
      each : (state : ListedState) (l : List ListedState) (i : ℕ) → Ascends n sum 0 state.1 → ((j : ℕ) → Ascends n sum 0 (get_or l j no_state).1)
          → Ascends n sum 0 (get_or (state ∷ l) i no_state).1
      each state l zero h r = h
      each state l (suc j) h r = r j

-- states put from number i on leave what stands before them
record Kept (i : ℕ) (x y : List ℕ × List ℕ) : Type 0 where
  finals : (k : ℕ) → k < i → get_or y.0 k 0 ≡ get_or x.0 k 0
  arcs : (k : ℕ) → k < i * most_messages → get_or y.1 k 0 ≡ get_or x.1 k 0

-- and each stands where it belongs
record Stands (l : List ListedState) (i : ℕ) (y : List ℕ × List ℕ) : Type 0 where
  finals : (j : ℕ) → j < length l → get_or y.0 (i + j) 0 ≡ (get_or l j no_state).0
  arcs : (j m : ℕ) → j < length l → m < most_messages
      → get_or y.1 ((i + j) * most_messages + m) 0 ≡ entry_of (listed_arc (get_or l j no_state).1 m) 0

module _ (n sum : ℕ) (few : sum ≤ most_messages) where
  states_kept : (l : List ListedState) (i : ℕ) (x : List ℕ × List ℕ) → ((j : ℕ) → Ascends n sum 0 (get_or l j no_state).1)
      → Kept i x (put_states l i x)
  unfolding put_states
  states_kept [] i x h = record { finals = λ k g. refl; arcs = λ k g. refl }
  states_kept (state ∷ rest) i x h =
      let y : List ℕ × List ℕ = (set x.0 i state.0, put_arcs (i * most_messages) state.1 x.1) in
      let later = states_kept rest (i + 1) y (λ j. h (suc j)) in
      let c = arcs_changed n sum (i * most_messages) 0 state.1 x.1 (h 0) in
      record {
        finals = λ k g. later.finals k (omega arith) ∙ get_or-set_other x.0 i k state.0 0 (omega arith);
        arcs = λ k g. later.arcs k (omega arith) ∙ c.under k g;
      }

  states_stand : (l : List ListedState) (i : ℕ) (x : List ℕ × List ℕ) → ((j : ℕ) → Ascends n sum 0 (get_or l j no_state).1)
      → i + length l ≤ length x.0 → (i + length l) * most_messages ≤ length x.1
      → ((k : ℕ) → i * most_messages ≤ k → get_or x.1 k 0 ≡ 0) → Stands l i (put_states l i x)
  unfolding put_states
  states_stand [] i x h lf la blank =
      record { finals = λ j g. absurd (omega arith); arcs = λ j m g l. absurd (omega arith) }
  states_stand (state ∷ rest) i x h lf la blank =
      let later =
      states_stand rest (i + 1) y (λ j. h (suc j)) (omega (arith, length-set x.0 i state.0)) (omega (arith, c.long))
      (λ k g. c.over k (omega arith) ∙ blank k (omega arith))
      in
      record { finals = λ j. finals j later; arcs = λ j m. arcs j m later }
    where
      y : List ℕ × List ℕ
      y = (set x.0 i state.0, put_arcs (i * most_messages) state.1 x.1)

      c : Changed (i * most_messages) (i * most_messages + sum) x.1 y.1
      c = arcs_changed n sum (i * most_messages) 0 state.1 x.1 (h 0)

      kept : Kept (i + 1) y (put_states rest (i + 1) y)
      kept = states_kept rest (i + 1) y (λ j. h (suc j))

      finals : (j : ℕ) → Stands rest (i + 1) (put_states rest (i + 1) y) → j < suc (length rest)
          → get_or (put_states rest (i + 1) y).0 (i + j) 0 ≡ (get_or (state ∷ rest) j no_state).0
      finals zero later g =
          ap (λ k. get_or (put_states rest (i + 1) y).0 k 0) (add-zero i) ∙ kept.finals i (omega arith)
          ∙ get_or-set_same x.0 i state.0 0 (omega arith)
      finals (suc j) later g =
          let e : i + suc j ≡ i + 1 + j = omega arith in
          ap (λ k. get_or (put_states rest (i + 1) y).0 k 0) e ∙ later.finals j (omega arith)

      arcs : (j m : ℕ) → Stands rest (i + 1) (put_states rest (i + 1) y) → j < suc (length rest) → m < most_messages
          → get_or (put_states rest (i + 1) y).1 ((i + j) * most_messages + m) 0 ≡ entry_of (listed_arc (get_or (state ∷ rest) j no_state).1 m) 0
      arcs zero m later g l =
          ap (λ k. get_or (put_states rest (i + 1) y).1 (k * most_messages + m) 0) (add-zero i)
          ∙ kept.arcs (i * most_messages + m) (omega arith)
          ∙ arcs_entered n sum (i * most_messages) 0 state.1 x.1 m (h 0) (omega arith)
          ∙ ap (entry_of (listed_arc state.1 m)) (blank (i * most_messages + m) (omega arith))
      arcs (suc j) m later g l =
          let e : i + suc j ≡ i + 1 + j = omega arith in
          ap (λ k. get_or (put_states rest (i + 1) y).1 (k * most_messages + m) 0) e ∙ later.arcs j m (omega arith) l

-- the tables of the pool say what the file lists
pub record PoolListed (s : List ℕ) (sum at : ℕ) (P : Pool) (next : ℕ) : Type 0 where
  pub states : List ListedState
  pub listed : list_pool s at sum ≡ got states next
  pub count : length states ≡ P.count
  pub finals : (i : ℕ) → get_or P.finals i 0 ≡ (get_or states i no_state).0
  pub arcs : (i m : ℕ) → m < most_messages → arc_at P.arcs i m ≡ listed_arc (get_or states i no_state).1 m
  pub ascend : (i : ℕ) → Ascends P.count sum 0 (get_or states i no_state).1

-- a lookup in the table, by what its entry is
pub arc_by_entry : (arcs : List ℕ) (i m : ℕ) (o : Option ℕ) → get_or arcs (i * most_messages + m) 0 ≡ entry_of o 0 → arc_at arcs i m ≡ o
arc_by_entry arcs i m none e =
    ap (λ b. cond b none (some (get_or arcs (i * most_messages + m) 0 - 1))) (eq-eqb (get_or arcs (i * most_messages + m) 0) 0 e)
arc_by_entry arcs i m (some t) e = entry_arc arcs i m (omega arith)

module _ (sum : ℕ) (P : Pool) (l : List ListedState) (pool : PoolValid sum P) (long : length l ≡ P.count)
    (stands : Stands l 0 (P.finals, P.arcs)) where
  finals_stand : (i : ℕ) → get_or P.finals i 0 ≡ (get_or l i no_state).0
  finals_stand i = go (ltb i (length l)) refl
    where
      go : (b : Bool) → ltb i (length l) ≡ b → get_or P.finals i 0 ≡ (get_or l i no_state).0
      go true f = ap (λ k. get_or P.finals k 0) (sym (zero-add i)) ∙ stands.finals i (ltb-true i (length l) f)
      go false f =
          let h = ltb-false i (length l) f in
          pool.finals_rest i (omega arith) ∙ sym (ap (λ (state : ListedState). state.0) (get_or-eq_default l no_state h))

  arcs_stand : (i m : ℕ) → m < most_messages → arc_at P.arcs i m ≡ listed_arc (get_or l i no_state).1 m
  unfolding listed_arc
  arcs_stand i m g = go (ltb i (length l)) refl
    where
      go : (b : Bool) → ltb i (length l) ≡ b → arc_at P.arcs i m ≡ listed_arc (get_or l i no_state).1 m
      go true f =
          arc_by_entry P.arcs i m (listed_arc (get_or l i no_state).1 m)
          (ap (λ k. get_or P.arcs (k * most_messages + m) 0) (sym (zero-add i)) ∙ stands.arcs i m (ltb-true i (length l) f) g)
      go false f =
          let h = ltb-false i (length l) f in
          arc_by_entry P.arcs i m none (pool.arcs_rest (i * most_messages + m) (omega arith))
          ∙ sym (ap (λ (state : ListedState). listed_arc state.1 m) (get_or-eq_default l no_state h))

abbrev tables : ℕ → List ℕ × List ℕ → Pool
tables n x = record { count = n; finals = x.0; arcs = x.1 }

-- THE POOL IS THE FILE'S LIST: final marks and arcs, each in its place and no others
pub pool_listed : (s : List ℕ) (sum at : ℕ) {P : Pool} {next : ℕ} → sum ≤ most_messages → read_pool s at sum ≡ got P next
    → PoolListed s sum at P next
unfolding read_pool list_pool
pool_listed s sum at {P} {next} few e =
    let t = and_then_got (read_within s at 1 most_pool) e in
    let r = within_range s at 1 most_pool t.first in
    made t.value t.place t.first r.1 t.then
  where
    x : List ℕ × List ℕ
    x = (replicate most_pool 0, replicate (most_pool * most_messages) 0)

    pool : PoolValid sum P
    pool = pool_valid s sum at few e

    built : (n p : ℕ) (l : List ListedState) (q : ℕ) → read_within s at 1 most_pool ≡ got n p → n ≤ most_pool → list_states s p n sum n ≡ got l q
        → tables n (put_states l 0 x) ≡ P → q ≡ next → PoolListed s sum at P next
    built n p l q e₁ h e₂ same place =
        let asc = states_ascend s n sum n p e₂ in
        let count = ap (λ (Q : Pool). Q.count) same in
        let long = asc.0 ∙ count in
        let stands =
        subst (λ (Q : Pool). Stands l 0 (Q.finals, Q.arcs)) same
        (states_stand n sum few l 0 x asc.1 (omega (arith, asc.0, length-replicate {A = ℕ} most_pool 0))
        (omega (arith, asc.0, length-replicate {A = ℕ} (most_pool * most_messages) 0))
        (λ k _. zeros_hold (most_pool * most_messages) k))
        in
        record {
          states = l;
          listed = ap (λ y. and_then y (λ n' p'. list_states s p' n' sum n')) e₁ ∙ e₂ ∙ ap (got l) place;
          count = long;
          finals = finals_stand sum P l pool long stands;
          arcs = arcs_stand sum P l pool long stands;
          ascend = λ i. subst (λ k. Ascends k sum 0 (get_or l i no_state).1) count (asc.1 i);
        }

    made : (n p : ℕ) → read_within s at 1 most_pool ≡ got n p → n ≤ most_pool
        → and_then (read_states s p n sum n 0 x.0 x.1) (λ states p₂. got (tables n states) p₂) ≡ got P next
        → PoolListed s sum at P next
    made n p e₁ h e₂ =
        let e₃ = sym (ap (λ y. and_then y (λ states p₂. got (tables n states) p₂)) (states_listed s n sum n 0 p x)) ∙ e₂ in
        let u = and_then_got (list_states s p n sum n) (sym (and_then_assoc (list_states s p n sum n) _ _) ∙ e₃) in
        built n p u.value u.place e₁ h u.first (same_value u.then) (same_place_lem u.then)
