-- Field 4: the pool that is read stands in the file as it is spelled, and the other way round.
use Prim.Native.Nat.{ℕ, zero, suc, ◌+◌, ◌-◌, ◌*◌, ◌≤◌, ◌<◌}
use Rattle.std.specs.Prelude.{◌≡◌, Bool, true, false, cond, length, get_or, set, replicate, eqb, ltb}
use Rattle.std.proofs.Math.Path.{refl, sym, ap, subst}
use Rattle.std.proofs.Common.{ap₂, ◌∙◌, zero-add, add-zero}
use mathlib.Core.List.{List, [], ◌∷◌, ◌++◌}
use Rattle.std.proofs.Math.Option.{none, some}
use borrow.Author.Tests.{ne_eqb, le-leb, ltb-true, ltb-false}
use native.Mathlib.Omega.{arith}
use Rattle.tables.specs.Limits.{most_pool, most_messages}
use Rattle.tables.specs.Pool.{arc_at, pool_arcs}
use Rattle.tables.specs.Valid.{PoolValid}
use Rattle.tables.specs.declared.tables.Pool.{Pool}
use Rattle.numbers.specs.Part.{got, and_then}
use Rattle.numbers.specs.Number.{read_within, read_below}
use Rattle.numbers.specs.Laws.Parts.{and_then_got, same_value, same_place_lem}
use Rattle.numbers.specs.Laws.Written.{Changed}
use Rattle.reading_pool.specs.Pool.{read_ascending, read_arc, read_state, read_states, read_pool}
use Rattle.reading_pool.specs.Laws.Arcs.{list_arcs, put_arcs, Ascends, entry_of, arcs_listed, arcs_changed, arcs_entered}
use Rattle.reading_pool.specs.Laws.Ranges.{ascending_number}
use Rattle.reading_pool.specs.Laws.Listed.{ListedState, no_state, list_state, list_states, list_pool, PoolListed, pool_listed}
use Rattle.reading_pool.specs.Laws.Pool.{states_rounds}
use Rattle.theory_format.specs.Spelled.{number, each, arcs_of, arcs, counted, state, pool}
use Rattle.theory_format.specs.Readable.{Bytes}
use Rattle.theory_format.specs.Laws.Here.{Here, here_none, here_then, here_part}
use Rattle.theory_format.specs.Laws.Fronts.{Front, front_none, front_set, front_whole}
use Rattle.theory_format.specs.Laws.Numbers.{here_got, number_forth, within_forth, within_back, below_forth, below_back}
use Rattle.theory_format.specs.Laws.Loops.{Round, loop_back}
use Rattle.theory_format.specs.Laws.Arcs.{ascends_few, arcs_say, arcs_are, pool_ascending}

-- as many arcs are listed as were asked for
listed_long : (s : List ℕ) (n sum left at least : ℕ) {l : List (ℕ × ℕ)} {next : ℕ} → list_arcs s at n sum least left ≡ got l next
    → length l ≡ left
unfolding list_arcs
listed_long s n sum zero at least e = subst (λ l. length l ≡ 0) (same_value e) refl
listed_long s n sum (suc left) at least e =
    let t = and_then_got (read_arc s at n sum least) e in
    let u = and_then_got (list_arcs s t.place n sum (t.value.0 + 1) left) t.then in
    subst (λ l. length l ≡ suc left) (same_value u.then)
    (ap suc {x = length u.value} (listed_long s n sum left t.place (t.value.0 + 1) u.first))

-- an entry of the table, by where its arc leads
entry_by_arc : (table : List ℕ) (i m : ℕ) → entry_of (arc_at table i m) 0 ≡ get_or table (i * most_messages + m) 0
entry_by_arc table i m = go (get_or table (i * most_messages + m) 0)
  where
    go : (v : ℕ) → entry_of (cond (eqb v 0) none (some (v - 1))) 0 ≡ v
    go zero = refl
    go (suc v) =
        let e : suc v - 1 + 1 ≡ suc v = omega arith in
        ap (λ b. entry_of (cond b none (some (suc v - 1))) 0) (ne_eqb (suc v) 0 (omega arith)) ∙ e

module _ (s : List ℕ) (n sum : ℕ) where
  arc_forth : Bytes s → (at least : ℕ) {arc : ℕ × ℕ} {next : ℕ} → read_arc s at n sum least ≡ got arc next
      → Here s at (number arc.0 ++ number arc.1) next
  unfolding read_arc
  arc_forth bytes at least e =
      let t = and_then_got (read_ascending s at sum least) e in
      let u = and_then_got (read_below s t.place n) t.then in
      here_got (λ (a : ℕ × ℕ). number a.0 ++ number a.1) u.then
      (here_then (number_forth s bytes at (ascending_number s at sum least t.first)) (below_forth s bytes t.place n u.first))

  arcs_forth : Bytes s → (left at least : ℕ) {l : List (ℕ × ℕ)} {next : ℕ} → list_arcs s at n sum least left ≡ got l next
      → Here s at (arcs l) next
  unfolding list_arcs arcs
  arcs_forth bytes zero at least e = here_got arcs e (here_none s at)
  arcs_forth bytes (suc left) at least e =
      let t = and_then_got (read_arc s at n sum least) e in
      let u = and_then_got (list_arcs s t.place n sum (t.value.0 + 1) left) t.then in
      here_got arcs u.then
      (made t.value u.value u.place (arc_forth bytes at least t.first)
      (arcs_forth bytes left t.place (t.value.0 + 1) u.first))
    where
      made : (arc : ℕ × ℕ) (rest : List (ℕ × ℕ)) (q : ℕ) {p : ℕ} → Here s at (number arc.0 ++ number arc.1) p
          → Here s p (arcs rest) q → Here s at (arcs (arc ∷ rest)) q
      made arc rest q h g = let p = here_part (number arc.0) h in here_then p.first (here_then p.second g)

  module _ (few : sum ≤ most_messages) (small : n ≤ most_pool) where
    arcs_back : (l : List (ℕ × ℕ)) (at least : ℕ) {next : ℕ} → Ascends n sum least l → Here s at (arcs l) next
        → list_arcs s at n sum least (length l) ≡ got l next
    unfolding Ascends arcs list_arcs read_arc read_ascending
    arcs_back [] at least z h = ap (got []) (sym (add-zero at) ∙ sym h.place)
    arcs_back (arc ∷ rest) at least z h =
        let p = here_part (number arc.0) h in
        let q = here_part (number arc.1) p.second in
        rw (
          below_back s at sum arc.0 z.1 (omega arith) p.first,
          le-leb least arc.0 z.0,
          below_back s p.middle n arc.1 z.2 (omega arith) q.first,
          arcs_back rest q.middle (arc.0 + 1) z.3 q.second,
        )

-- a state that is listed, as it is spelled
abbrev listed : ListedState → List ℕ
listed x = number x.0 ++ counted x.1

module _ (s : List ℕ) (bytes : Bytes s) (n sum : ℕ) where
  state_forth : (at : ℕ) {x : ListedState} {next : ℕ} → list_state s n sum at ≡ got x next → Here s at (listed x) next
  unfolding list_state
  state_forth at e =
      let t = and_then_got (read_below s at 2) e in
      let u = and_then_got (read_within s t.place 0 sum) t.then in
      let w = and_then_got (list_arcs s u.place n sum 0 u.value) u.then in
      let count =
      subst (λ k. Here s t.place (number k) u.place) (sym (listed_long s n sum u.value u.place 0 w.first))
      (within_forth s bytes t.place 0 sum u.first)
      in
      here_got listed w.then
      (here_then (below_forth s bytes at 2 t.first) (here_then count (arcs_forth s n sum bytes u.value u.place 0 w.first)))

  -- so many states that are listed, as parts that are spelled alike
  states_forth : (part : ℕ → List ℕ) (left i at : ℕ) {l : List ListedState} {next : ℕ} → list_states s at n sum left ≡ got l next
      → ((j : ℕ) → j < left → part (i + j) ≡ listed (get_or l j no_state)) → Here s at (each part left i) next
  unfolding list_states each
  states_forth part zero i at e same = subst (Here s at []) (same_place_lem e) (here_none s at)
  states_forth part (suc left) i at {l} {next} e same =
      let t = and_then_got (list_state s n sum at) e in
      let u = and_then_got (list_states s t.place n sum left) t.then in
      let same' =
      subst (λ (k : List ListedState). (j : ℕ) → j < suc left → part (i + j) ≡ listed (get_or k j no_state)) (sym (same_value u.then)) same
      in
      subst (Here s at (part i ++ each part left (i + 1))) (same_place_lem u.then)
      (made t.value u.value (state_forth at t.first) same' (states_forth part left (i + 1) t.place u.first))
    where
      made : (x : ListedState) (rest : List ListedState) {p q : ℕ} → Here s at (listed x) p
          → ((j : ℕ) → j < suc left → part (i + j) ≡ listed (get_or (x ∷ rest) j no_state))
          → (((j : ℕ) → j < left → part (i + 1 + j) ≡ listed (get_or rest j no_state)) → Here s p (each part left (i + 1)) q)
          → Here s at (part i ++ each part left (i + 1)) q
      made x rest {p} h f later =
          let first : part i ≡ listed x = ap part (sym (add-zero i)) ∙ f 0 (omega arith) in
          here_then (subst (λ w. Here s at w p) (sym first) h)
          (later (λ j g. let k : i + 1 + j ≡ i + suc j = omega arith in ap part k ∙ f (suc j) (omega arith)))

pub pool_forth : (s : List ℕ) → Bytes s → (sum at : ℕ) {P : Pool} {next : ℕ} → sum ≤ most_messages → read_pool s at sum ≡ got P next
    → Here s at (pool sum P) next
unfolding read_pool list_pool pool state
pool_forth s bytes sum at {P} {next} few e =
    let t = and_then_got (read_within s at 1 most_pool) e in
    let u = and_then_got (read_states s t.place t.value sum t.value 0 (replicate most_pool 0) (replicate pool_arcs 0)) t.then in
    made t.value t.place u.value u.place t.first u.then
  where
    L : PoolListed s sum at P next
    L = pool_listed s sum at few e

    same : (j : ℕ) → state P.finals P.arcs sum (0 + j) ≡ listed (get_or L.states j no_state)
    same j =
        ap (state P.finals P.arcs sum) (zero-add j)
        ∙ ap₂ (λ a b. number a ++ counted b) (L.finals j)
        (sym
        (arcs_are P.arcs j P.count sum sum 0 (get_or L.states j no_state).1 (omega arith) (L.ascend j)
        (λ k _ g. sym (L.arcs j k (omega arith)))))

    made : (n p : ℕ) (x : List ℕ × List ℕ) (q : ℕ) → read_within s at 1 most_pool ≡ got n p
        → got (record { count = n; finals = x.0; arcs = x.1 }) q ≡ got P next
        → Here s at (number P.count ++ each (state P.finals P.arcs sum) P.count 0) next
    made n p x q e₁ e₂ =
        let count : n ≡ P.count = ap (λ (Q : Pool). Q.count) (same_value e₂) in
        let states = sym (ap (λ y. and_then y (λ m r. list_states s r m sum m)) e₁) ∙ L.listed in
        subst (λ c. Here s at (number c ++ each (state P.finals P.arcs sum) c 0) next) count
        (here_then (within_forth s bytes at 1 most_pool e₁)
        (states_forth s bytes n sum (state P.finals P.arcs sum) n 0 p states (λ j _. same j)))

-- the two tables before state i is read, as the pool has them
abbrev Fronts : Pool → ℕ → List ℕ × List ℕ → Type 0
Fronts P i x = Front P.finals i x.0 × Front P.arcs (i * most_messages) x.1

module _ {sum : ℕ} {P : Pool} (few : sum ≤ most_messages) (z : PoolValid sum P) where
  -- a state's arcs put into the table are the table's own
  arcs_front : (i : ℕ) (t : List ℕ) → i < P.count → Front P.arcs (i * most_messages) t
      → Front P.arcs ((i + 1) * most_messages) (put_arcs (i * most_messages) (arcs_of P.arcs i sum 0) t)
  arcs_front i t h f =
      record {
        long = c.long ∙ f.long;
        same = λ k g. go k g (ltb k row) refl;
        rest = λ k g. c.over k (omega arith) ∙ f.rest k (omega arith);
      }
    where
      row : ℕ
      row = i * most_messages

      l : List (ℕ × ℕ)
      l = arcs_of P.arcs i sum 0

      c : Changed row (row + sum) t (put_arcs row l t)
      c = arcs_changed P.count sum row 0 l t (pool_ascending i few z)

      entry : (m : ℕ) → m < most_messages → (b : Bool) → ltb m sum ≡ b → get_or (put_arcs row l t) (row + m) 0 ≡ get_or P.arcs (row + m) 0
      entry m g true e =
          arcs_entered P.count sum row 0 l t m (pool_ascending i few z) (omega (arith, f.long, z.arcs_long, z.most))
          ∙ ap₂ entry_of (arcs_say P.arcs i sum 0 m (omega arith) (omega (arith, ltb-true m sum e))) (f.rest (row + m) (omega arith))
          ∙ entry_by_arc P.arcs i m
      entry m g false e =
          let d = ltb-false m sum e in
          c.over (row + m) (omega arith) ∙ f.rest (row + m) (omega arith) ∙ sym (z.arcs_above i m h d g)

      go : (k : ℕ) → k < (i + 1) * most_messages → (b : Bool) → ltb k row ≡ b → get_or (put_arcs row l t) k 0 ≡ get_or P.arcs k 0
      go k g true q = let d = ltb-true k row q in c.under k d ∙ f.same k d
      go k g false q =
          let d = ltb-false k row q in
          let e : row + (k - row) ≡ k = omega arith in
          subst (λ j. get_or (put_arcs row l t) j 0 ≡ get_or P.arcs j 0) e (entry (k - row) (omega arith) (ltb (k - row) sum) refl)

  state_back : (s : List ℕ) (i at : ℕ) (x : List ℕ × List ℕ) (next : ℕ) → i < P.count → Fronts P i x
      → Here s at (state P.finals P.arcs sum i) next
      → Round (λ k p y. read_state s p P.count sum (k * most_messages) y.1) (λ k v y. (set y.0 k v.0, v.1)) (Fronts P) i at x
      next
  unfolding read_state state
  state_back s i at x next h f g =
      let l = arcs_of P.arcs i sum 0 in
      let up = pool_ascending i few z in
      let p = here_part (number (get_or P.finals i 0)) g in
      let q = here_part (number (length l)) p.second in
      record {
        value = (get_or P.finals i 0, put_arcs (i * most_messages) l x.1);
        reads =
            rw (
              below_back s at 2 (get_or P.finals i 0) (z.finals i h) (omega arith) p.first,
              within_back s p.middle 0 sum (length l) (omega arith)
                  (omega (arith, ascends_few P.count sum 0 l (omega arith) up)) (omega arith) q.first,
              arcs_listed s P.count sum (i * most_messages) (length l) q.middle 0 x.1,
              arcs_back s P.count sum few z.most l q.middle 0 up q.second,
            );
        then = (front_set i refl (omega (arith, z.finals_long, z.most)) f.0, arcs_front i x.1 h f.1);
      }

pub pool_back : (s : List ℕ) (sum at : ℕ) (P : Pool) {next : ℕ} → sum ≤ most_messages → PoolValid sum P → Here s at (pool sum P) next
    → read_pool s at sum ≡ got P next
unfolding read_pool pool
pool_back s sum at P {next} few z h =
    let p = here_part (number P.count) h in
    let t =
    loop_back s (states_rounds s P.count sum) P.count (state P.finals P.arcs sum) (Fronts P) (state_back few z s) P.count 0
    p.middle (replicate most_pool 0, replicate pool_arcs 0) (zero-add P.count)
    (front_none P.finals most_pool z.finals_long, front_none P.arcs pool_arcs z.arcs_long) p.second
    in
    rw (
      within_back s at 1 most_pool P.count z.least z.most (omega arith) p.first,
      t.reads,
      front_whole z.finals_rest t.holds.0,
      front_whole z.arcs_rest t.holds.1,
    )
