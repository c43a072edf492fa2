-- Sameness entry by entry is equality, and what a comparison of slices finds.
use lib.Pointwise.{pointwise}
use Rattle.std.specs.Prelude.{nat_eq, ◌&&◌, ℕ, ◌≡◌, refl, true, false, List, [], ◌∷◌, eqb}
use Rattle.std.proofs.Common.{ap, ap₂, eqb-true, eq-eqb}
use Rattle.tables.specs.declared.tables.Machines.{Machines}
use Rattle.tables.specs.declared.tables.Queues.{Queues}
use Rattle.tables.specs.declared.tables.Tables.{Tables}
use Rattle.theory_model.specs.Laws.Basics.{by_test, false_not_true, and_is, is_and}
use Rattle.comparison.specs.Same.{same, same_machines, same_queues, same_large, same_tables}

pub same_is : (l m : List ℕ) → same l m ≡ true → l ≡ m
unfolding same
same_is [] [] e = refl
same_is [] (b ∷ m) e = false_not_true refl e
same_is (a ∷ l) [] e = false_not_true refl e
same_is (a ∷ l) (b ∷ m) e =
    let h = and_is (eqb a b) (same l m) e in ap₂ (λ x y. x ∷ y) (eqb-true a b h.0) (same_is l m h.1)

pub is_same : (l : List ℕ) → same l l ≡ true
unfolding same
is_same [] = refl
is_same (a ∷ l) = is_and (eqb a a) (same l l) (eq-eqb a a refl) (is_same l)

-- lists that differ are told apart
pub same_not : (l m : List ℕ) → (l ≡ m → ⊥) → same l m ≡ false
same_not l m h = by_test (same l m) (λ e. absurd (h (same_is l m e))) (λ e. e)

-- a comparison of slices, place by place, is this one
pointwise_same : (l m : List ℕ) → pointwise nat_eq l m ≡ same l m
unfolding same
pointwise_same [] [] = refl
pointwise_same [] (b ∷ m) = refl
pointwise_same (a ∷ l) [] = refl
pointwise_same (a ∷ l) (b ∷ m) = ap (λ t. eqb a b && t) (pointwise_same l m)

pub pointwise_is : pointwise nat_eq ≡ same
pointwise_is = λ i l m. pointwise_same l m i

-- TABLES ARE THE SAME exactly if they are equal
machines_same : (m n : Machines) → same_machines m n ≡ true → m ≡ n
machines_same m n e =
    let a = and_is (eqb m.count n.count) _ e in
    let b = and_is (eqb m.product n.product) _ a.1 in
    let c = and_is (same m.states n.states) _ b.1 in
    let count = eqb-true m.count n.count a.0 in
    let product = eqb-true m.product n.product b.0 in
    let states = same_is m.states n.states c.0 in
    let starts = same_is m.starts n.starts c.1 in
    λ i. record { count = count i; product = product i; states = states i; starts = starts i }

queues_same : (q p : Queues) → same_queues q p ≡ true → q ≡ p
queues_same q p e =
    let a = and_is (eqb q.count p.count) _ e in
    let b = and_is (eqb q.sum p.sum) _ a.1 in
    let count = eqb-true q.count p.count a.0 in
    let sum = eqb-true q.sum p.sum b.0 in
    let c = and_is (same q.messages p.messages) _ b.1 in
    let d = and_is (same q.lengths p.lengths) _ c.1 in
    let messages = same_is q.messages p.messages c.0 in
    let lengths = same_is q.lengths p.lengths d.0 in
    let contents = same_is q.contents p.contents d.1 in
    λ i. record { count = count i; sum = sum i; messages = messages i; lengths = lengths i; contents = contents i }

record Larges (T U : Tables) : Type 0 where
  rows : T.transitions.rows ≡ U.transitions.rows
  finals : T.pool.finals ≡ U.pool.finals
  arcs : T.pool.arcs ≡ U.pool.arcs
  roots : T.map.roots ≡ U.map.roots
  entries : T.bad.rows ≡ U.bad.rows

larges_same : (T U : Tables) → same_large T U ≡ true → Larges T U
larges_same T U e =
    let r = and_is (same T.transitions.rows U.transitions.rows) _ e in
    let s = and_is (same T.pool.finals U.pool.finals) _ r.1 in
    let t = and_is (same T.pool.arcs U.pool.arcs) _ s.1 in
    let u = and_is (same T.map.roots U.map.roots) _ t.1 in
    record {
      rows = same_is T.transitions.rows U.transitions.rows r.0;
      finals = same_is T.pool.finals U.pool.finals s.0;
      arcs = same_is T.pool.arcs U.pool.arcs t.0;
      roots = same_is T.map.roots U.map.roots u.0;
      entries = same_is T.bad.rows U.bad.rows u.1;
    }

pub same_tables_lem : (T U : Tables) → same_tables T U ≡ true → T ≡ U
same_tables_lem T U e =
    let h = and_is _ (same_large T U) e in
    let a = and_is (same_machines T.machines U.machines) _ h.0 in
    let b = and_is (same_queues T.queues U.queues) _ a.1 in
    let c = and_is (eqb T.transitions.count U.transitions.count) _ b.1 in
    let d = and_is (eqb T.pool.count U.pool.count) (eqb T.bad.count U.bad.count) c.1 in
    let m = machines_same T.machines U.machines a.0 in
    let q = queues_same T.queues U.queues b.0 in
    let transitions = eqb-true T.transitions.count U.transitions.count c.0 in
    let states = eqb-true T.pool.count U.pool.count d.0 in
    let bad = eqb-true T.bad.count U.bad.count d.1 in
    let l = larges_same T U h.1 in
    λ i.
    record {
      machines = m i;
      queues = q i;
      transitions = record { count = transitions i; rows = l.rows i };
      pool = record { count = states i; finals = l.finals i; arcs = l.arcs i };
      map = record { roots = l.roots i };
      bad = record { count = bad i; rows = l.entries i };
    }

number_same : (a : ℕ) → eqb a a ≡ true
number_same a = eq-eqb a a refl

pub tables_same : (T : Tables) → same_tables T T ≡ true
tables_same T =
    rw (
      number_same T.machines.count,
      number_same T.machines.product,
      is_same T.machines.states,
      is_same T.machines.starts,
      number_same T.queues.count,
      number_same T.queues.sum,
      is_same T.queues.messages,
      is_same T.queues.lengths,
      is_same T.queues.contents,
      number_same T.transitions.count,
      number_same T.pool.count,
      number_same T.bad.count,
      is_same T.transitions.rows,
      is_same T.pool.finals,
      is_same T.pool.arcs,
      is_same T.map.roots,
      is_same T.bad.rows,
    )
