-- How many messages wait in the first queues, queue by queue; where all of them lead, by what is found.
use Rattle.std.specs.Prelude.{ℕ, zero, suc, ◌+◌, ◌≤◌, ◌<◌, ◌≡◌, refl, List, [], ◌∷◌, ◌++◌, length, get_or, sum, take, Result, Ok, Err}
use Rattle.std.proofs.Common.{zero-le, sym, ap, subst, ◌∙◌, append-nil, arith, add-one, length-append}
use Rattle.std.proofs.Math.Option.{Option, none, some}
use Rattle.std.proofs.lemmas.List.Sums.{sum_by_more}
use Rattle.tables.specs.Limits.{most_pool}
use Rattle.tables.specs.Kinds.{reached_of}
use Rattle.tables.specs.Lookup.{along_arc}
use Rattle.tables.specs.Laws.Lookup.{reached_nowhere, reached_small}
use Rattle.tables.specs.declared.kinds.DiagramState.{DiagramState}
use Rattle.theory_model.specs.Diagram.{word, one_more}
use Rattle.theory_replay.specs.Rules.{room}
use Rattle.following.specs.Follow.{follow_arcs, far_arcs, FollowsTo}
use Rattle.following.specs.Laws.Follow.{follow_none}
use Rattle.following.specs.Laws.Far.{far_none_arcs}
use Rattle.replaying_queues.specs.Ring.{ring_at, rings}
use Rattle.replaying_queues.specs.Lent.{Rings}
use Rattle.replaying_queues.specs.Led.{led_to, Leads, Waits}
use Rattle.replaying_queues.specs.Laws.Waiting.{waiting_length}
use Rattle.tables.specs.Laws.Each.{each_snoc}
use Rattle.following.specs.declared.messages.Lost.{Lost}

-- ONE QUEUE MORE
word_snoc : (qs : List (List ℕ)) (x : List ℕ) → length (word (qs ++ (x ∷ []))) ≡ length (word qs) + length x
word_snoc [] x = ap length (append-nil x) ∙ omega arith
word_snoc (q ∷ qs) x =
    let rest = word_snoc qs x in
    omega (arith, length-append q (word (qs ++ (x ∷ []))), length-append q (word qs))

pub first_more : (mem heads lengths : List ℕ) (q : ℕ)
    → length (word (rings mem heads lengths (q + 1))) ≡ length (word (rings mem heads lengths q)) + length (ring_at mem heads lengths q)
first_more mem heads lengths q =
    ap (λ k. length (word (rings mem heads lengths k))) (add-one q)
    ∙ ap (λ qs. length (word qs)) (each_snoc (ring_at mem heads lengths) q 0)
    ∙ word_snoc (rings mem heads lengths q) (ring_at mem heads lengths (0 + q))
    ∙ ap (λ k. length (word (rings mem heads lengths q)) + length (ring_at mem heads lengths k)) (let z : 0 + q ≡ q = omega arith in z)

ring_length : (mem heads lengths : List ℕ) (q : ℕ) → length (ring_at mem heads lengths q) ≡ get_or lengths q 0
ring_length mem heads lengths q = waiting_length mem _ (get_or heads q 0) (get_or lengths q 0)

pub waits_none : (lengths : List ℕ) → Waits lengths 0 0
waits_none lengths = record { is = λ mem heads. refl; most = omega arith }

pub waits_more : {lengths : List ℕ} {q n : ℕ} → Waits lengths q n → get_or lengths q 0 ≤ room → Waits lengths (q + 1) (n + get_or lengths q 0)
waits_more {lengths} {q} W h =
    record {
      is = λ mem heads. omega (arith, W.is mem heads, first_more mem heads lengths q, ring_length mem heads lengths q);
      most = omega (arith, W.most);
    }

pub waits_at : {lengths : List ℕ} {q k n : ℕ} → Waits lengths q n → q ≡ k → Waits lengths k n
waits_at {lengths} {n = n} W e = subst (λ k. Waits lengths k n) e W

-- as many as the sum of the first lengths
pub waits : (lengths : List ℕ) → ((q : ℕ) → get_or lengths q 0 ≤ room) → (q : ℕ) → q ≤ length lengths → Waits lengths q (sum (take q lengths))
waits lengths held zero h = waits_none lengths
waits lengths held (suc q) h =
    let next : sum (take (suc q) lengths) ≡ sum (take q lengths) + get_or lengths q 0 =
    ap (λ k. sum (take k lengths)) (sym (add-one q)) ∙ sum_by_more (λ x. x) lengths q 0 (omega arith) in
    subst (Waits lengths (suc q)) (sym next) (waits_at (waits_more (waits lengths held q (omega arith)) (held q)) (add-one q))

-- no more messages of a ring are followed than it has room for
far_most : (arcs : List ℕ) (x : Option ℕ) (u : List ℕ) → far_arcs arcs x u ≤ length u
unfolding far_arcs
far_most arcs x [] = zero-le
far_most arcs x (m ∷ u) = by_next (along_arc arcs x m) (far_most arcs (along_arc arcs x m) u)
  where
    by_next : (y : Option ℕ) → far_arcs arcs y u ≤ length u → one_more y (far_arcs arcs y u) ≤ suc (length u)
    by_next none h = zero-le
    by_next (some s) h = omega arith

pub ring_far : {mem heads lengths : List ℕ} {count : ℕ} (arcs : List ℕ) (x : Option ℕ) (q : ℕ) {n : ℕ} → Rings mem heads lengths count
    → n ≡ far_arcs arcs x (ring_at mem heads lengths q) → n ≤ room
ring_far {mem} {heads} {lengths} arcs x q R e =
    omega (arith, far_most arcs x (ring_at mem heads lengths q), ring_length mem heads lengths q, R.held q)

-- WHAT IS FOUND: no root; nowhere after k messages of the queues before and n of this one; a state
module _ {arcs u : List ℕ} where
  pub leads_rootless : {t : ℕ} {l : Lost} → t ≡ most_pool → l.0 ≡ 0 → Leads arcs t u (Err l)
  leads_rootless e z =
      record {
        is = (
          ap (λ x. follow_arcs arcs x u) (reached_nowhere e) ∙ follow_none arcs u,
          z ∙ sym (ap (λ x. far_arcs arcs x u) (reached_nowhere e) ∙ far_none_arcs arcs u),
        );
      }

  module _ {t t' : ℕ} (from : t ≡ t') where
    pub leads_nowhere : (n : ℕ) {k l : ℕ} {L : Lost} → FollowsTo arcs t u most_pool → k ≡ l → l + n ≡ far_arcs arcs (reached_of t) u → L.0 ≡ k + n
        → Leads arcs t' u (Err L)
    leads_nowhere n f e g z =
        record {
          is = (
            sym (f.is ∙ ap (λ x. follow_arcs arcs (reached_of x) u) from) ∙ reached_nowhere refl,
            z ∙ ap (λ x. x + n) e ∙ g ∙ ap (λ x. far_arcs arcs (reached_of x) u) from,
          );
        }

    pub leads_to_lem : {s : ℕ} {d : DiagramState} → s < most_pool → FollowsTo arcs t u s → d.0 ≡ s → Leads arcs t' u (Ok d)
    leads_to_lem below f e =
        record { is = (sym (f.is ∙ ap (λ x. follow_arcs arcs (reached_of x) u) from) ∙ reached_small below ∙ ap some (sym e), omega arith) }

-- and back, by the answer
module _ {arcs u : List ℕ} {t : ℕ} {r : Result DiagramState Lost} (L : Leads arcs t u r) where
  pub led_to_lem : {s : DiagramState} → r ≡ Ok s → (follow_arcs arcs (reached_of t) u ≡ some s.0) × (s.0 < most_pool)
  led_to_lem z = subst (led_to arcs t u) z L.is

  pub led_nowhere : {l : Lost} → r ≡ Err l → (follow_arcs arcs (reached_of t) u ≡ none) × (l.0 ≡ far_arcs arcs (reached_of t) u)
  led_nowhere z = subst (led_to arcs t u) z L.is
