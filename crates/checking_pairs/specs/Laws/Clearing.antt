-- Clearing: what is still marked is in the part of the queue that is still to be visited.
use Rattle.std.specs.Prelude.{◌≡◌, refl, ◌⊎◌, Bool, true, false, not, List, [], ◌∷◌, ◌++◌, ℕ, zero, suc, ◌+◌, ◌≤◌, ◌<◌, eqb, length, get_or, set, take, drop, replicate}
use Rattle.std.proofs.Common.{sym, ap, ap₂, ◌∙◌, inl, inr, ⊎_elim, true≢false, arith, length-set, length-append, get_or-set_same, get_or-set_other, get_or-take, get_or-drop, length-take-le, ext_get_or, eqb-true}
use Rattle.std.proofs.lemmas.List.{length-replicate, get_or-replicate, replicate-append-replicate}
use Rattle.std.proofs.lemmas.Bool.{eqb-false}
use Rattle.checking_pairs.specs.Pairs.{most_codes}
use Rattle.checking_pairs.specs.Laws.Marks.{tables_most}
use Rattle.theory_exploration.specs.Marks.{mem, count}
use Rattle.checking_pairs.specs.Marks.{Tables, Blank}

all_zero : (l : List ℕ) → ((c : ℕ) → get_or l c 0 ≡ 0) → l ≡ replicate (length l) 0
all_zero l e =
    ext_get_or 0 l (replicate (length l) 0) (sym (length-replicate (length l) 0))
    (λ i h. e i ∙ sym (get_or-replicate (length l) i 0 0 h))

-- THE MARKS of the codes from place k on are left
pub record Unmarking (seen codes : List ℕ) (k : ℕ) : Type 0 where
  pub long : length seen ≡ most_codes
  pub marks : (c : ℕ) → (get_or seen c 0 ≡ 0) ⊎ ((j : ℕ) × (k ≤ j) × (j < length codes) × (get_or codes j 0 ≡ c))

-- a member has its place
mem_place : (c : ℕ) (l : List ℕ) → mem c l ≡ true → (j : ℕ) × (0 ≤ j) × (j < length l) × (get_or l j 0 ≡ c)
mem_place c [] e = absurd (true≢false (sym e))
mem_place c (a ∷ l) e = by_test (eqb a c) refl e (mem_place c l)
  where
    by_test : (b : Bool) → eqb a c ≡ b → elim b [ true ↦ true | false ↦ mem c l ] ≡ true
        → (mem c l ≡ true → (j : ℕ) × (0 ≤ j) × (j < length l) × (get_or l j 0 ≡ c))
        → (j : ℕ) × (0 ≤ j) × (j < length (a ∷ l)) × (get_or (a ∷ l) j 0 ≡ c)
    by_test true t e below = (0, omega arith, omega arith, eqb-true a c t)
    by_test false t e below =
        let r = below e in
        let l : r.0 < length l = r.2 in
        (suc r.0, omega arith, omega arith, r.3)

module _ {seen queue : List ℕ} {tail : ℕ} (T : Tables seen queue tail) where
  pub tail_within : tail ≤ length queue
  tail_within = omega (arith, tables_most T, T.queue_long)

  pub front_long : tail ≡ length (take tail queue)
  front_long = sym (length-take-le tail queue tail_within)

  pub front_small : (k : ℕ) → k < length (take tail queue) → get_or (take tail queue) k 0 < most_codes
  front_small k h = rw (get_or-take tail queue k 0 (omega (arith, front_long))) (T.codes k)

  pub unmark_begin : Unmarking seen (take tail queue) 0
  unmark_begin = record { long = T.seen_long; marks = λ c. by_test c (eqb (get_or seen c 0) 0) refl }
    where
      by_test : (c : ℕ) (b : Bool) → eqb (get_or seen c 0) 0 ≡ b
          → (get_or seen c 0 ≡ 0) ⊎ ((j : ℕ) × (0 ≤ j) × (j < length (take tail queue)) × (get_or (take tail queue) j 0 ≡ c))
      by_test c true t = inl (eqb-true (get_or seen c 0) 0 t)
      by_test c false t = inr (mem_place c (take tail queue) (T.known c ∙ ap not t))

module _ {seen codes : List ℕ} {k : ℕ} (U : Unmarking seen codes k) where
  pub unmark_next : {code : ℕ} → code ≡ get_or codes k 0 → code < most_codes → Unmarking (set seen code 0) codes (k + 1)
  unmark_next {code} e small =
      record { long = length-set seen code 0 ∙ U.long; marks = λ c. by_test c (eqb c code) refl }
    where
      other : (c : ℕ) → (c ≡ code → ⊥) → (get_or seen c 0 ≡ 0) ⊎ ((j : ℕ) × (k ≤ j) × (j < length codes) × (get_or codes j 0 ≡ c))
          → (get_or (set seen code 0) c 0 ≡ 0) ⊎ ((j : ℕ) × (k + 1 ≤ j) × (j < length codes) × (get_or codes j 0 ≡ c))
      other c n (inl z) = inl (get_or-set_other seen code c 0 0 n ∙ z)
      other c n (inr r) =
          let j : ℕ = r.0 in
          let from : k ≤ j = r.1 in
          let apart : (j ≡ k → ⊥) = λ z. n (sym r.3 ∙ ap (λ i. get_or codes i 0) z ∙ sym e) in
          inr (j, omega (arith, from, apart), r.2, r.3)

      by_test : (c : ℕ) (b : Bool) → eqb c code ≡ b
          → (get_or (set seen code 0) c 0 ≡ 0) ⊎ ((j : ℕ) × (k + 1 ≤ j) × (j < length codes) × (get_or codes j 0 ≡ c))
      by_test c true t =
          inl (ap (λ d. get_or (set seen code 0) d 0) (eqb-true c code t) ∙ get_or-set_same seen code 0 0 (omega (arith, U.long)))
      by_test c false t = other c (eqb-false c code t) (U.marks c)

  pub unmark_end : length codes ≤ k → seen ≡ replicate (length seen) 0
  unmark_end h =
      all_zero seen
      (λ c. ⊎_elim (λ z. z) (λ r. absurd (let from : k ≤ r.0 = r.1 in let below : r.0 < length codes = r.2 in omega arith)) (U.marks c))

-- THE ENTRIES of the queue from its tail on are 0, and so all are when those of its front were set
pub emptied : {seen queue front : List ℕ} {tail : ℕ} → Tables seen queue tail → front ≡ replicate (length (take tail queue)) 0
    → front ++ drop tail queue ≡ replicate (length (front ++ drop tail queue)) 0
emptied {seen} {queue} {front} {tail} T e =
    let m = length (take tail queue) in
    let n = length (drop tail queue) in
    let rest = all_zero (drop tail queue) (λ j. get_or-drop tail queue j 0 ∙ T.rest (tail + j) (omega arith)) in
    ap₂ ◌++◌ e rest
    ∙ replicate-append-replicate m n 0
    ∙ ap (λ n. replicate n 0)
    (sym (length-append front (drop tail queue) ∙ ap (λ l. length l + n) e ∙ ap (λ k. k + n) (length-replicate m 0)))

-- and tables that are all 0 show nothing
blank_entry : (l : List ℕ) → l ≡ replicate (length l) 0 → (c : ℕ) → get_or l c 0 ≡ 0
blank_entry l e c = ap (λ l. get_or l c 0) e ∙ zeros (length l) c
  where
    zeros : (n c : ℕ) → ◌≡◌ {A = ℕ} (get_or (replicate n 0) c 0) 0
    zeros zero c = refl
    zeros (suc n) zero = refl
    zeros (suc n) (suc c) = zeros n c

count_zeros : (n : ℕ) → count (replicate n 0) ≡ 0
count_zeros zero = refl
count_zeros (suc n) = count_zeros n

pub tables_blank : {seen queue : List ℕ} → Blank seen queue → length seen ≡ most_codes → length queue ≡ most_codes → Tables seen queue 0
tables_blank {seen} {queue} B s q =
    record {
      seen_long = s;
      queue_long = q;
      counted = sym (ap count B.seen_blank ∙ count_zeros (length seen));
      known = λ c. sym (ap (λ n. not (eqb n 0)) (blank_entry seen B.seen_blank c));
      codes = λ k. omega (arith, blank_entry queue B.queue_blank k);
      rest = λ k h. blank_entry queue B.queue_blank k;
      earlier = λ k h g. absurd (omega arith);
    }
