-- Marking a pair: the tables then show the list with the pair at its end, and there is room for it.
use Rattle.std.specs.Prelude.{◌≡◌, refl, Bool, true, false, not, List, [], ◌∷◌, ◌++◌, map, ℕ, zero, suc, ◌+◌, ◌-◌, ◌≤◌, ◌<◌, eqb, length, get_or, set, take}
use Rattle.std.proofs.Common.{sym, ap, ap₂, subst, ◌∙◌, true≢false, arith, length-set, length-append, get_or-set_same, get_or-set_other, length-take-le, eqb-true, eq-eqb, ne_eqb}
use Rattle.std.proofs.Math.Option.{Option, none, some}
use Rattle.std.proofs.lemmas.List.{map-append, length-map}
use Rattle.std.proofs.lemmas.Bool.{eqb-false}
use Rattle.theory_exploration.specs.Explore.{seen as isSeen}
use Rattle.theory_exploration.specs.Search.{Found, push, sweep}
use Rattle.theory_model.specs.Verdict.{Pair}
use Rattle.theory_model.specs.Judge.{same}
use Rattle.checking_pairs.specs.Pairs.{most_codes, decode}
use Rattle.checking_pairs.specs.Laws.Pairs.{same_codes}
use Rattle.theory_exploration.specs.Marks.{mem}
use Rattle.theory_exploration.specs.Laws.Marks.{count_most, count_room, count_set, mem_at, one_more_taken, one_more_known}
use Rattle.checking_pairs.specs.Marks.{found_at, view, Tables, Shows, Pushed, Swept}

-- a mark at a number that is not in the list changes none of its pairs
view_kept : (seen : List ℕ) (c v : ℕ) (l : List ℕ) → mem c l ≡ false → map (found_at (set seen c v)) l ≡ map (found_at seen) l
view_kept seen c v [] e = refl
view_kept seen c v (a ∷ l) e = by_test (eqb a c) refl e (view_kept seen c v l)
  where
    by_test : (b : Bool) → eqb a c ≡ b → elim b [ true ↦ true | false ↦ mem c l ] ≡ false
        → (mem c l ≡ false → map (found_at (set seen c v)) l ≡ map (found_at seen) l)
        → map (found_at (set seen c v)) (a ∷ l) ≡ map (found_at seen) (a ∷ l)
    by_test true t e below = absurd (true≢false e)
    by_test false t e below =
        ap₂ ◌∷◌ (ap (λ n. record { at = decode a; parent = n - 1 }) (get_or-set_other seen c a v 0 (eqb-false a c t))) (below e)

-- whether a pair is found is whether its number is in the list
view_seen : (seen : List ℕ) (c : ℕ) (l : List ℕ) → isSeen (λ f. f.at) same (map (found_at seen) l) (decode c) ≡ mem c l
view_seen seen c [] = refl
view_seen seen c (a ∷ l) =
    ap₂ (λ b r. elim b [ true ↦ true | false ↦ r ]) (same_codes a c) (view_seen seen c l)

push_old : (h : ℕ) (y : Pair) (L : List (Found Pair)) → isSeen (λ f. f.at) same L y ≡ true → push same h (some y) L ≡ L
push_old h y L t = rw (t, push)

push_new : (h : ℕ) (y : Pair) (L : List (Found Pair)) → isSeen (λ f. f.at) same L y ≡ false
    → push same h (some y) L ≡ L ++ (record { at = y; parent = h } ∷ [])
push_new h y L t = rw (t, push)

module _ {seen queue : List ℕ} {tail : ℕ} (T : Tables seen queue tail) where
  pub tables_most : tail ≤ most_codes
  tables_most = omega (arith, T.counted, T.seen_long, count_most seen)

  pub view_length : length (view seen queue tail) ≡ tail
  view_length =
      length-map (take tail queue) (found_at seen) ∙ length-take-le tail queue (omega (arith, tables_most, T.queue_long))

  pub shows_same : Shows seen queue tail (view seen queue tail)
  shows_same = record { tables = T; is = refl }

  -- nothing is pushed, or the pair of a number that is marked
  pub pushed_none : {h : ℕ} {o : Option Pair} → o ≡ none → Pushed seen queue tail h o seen queue tail
  pushed_none {h} e = record { shows = subst (λ o. Shows seen queue tail (push same h o (view seen queue tail))) (sym e) shows_same }

  pub pushed_old : (h c : ℕ) → (get_or seen c 0 ≡ 0 → ⊥) → Pushed seen queue tail h (some (decode c)) seen queue tail
  pushed_old h c e =
      record {
        shows =
            record {
              tables = T;
              is =
                  sym (push_old h (decode c) (view seen queue tail)
                  (view_seen seen c (take tail queue) ∙ T.known c ∙ ap not (ne_eqb (get_or seen c 0) 0 e)));
            };
      }

  module _ (h c : ℕ) (small : c < most_codes) (e : get_or seen c 0 ≡ 0) where
    pub tables_room : tail < most_codes
    tables_room = omega (arith, T.counted, T.seen_long, count_room seen c (omega (arith, T.seen_long)) e)

    absent : mem c (take tail queue) ≡ false
    absent = T.known c ∙ ap not (eq-eqb (get_or seen c 0) 0 e)

    in_seen : c < length seen
    in_seen = omega (arith, T.seen_long)

    in_queue : tail < length queue
    in_queue = omega (arith, T.queue_long, tables_room)

    taken : take (tail + 1) (set queue tail c) ≡ take tail queue ++ (c ∷ [])
    taken = one_more_taken seen queue tail c h in_queue in_seen

    at_place : (P : ℕ → Type 0) (k : ℕ) → (k ≡ tail → P c) → ((k ≡ tail → ⊥) → P (get_or queue k 0)) → P (get_or (set queue tail c) k 0)
    at_place P k here there = by_test (eqb k tail) refl
      where
        by_test : (b : Bool) → eqb k tail ≡ b → P (get_or (set queue tail c) k 0)
        by_test true t =
            let z = eqb-true k tail t in
            rw (z, get_or-set_same queue tail c 0 in_queue) (here z)
        by_test false t = let z = eqb-false k tail t in rw (get_or-set_other queue tail k c 0 z) (there z)

    new_earlier : h ≤ tail - 1 → (k : ℕ) → 0 < k → k < tail + 1 → get_or (set seen c (h + 1)) (get_or (set queue tail c) k 0) 0 ≤ k
    new_earlier parent k p q =
        at_place (λ a. get_or (set seen c (h + 1)) a 0 ≤ k) k
        (λ z. omega (arith, get_or-set_same seen c (h + 1) 0 in_seen))
        (λ z. let below : k < tail = omega arith in
        let other : (get_or queue k 0 ≡ c → ⊥) = λ w.
        true≢false (sym (mem_at queue tail k below (omega (arith, in_queue))) ∙ ap (λ a. mem a (take tail queue)) w ∙ absent) in
        omega (arith, get_or-set_other seen c (get_or queue k 0) (h + 1) 0 other, T.earlier k p below))

    -- A PAIR THAT WAS NOT FOUND goes to the end
    pub pushed_new : h ≤ tail - 1
        → Pushed seen queue tail h (some (decode c)) (set seen c (h + 1)) (set queue tail c) (tail + 1)
    pushed_new parent =
        record {
          shows = record {
            tables =
                record {
                  seen_long = length-set seen c (h + 1) ∙ T.seen_long;
                  queue_long = length-set queue tail c ∙ T.queue_long;
                  counted = omega (arith, count_set seen c h in_seen e, T.counted);
                  known = one_more_known seen queue tail c h in_queue in_seen T.known;
                  codes = λ k. at_place (λ a. a < most_codes) k (λ z. small) (λ z. T.codes k);
                  rest = λ k g. at_place (λ a. a ≡ 0) k (λ z. absurd (omega arith)) (λ z. T.rest k (omega arith));
                  earlier = new_earlier parent;
                };
            is =
                ap (map (found_at (set seen c (h + 1)))) taken
                ∙ map-append (found_at (set seen c (h + 1))) (take tail queue) (c ∷ [])
                ∙ ap₂ ◌++◌ (view_kept seen c (h + 1) (take tail queue) absent) (ap (λ p. record { at = decode c; parent = p } ∷ []) marked)
                ∙ sym (push_new h (decode c) (view seen queue tail) (view_seen seen c (take tail queue) ∙ absent));
          };
        }
      where
        marked : get_or (set seen c (h + 1)) c 0 - 1 ≡ h
        marked = omega (arith, get_or-set_same seen c (h + 1) 0 in_seen)

-- what is pushed by another name
pub pushed_as : {seen queue seen' queue' : List ℕ} {tail h r : ℕ} {o o' : Option Pair} → o ≡ o'
    → Pushed seen queue tail h o seen' queue' r → Pushed seen queue tail h o' seen' queue' r
pushed_as {seen} {queue} {seen'} {queue'} {tail} {h} {r} e p = subst (λ o. Pushed seen queue tail h o seen' queue' r) e p

-- PAIRS ARE ADDED, never taken away
push_longer : (h : ℕ) (o : Option Pair) (L : List (Found Pair)) → length L ≤ length (push same h o L)
push_longer h none L = omega arith
push_longer h (some y) L = by_test (isSeen (λ f. f.at) same L y)
  where
    by_test : (b : Bool) → length L ≤ length {A = Found Pair} (elim b [ true ↦ L | false ↦ L ++ (record { at = y; parent = h } ∷ []) ])
    by_test true = omega arith
    by_test false = simp length-append (omega arith)

pub pushed_more : {seen queue seen' queue' : List ℕ} {tail h r : ℕ} {o : Option Pair} → Tables seen queue tail
    → Pushed seen queue tail h o seen' queue' r → tail ≤ r
pushed_more {seen} {queue} {tail = tail} {h = h} {o = o} T p =
    omega (arith, view_length T, push_longer h o (view seen queue tail), view_length p.shows.tables, ap length p.shows.is)

sweep_longer : (δ : Pair → ℕ → Option Pair) (x : Pair) (h left m : ℕ) (L : List (Found Pair)) → length L ≤ length (sweep δ same x h left m L)
unfolding sweep
sweep_longer δ x h zero m L = omega arith
sweep_longer δ x h (suc left) m L =
    omega (arith, push_longer h (δ x m) L, sweep_longer δ x h left (suc m) (push same h (δ x m) L))

pub swept_more : {seen queue seen' queue' : List ℕ} {tail h left m r : ℕ} {δ : Pair → ℕ → Option Pair} {x : Pair} → Tables seen queue tail
    → Swept seen queue tail δ x h left m seen' queue' r → tail ≤ r
swept_more {seen} {queue} {tail = tail} {h = h} {left = left} {m = m} {δ = δ} {x = x} T p =
    omega (arith, view_length T, sweep_longer δ x h left m (view seen queue tail), view_length p.shows.tables, ap length p.shows.is)
