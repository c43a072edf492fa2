-- Rings brought into the form of the end, message by message and queue by queue.
use Rattle.std.specs.Prelude.{ℕ, zero, suc, ◌+◌, ◌-◌, ◌*◌, ◌≤◌, ◌<◌, ◌≡◌, List, [], ◌∷◌, ◌++◌, length, get_or, set, drop, replicate}
use Rattle.std.proofs.Math.Path.{refl, ap}
use Rattle.std.proofs.Common.{sym, ap₂, ◌∙◌, append_assoc, append-nil, add-one, length-append, length-set, length-drop, take_at, get_or-append-add, get_or-drop, drop-drop}
use native.Mathlib.Omega.{arith}
use Rattle.std.proofs.lemmas.List.{length-replicate}
use Rattle.std.proofs.lemmas.List.Edits.{sets, sets-eq}
use Rattle.std.proofs.Math.Seq.{drop-append-add}
use Rattle.numbers.specs.Laws.Put.{Left}
use Rattle.theory_replay.specs.Rules.{room}
use Rattle.tables.specs.Starting.{each}
use Rattle.replaying_queues.specs.Ring.{ring_at, rings}
use Rattle.replaying_queues.specs.Laid.{laid, laid_all, memory_after}
use Rattle.replaying_queues.specs.Lent.{Rings}
use Rattle.replaying_queues.specs.Laws.Waiting.{waiting_length, waiting_same}
use Rattle.tables.specs.Laws.Each.{each_snoc}
use Rattle.replaying_queues.specs.Laws.Rings.{rings_length}

-- ONE RING is gathered at the front of a copy
pub gather_begin : (ring : List ℕ) {u v : List ℕ} → u ≡ v → Left ring 0 u ring 0 v
gather_begin ring e = record { buffer = ap (sets ring 0) (sym e); place = ap (λ l. 0 + length l) (sym e); long = refl }

module _ {ring₀ u ring v : List ℕ} {i : ℕ} (l : Left ring₀ 0 u ring i v) where
  pub gather_next : {x : ℕ} {rest : List ℕ} → v ≡ x ∷ rest → Left ring₀ 0 u (set ring i x) (i + 1) rest
  gather_next {x} {rest} e =
      record {
        buffer = ap (λ k. sets (set ring i x) k rest) (add-one i) ∙ ap (sets ring i) (sym e) ∙ l.buffer;
        place = omega (arith, l.place, ap length e);
        long = length-set ring i x ∙ l.long;
      }

  pub gather_end : v ≡ [] → ring ≡ sets ring₀ 0 u
  gather_end e = ap (sets ring i) (sym e) ∙ l.buffer

-- so many bytes that are 0
abbrev zeros : ℕ → List ℕ
zeros n = replicate n 0

zeros_drop : (k n : ℕ) → drop k (zeros n) ≡ zeros (n - k)
zeros_drop zero n = ap zeros (let z : n ≡ n - 0 = omega arith in z)
zeros_drop (suc k) zero = ap zeros (let z : 0 ≡ 0 - suc k = omega arith in z)
zeros_drop (suc k) (suc n) = zeros_drop k n ∙ ap zeros (let z : n - k ≡ suc n - suc k = omega arith in z)

zeros_length : (n : ℕ) → length (zeros n) ≡ n
zeros_length n = length-replicate {A = ℕ} n 0

-- a copy that was 0 holds 0 after the messages
pub laid_is : (n : ℕ) (q : List ℕ) → length q ≤ n → sets (zeros n) 0 q ≡ q ++ zeros (n - length q)
laid_is n q h =
    sets-eq q (zeros n) 0 (omega (arith, zeros_length n))
    ∙ ap (λ l. q ++ l) (ap (λ k. drop k (zeros n)) (let z : 0 + length q ≡ length q = omega arith in z) ∙ zeros_drop (length q) n)

pub laid_length : (q : List ℕ) → length q ≤ room → length (laid q) ≡ room
laid_length q h = length-append q (zeros (room - length q)) ∙ (omega (arith, zeros_length (room - length q)))

-- QUEUE AFTER QUEUE
laid_append : (ps qs : List (List ℕ)) → laid_all (ps ++ qs) ≡ laid_all ps ++ laid_all qs
unfolding laid_all
laid_append [] qs = refl
laid_append (p ∷ ps) qs = ap (λ l. laid p ++ l) (laid_append ps qs) ∙ sym (append_assoc (laid p) (laid_all ps) (laid_all qs))

laid_all_length : (f : ℕ → List ℕ) (n q : ℕ) → ((j : ℕ) → length (f j) ≤ room) → length (laid_all (each f n q)) ≡ n * room
unfolding laid_all
laid_all_length f zero q h = refl
laid_all_length f (suc n) q h =
    length-append (laid (f q)) (laid_all (each f n (q + 1)))
    ∙ (omega (arith, laid_length (f q) (h q), laid_all_length f n (q + 1) h))

-- what is laid down from the end of a front on, over a longer rest
over_rest : (front rest new : List ℕ) (p : ℕ) → length front ≡ p → length new ≤ length rest
    → sets (front ++ rest) p new ≡ front ++ new ++ drop (length new) rest
over_rest front rest new p long fits =
    sets-eq new (front ++ rest) p (omega (arith, length-append front rest))
    ∙ ap₂ (λ a b. a ++ new ++ b) (take_at front rest p long)
    (ap (λ k. drop (k + length new) (front ++ rest)) (sym long) ∙ drop-append-add front rest (length new))

module _ {mem heads lengths : List ℕ} {count : ℕ} (r : Rings mem heads lengths count) where
  ring_short : (j : ℕ) → length (ring_at mem heads lengths j) ≤ room
  ring_short j = omega (arith, r.held j, waiting_length mem (j * room) (get_or heads j 0) (get_or lengths j 0))

  settled_length : (q : ℕ) → length (laid_all (rings mem heads lengths q)) ≡ q * room
  settled_length q = laid_all_length (ring_at mem heads lengths) q 0 ring_short

  -- q rings are settled, and the memory from there on is as it was
  settled_front : (q : ℕ) → memory_after (rings mem heads lengths q) mem ≡ laid_all (rings mem heads lengths q) ++ drop (q * room) mem
  settled_front q = ap (λ k. laid_all (rings mem heads lengths q) ++ drop (k * room) mem) (rings_length mem heads lengths q)

  pub settled_long : {q : ℕ} → q ≤ count → length (memory_after (rings mem heads lengths q) mem) ≡ length mem
  settled_long {q} h =
      ap length (settled_front q)
      ∙ length-append (laid_all (rings mem heads lengths q)) (drop (q * room) mem)
      ∙ (omega (arith, r.within, settled_length q, length-drop (q * room) mem))

  one_laid : (q : ℕ) → laid_all (rings mem heads lengths (q + 1)) ≡ laid_all (rings mem heads lengths q) ++ laid (ring_at mem heads lengths q)
  unfolding laid_all
  one_laid q =
      ap (λ k. laid_all (rings mem heads lengths k)) (add-one q)
      ∙ ap laid_all (each_snoc (ring_at mem heads lengths) q 0)
      ∙ laid_append (rings mem heads lengths q) (ring_at mem heads lengths (0 + q) ∷ [])
      ∙ ap (λ l. laid_all (rings mem heads lengths q) ++ l)
      (append-nil (laid (ring_at mem heads lengths (0 + q))) ∙ ap (λ k. laid (ring_at mem heads lengths k)) (let z : 0 + q ≡ q = omega arith in z))

  pub settle_begin : mem ≡ memory_after (rings mem heads lengths 0) mem
  unfolding laid_all
  settle_begin = refl

  -- one ring more
  module _ {q : ℕ} (h : q < count) {now : List ℕ} (is : now ≡ memory_after (rings mem heads lengths q) mem) where
    abbrev front : List ℕ
    front = laid_all (rings mem heads lengths q)

    abbrev rest : List ℕ
    rest = drop (q * room) mem

    split : now ≡ front ++ rest
    split = is ∙ settled_front q

    -- no ring before it has changed it
    byte_same : (k : ℕ) → get_or now (q * room + k) 0 ≡ get_or mem (q * room + k) 0
    byte_same k =
        ap₂ (λ l p. get_or l (p + k) 0) split (sym (settled_length q))
        ∙ get_or-append-add front rest k 0
        ∙ get_or-drop (q * room) mem k 0

    ring_same : ring_at now heads lengths q ≡ ring_at mem heads lengths q
    ring_same = waiting_same now mem (q * room) (get_or heads q 0) (get_or lengths q 0) (λ k _. byte_same k)

    past : drop (length (laid (ring_at mem heads lengths q))) rest ≡ drop ((q + 1) * room) mem
    past =
        ap (λ k. drop k rest) (laid_length (ring_at mem heads lengths q) (ring_short q))
        ∙ drop-drop room (q * room) mem
        ∙ ap (λ k. drop k mem) (let z : q * room + room ≡ (q + 1) * room = omega arith in z)

    pub settle_next : {next : List ℕ} → next ≡ sets now (q * room) (laid (ring_at now heads lengths q))
        → next ≡ memory_after (rings mem heads lengths (q + 1)) mem
    settle_next e =
        e
        ∙ ap₂ (λ l w. sets l (q * room) (laid w)) split ring_same
        ∙ over_rest front rest (laid (ring_at mem heads lengths q)) (q * room) (settled_length q)
        (omega (arith, laid_length (ring_at mem heads lengths q) (ring_short q), length-drop (q * room) mem, r.within))
        ∙ ap₂ (λ a b. a ++ b) (sym (one_laid q)) past
        ∙ sym (settled_front (q + 1))
