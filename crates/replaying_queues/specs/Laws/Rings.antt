-- The queues in rings: what a word that is put, or taken, makes of them.
use Rattle.std.specs.Prelude.{ℕ, zero, suc, ◌+◌, ◌-◌, ◌*◌, ◌%◌, ◌≤◌, ◌<◌, ◌≡◌, refl, Bool, true, false, ◌&&◌, List, [], ◌∷◌, ◌++◌, leb, length, get_or, set}
use Rattle.std.proofs.Common.{sym, ap, ap₂, ◌∙◌, arith, sub-eq-zero_of_le, get_or-set_same, get_or-set_other, le-leb}
use Rattle.std.proofs.Math.Option.{some}
use Rattle.std.proofs.Math.Nat.{sub-zero}
use Rattle.std.proofs.lemmas.Bool.{lt-leb}
use Rattle.numbers.specs.Laws.Parts.{one_more_lem}
use Rattle.theory_replay.specs.Rules.{room, fits}
use Rattle.theory_model.specs.Model.{strip}
use Rattle.theory_model.specs.Diagram.{word}
use Rattle.tables.specs.Starting.{each}
use Rattle.replaying_queues.specs.Ring.{waiting, ring_at, rings, put_round}
use Rattle.replaying_queues.specs.Lent.{Ring, Rings}
use Rattle.replaying_queues.specs.Laws.Waiting.{waiting_length, waiting_round, push_word, put_other, put_length, strip_waiting}
use Rattle.tables.specs.Laws.Each.{each_length, each_at, each_set}

module _ (mem heads lengths : List ℕ) (count : ℕ) where
  pub rings_length : length (rings mem heads lengths count) ≡ count
  rings_length = each_length (ring_at mem heads lengths) count 0

  pub rings_at : (q : ℕ) → q < count → get_or (rings mem heads lengths count) q [] ≡ ring_at mem heads lengths q
  rings_at q h = each_at (ring_at mem heads lengths) count 0 q h ∙ ap (ring_at mem heads lengths) (let z : 0 + q ≡ q = omega arith in z)

  -- the messages of the queues from q on
  abbrev pub messages_from : ℕ → List ℕ
  messages_from q = word (each (ring_at mem heads lengths) (count - q) q)

  pub messages_begin : word (rings mem heads lengths count) ≡ messages_from 0
  messages_begin = rw sub-zero

  pub messages_next : {q : ℕ} → q < count → messages_from q ≡ ring_at mem heads lengths q ++ messages_from (q + 1)
  messages_next {q} h = ap (λ k. word (each (ring_at mem heads lengths) k q)) (one_more_lem h)

  pub messages_end : {q : ℕ} → count ≤ q → messages_from q ≡ []
  messages_end h = rw (sub-eq-zero_of_le h)

  -- A WORD PUT after the messages of queue q
  pub rings_put : (q : ℕ) (w : List ℕ) → q < count → q < length lengths → get_or lengths q 0 + length w ≤ room → count * room ≤ length mem
      → rings (put_round mem (q * room) (get_or heads q 0 + get_or lengths q 0) w) heads (set lengths q (get_or lengths q 0 + length w)) count
      ≡ set (rings mem heads lengths count) q (get_or (rings mem heads lengths count) q [] ++ w)
  rings_put q w h l fits within =
      let after : List ℕ = put_round mem (q * room) (get_or heads q 0 + get_or lengths q 0) w in
      let longer : List ℕ = set lengths q (get_or lengths q 0 + length w) in
      each_set (ring_at mem heads lengths) (ring_at after heads longer) count 0 q
      (ap (ring_at after heads longer) (let z : 0 + q ≡ q = omega arith in z)
      ∙ ap (waiting after (q * room) (get_or heads q 0)) (get_or-set_same lengths q (get_or lengths q 0 + length w) 0 l)
      ∙ push_word mem (q * room) (get_or heads q 0) (get_or lengths q 0) w fits (omega arith)
      ∙ ap (λ x. x ++ w) (sym (rings_at q h)))
      (λ j n.
      let other : j ≡ q → ⊥ = λ e. n (omega arith) in
      ap (waiting after (j * room) (get_or heads j 0)) (get_or-set_other lengths q j (get_or lengths q 0 + length w) 0 other)
      ∙ put_other mem (q * room) (get_or heads q 0 + get_or lengths q 0) w q j (get_or heads j 0) (get_or lengths j 0) refl other)

  -- A WORD TAKEN from the front of queue q
  module _ (q : ℕ) (w : List ℕ) {r : List ℕ} (e : strip w (ring_at mem heads lengths q) ≡ some r) where
    pub taken_length : length w ≤ get_or lengths q 0
    taken_length = (strip_waiting mem (q * room) (get_or heads q 0) (get_or lengths q 0) w r e).0

    pub rings_taken : q < count → q < length heads → q < length lengths
        → rings mem (set heads q ((get_or heads q 0 + length w) % room)) (set lengths q (get_or lengths q 0 - length w)) count
        ≡ set (rings mem heads lengths count) q r
    rings_taken h l l' =
        let further : ℕ = (get_or heads q 0 + length w) % room in
        let fewer : ℕ = get_or lengths q 0 - length w in
        each_set (ring_at mem heads lengths) (ring_at mem (set heads q further) (set lengths q fewer)) count 0 q
        (ap (ring_at mem (set heads q further) (set lengths q fewer)) (let z : 0 + q ≡ q = omega arith in z)
        ∙ ap₂ (waiting mem (q * room)) (get_or-set_same heads q further 0 l) (get_or-set_same lengths q fewer 0 l')
        ∙ waiting_round mem (q * room) further (get_or heads q 0 + length w) fewer (omega arith)
        ∙ sym (strip_waiting mem (q * room) (get_or heads q 0) (get_or lengths q 0) w r e).1)
        (λ j n.
        let other : j ≡ q → ⊥ = λ s. n (omega arith) in
        ap₂ (waiting mem (j * room)) (get_or-set_other heads q j further 0 other) (get_or-set_other lengths q j fewer 0 other))

-- A ring among rings
pub one_ring : {mem heads lengths : List ℕ} {count q : ℕ} → Rings mem heads lengths count → q < count
    → Ring mem (q * room) (get_or heads q 0) (get_or lengths q 0)
one_ring {q = q} r h = record { within = omega (arith, r.within); placed = r.placed q; held = r.held q }

-- the same ring in another memory of the same length
pub ring_as : {mem mem' : List ℕ} {base head count : ℕ} → Ring mem base head count → length mem' ≡ length mem → Ring mem' base head count
ring_as r e = record { within = omega (arith, r.within); placed = r.placed; held = r.held }

-- WHAT IS KEPT by a word put, and by messages taken
set_keeps : (P : ℕ → Type 0) (l : List ℕ) (q v : ℕ) → ((j : ℕ) → P (get_or l j 0)) → P v → (j : ℕ) → P (get_or (set l q v) j 0)
set_keeps P [] q v h p j = h j
set_keeps P (x ∷ l) zero v h p zero = p
set_keeps P (x ∷ l) zero v h p (suc j) = h (suc j)
set_keeps P (x ∷ l) (suc q) v h p zero = h 0
set_keeps P (x ∷ l) (suc q) v h p (suc j) = set_keeps P l q v (λ k. h (suc k)) p j

module _ {mem heads lengths : List ℕ} {count : ℕ} (r : Rings mem heads lengths count) where
  pub put_keeps : (base i q : ℕ) (w : List ℕ) → get_or lengths q 0 + length w ≤ room
      → Rings (put_round mem base i w) heads (set lengths q (get_or lengths q 0 + length w)) count
  put_keeps base i q w fits =
      record {
        most = r.most;
        within = omega (arith, r.within, put_length mem base i w);
        placed = r.placed;
        held = set_keeps (λ n. n ≤ room) lengths q (get_or lengths q 0 + length w) r.held fits;
      }

  pub taken_keeps : (q n : ℕ) → Rings mem (set heads q ((get_or heads q 0 + n) % room)) (set lengths q (get_or lengths q 0 - n)) count
  taken_keeps q n =
      record {
        most = r.most;
        within = r.within;
        placed = set_keeps (λ k. k < room) heads q ((get_or heads q 0 + n) % room) r.placed (omega arith);
        held = set_keeps (λ k. k ≤ room) lengths q (get_or lengths q 0 - n) r.held (omega (arith, r.held q));
      }

-- THE QUEUE_ROOM: rings keep within it, and a queue that would pass it does not fit
pub each_fits : (f : ℕ → List ℕ) (n q : ℕ) → ((j : ℕ) → length (f j) ≤ room) → fits (each f n q) ≡ true
each_fits f zero q h = refl
each_fits f (suc n) q h = rw (le-leb (length (f q)) room (h q)) (each_fits f n (q + 1) h)

pub rings_fit : {mem heads lengths : List ℕ} {count : ℕ} → Rings mem heads lengths count → fits (rings mem heads lengths count) ≡ true
rings_fit {mem} {heads} {lengths} {count} r =
    each_fits (ring_at mem heads lengths) count 0
    (λ q. omega (arith, r.held q, waiting_length mem (q * room) (get_or heads q 0) (get_or lengths q 0)))

pub fits_full : (qs : List (List ℕ)) (q : ℕ) (x : List ℕ) → q < length qs → room < length x → fits (set qs q x) ≡ false
fits_full [] q x h g = absurd (omega arith)
fits_full (p ∷ qs) zero x h g = rw (lt-leb (length x) room g)
fits_full (p ∷ qs) (suc q) x h g = ap (λ b. leb (length p) room && b) (fits_full qs q x (omega arith) g) ∙ nor (leb (length p) room)
  where
    nor : (b : Bool) → b && false ≡ false
    nor true = refl
    nor false = refl
