-- Contents whose messages are of no earlier queue than the one before are the word of some queues, and the other way round.
use Rattle.std.specs.Prelude.{ℕ, zero, suc, ◌+◌, ◌-◌, ◌≤◌, ◌<◌, ◌≡◌, true, false, List, [], ◌∷◌, ◌++◌, map, length, get_or, set, ltb}
use Rattle.std.proofs.Common.{zero-le, sym, ap, subst, ◌∙◌, ltb-true, ltb-false, lt-ltb, le-ltb, arith, zero-add}
use Rattle.std.proofs.Math.Nat.{sub-zero}
use Rattle.theory_model.specs.Model.{first_of, total, queue_of, Between, nothing, message, Own, none_left, queue}
use Rattle.theory_model.specs.Diagram.{word}
use Rattle.theory_model.specs.Laws.Basics.{by_test}
use Rattle.theory_model.specs.Laws.Queues.{between_wide, between_front, between_none, word_between, first_zero, all_empty, word_empty, around}

-- messages below top, each of no earlier queue than the one before, from queue p on
pub data Rises (queue : ℕ → ℕ) (top : ℕ) : ℕ → List ℕ → Type 0 where
  at_last : {p : ℕ} → Rises queue top p []
  further : {p m : ℕ} {u : List ℕ} → m < top → p ≤ queue m → Rises queue top (queue m) u → Rises queue top p (m ∷ u)

-- FROM QUEUES TO ORDER
module _ {f : ℕ → ℕ} {top : ℕ} where
  rises_from : {p r : ℕ} {u : List ℕ} → p ≤ r → Rises f top r u → Rises f top p u
  rises_from h at_last = at_last
  rises_from {p} h (further {m = m} l g r) = further {p = p} {m = m} l (omega arith) r

  rises_same : {g : ℕ → ℕ} {p : ℕ} {u : List ℕ} → ((m : ℕ) → f m ≡ g m) → Rises f top p u → Rises g top p u
  rises_same e at_last = at_last
  rises_same {g} {p} e (further {m = m} {u = u} l h r) =
      further {p = p} {m = m} l (omega (arith, e m)) (subst (λ x. Rises g top x u) (e m) (rises_same e r))

  -- the messages from cut on, in queues that stand after one queue more
  rises_later : {g : ℕ → ℕ} {cut hi p : ℕ} {u : List ℕ} → ((m : ℕ) → cut ≤ m → g m ≡ suc (f m)) → Between cut hi u → Rises f top p u
      → Rises g top (suc p) u
  rises_later e b at_last = at_last
  rises_later {g} {p = p} e (message a a' b) (further {m = m} {u = u} l h r) =
      further {p = suc p} {m = m} l (omega (arith, e m a)) (subst (λ x. Rises g top x u) (sym (e m a)) (rises_later e b r))

  -- the messages of the first queue
  rises_first : {lo hi : ℕ} {u v : List ℕ} → ((m : ℕ) → lo ≤ m → m < hi → f m ≡ 0) → hi ≤ top → Between lo hi u → Rises f top 0 v
      → Rises f top 0 (u ++ v)
  rises_first e h nothing r = r
  rises_first {v = v} e h (message {m = m} {u = u} a b later) r =
      further {m = m} (omega arith) zero-le (subst (λ x. Rises f top x (u ++ v)) (sym (e m a b)) (rises_first e h later r))

queues_rise : {k : ℕ} {ns : List ℕ} {qs : List (List ℕ)} → Own k ns qs → Rises (λ m. queue_of ns (m - k)) (k + total ns) 0 (word qs)
queues_rise none_left = at_last
queues_rise (queue {k = k} {n = n} {ns = ns} {q = q} {qs = qs} own later) =
    rises_first (λ m l h. rw (lt-ltb (m - k) n (omega arith), queue_of)) (omega arith) own
    (rises_from zero-le
    (rises_later next (word_between later) (subst (λ t. Rises (λ m. queue_of ns (m - (k + n))) t 0 (word qs)) (omega arith) (queues_rise later))))
  where
    next : (m : ℕ) → k + n ≤ m → queue_of (n ∷ ns) (m - k) ≡ suc (queue_of ns (m - (k + n)))
    next m l =
        let e : m - k - n ≡ m - (k + n) = omega arith in
        rw (le-ltb (m - k) n (omega arith), queue_of) (ap (λ x. suc (queue_of ns x)) e)

pub contents_rise : {ns : List ℕ} {qs : List (List ℕ)} → Own 0 ns qs → Rises (queue_of ns) (total ns) 0 (word qs)
contents_rise {ns} {qs} own =
    rises_same (λ m. ap (queue_of ns) (sub-zero m))
    (subst (λ t. Rises (λ m. queue_of ns (m - 0)) t 0 (word qs)) (zero-add (total ns)) (queues_rise own))

-- FROM ORDER TO QUEUES
first_ascends : (ns : List ℕ) (p r : ℕ) → p ≤ r → first_of ns p ≤ first_of ns r
first_ascends [] p r h = omega arith
first_ascends (n ∷ ns) zero r h = zero-le
first_ascends (n ∷ ns) (suc p) zero h = absurd (omega arith)
first_ascends (n ∷ ns) (suc p) (suc r) h = omega (arith, first_ascends ns p r (omega arith))

-- message m is of queue p
record InQueue (ns : List ℕ) (m p : ℕ) : Type 0 where
  is_queue : p < length ns
  from : first_of ns p ≤ m
  below : m < first_of ns (suc p)

in_first : (n : ℕ) (ns : List ℕ) (m : ℕ) → ltb m n ≡ true → InQueue (n ∷ ns) m (queue_of (n ∷ ns) m)
in_first n ns m t =
    let e : queue_of (n ∷ ns) m ≡ 0 = rw (t, queue_of) in
    subst (InQueue (n ∷ ns) m) (sym e)
    (record { is_queue = omega arith; from = zero-le; below = omega (arith, ltb-true m n t, first_zero ns) })

in_later : (n : ℕ) (ns : List ℕ) (m : ℕ) → ltb m n ≡ false → InQueue ns (m - n) (queue_of ns (m - n)) → InQueue (n ∷ ns) m (queue_of (n ∷ ns) m)
in_later n ns m f I =
    let l = ltb-false m n f in
    let e : queue_of (n ∷ ns) m ≡ suc (queue_of ns (m - n)) = rw (f, queue_of) in
    subst (InQueue (n ∷ ns) m) (sym e)
    (record { is_queue = omega (arith, I.is_queue); from = omega (arith, I.from); below = omega (arith, I.below) })

in_queue : (ns : List ℕ) (m : ℕ) → m < total ns → InQueue ns m (queue_of ns m)
in_queue [] m h = absurd (omega arith)
in_queue (n ∷ ns) m h =
    by_test (ltb m n) (in_first n ns m)
    (λ f. let l = ltb-false m n f in in_later n ns m f (in_queue ns (m - n) (omega arith)))

-- the queues of contents in order: each message goes to the front of its queue, and the queues before that are empty
pub record Split (ns : List ℕ) (p : ℕ) (u : List ℕ) : Type 0 where
  pub queues : List (List ℕ)
  pub own : Own 0 ns queues
  pub words : word queues ≡ u
  pub late : Between (first_of ns p) (total ns) u

split_more : {ns : List ℕ} {p m : ℕ} {u : List ℕ} → m < total ns → p ≤ queue_of ns m → Split ns (queue_of ns m) u → Split ns p (m ∷ u)
split_more {ns} {p} {m} {u} h l S =
    let r = queue_of ns m in
    let I = in_queue ns m h in
    let A = around r I.is_queue S.own in
    let front = A.front in
    let rest = get_or S.queues r [] ++ A.rest in
    let whole : u ≡ front ++ rest = sym S.words ∙ A.whole in
    let low : Between 0 (first_of ns r) front = between_wide (omega arith) (omega arith) A.low in
    let gone : front ≡ [] = between_none front low (between_front front rest (subst (Between (first_of ns r) (total ns)) whole S.late)) in
    let place : Between (0 + first_of ns r) (0 + first_of ns (suc r)) (m ∷ get_or S.queues r []) =
    message {m = m} (omega (arith, I.from)) (omega (arith, I.below)) A.own
    in
    record {
      queues = set S.queues r (m ∷ get_or S.queues r []);
      own = A.owns (m ∷ get_or S.queues r []) place;
      words =
          A.changed (m ∷ get_or S.queues r [])
          ∙ ap (λ x. x ++ (m ∷ rest)) gone
          ∙ ap (λ x. m ∷ (x ++ rest)) (sym gone)
          ∙ ap (λ x. m ∷ x) (sym whole);
      late =
          message {m = m} (omega (arith, first_ascends ns p r l, I.from)) h
          (between_wide (first_ascends ns p r l) (omega arith) S.late);
    }

pub split : {ns : List ℕ} {p : ℕ} {u : List ℕ} → Rises (queue_of ns) (total ns) p u → Split ns p u
split {ns} at_last = record { queues = map (λ n. []) ns; own = all_empty ns; words = word_empty ns; late = nothing }
split (further h l r) = split_more h l (split r)
