-- The rank that a word leads to: it is wrong exactly if the word is out of order.
use Rattle.std.specs.Prelude.{ℕ, ◌-◌, ◌≤◌, ◌<◌, ◌≡◌, refl, ◌⊎◌, ◌↔◌, cond, List, [], ◌∷◌, ◌++◌, length, ltb}
use Rattle.std.proofs.Common.{sym, ap, subst, ◌∙◌, inl, inr, ⊎_elim, lt-ltb, le-ltb, ltb-true, ltb-false, arith}
use Rattle.tables.specs.Limits.{most_queues}
use Rattle.theory_model.specs.Model.{total, queue_of, Between, message}
use Rattle.theory_model.specs.Diagram.{OutOfOrder}
use Rattle.theory_model.specs.Laws.Basics.{by_test}
use Rattle.theory_model.specs.Laws.Queues.{between_front, between_back}
use Rattle.theory_model.specs.Laws.Ordered.{out_longer}
use Rattle.reading_order.specs.Nodes.{wrong, ranks, rank_after}

-- the rank that a word leads to
abbrev pub rank_along : List ℕ → ℕ → List ℕ → ℕ
rank_along ns r [] = r
rank_along ns r (m ∷ u) = rank_along ns (rank_after r (queue_of ns m)) u

along_append : (ns : List ℕ) (r : ℕ) (u v : List ℕ) → rank_along ns r (u ++ v) ≡ rank_along ns (rank_along ns r u) v
along_append ns r [] v = refl
along_append ns r (m ∷ u) v = along_append ns (rank_after r (queue_of ns m)) u v

-- a message is of one of the queues
queue_below : (ns : List ℕ) (m : ℕ) → m < total ns → queue_of ns m < length ns
queue_below [] m h = absurd (omega arith)
queue_below (n ∷ ns) m h =
    by_test (ltb m n)
    (λ t. rw (t, queue_of) (omega arith))
    (λ f. let l = ltb-false m n f in rw (f, queue_of) (omega (arith, queue_below ns (m - n) (omega arith))))

-- ONE MESSAGE ON: after one of an earlier queue the rank is wrong, else it is the message's queue
after_earlier : (r q : ℕ) → q < r → rank_after r q ≡ wrong
after_earlier r q h = ap (λ b. cond b wrong q) (lt-ltb q r h)

after_later : (r q : ℕ) → r ≤ q → rank_after r q ≡ q
after_later r q h = ap (λ b. cond b wrong q) (le-ltb q r h)

-- it falls below neither the rank before nor the message's queue
record Rises (r q next : ℕ) : Type 0 where
  from : r ≤ next
  queue : q ≤ next
  most : next ≤ wrong

after_rises : (r q : ℕ) → r ≤ wrong → q < wrong → Rises r q (rank_after r q)
after_rises r q h l =
    by_test (ltb q r)
    (λ t. let e = after_earlier r q (ltb-true q r t) in record { from = omega arith; queue = omega arith; most = omega arith })
    (λ f.
    let g = ltb-false q r f in
    let e = after_later r q g in
    record { from = omega arith; queue = omega arith; most = omega arith })

-- what is left of OutOfOrder where the later message is already read: the word has a message of a queue before r
record Below (ns : List ℕ) (r : ℕ) (u : List ℕ) : Type 0 where
  before : List ℕ
  earlier : ℕ
  after : List ℕ
  is : u ≡ before ++ (earlier ∷ after)
  back : queue_of ns earlier < r

out_here : (ns : List ℕ) (m : ℕ) (u : List ℕ) → Below ns (queue_of ns m) u → OutOfOrder ns (m ∷ u)
out_here ns m u b =
    record {
      before = [];
      later = m;
      between = b.before;
      earlier = b.earlier;
      after = b.after;
      is = ap {B = List ℕ} (λ y. m ∷ y) b.is;
      back = b.back;
    }

module _ (ns : List ℕ) (few : length ns ≤ most_queues) where
  queue_right : (m : ℕ) → m < total ns → queue_of ns m < wrong
  queue_right m h = omega (arith, queue_below ns m h)

  -- ALONG A WORD the rank does not fall, and none is above wrong
  along_rises : (u : List ℕ) (r : ℕ) → Between 0 (total ns) u → r ≤ wrong → (r ≤ rank_along ns r u) × (rank_along ns r u ≤ wrong)
  along_rises [] r b h = (omega arith, h)
  along_rises (m ∷ u) r (message l k b) h =
      let s = after_rises r (queue_of ns m) h (queue_right m k) in
      let (low, high) = along_rises u (rank_after r (queue_of ns m)) b s.most in
      (omega (arith, s.from), high)

  -- a word that leads to wrong is out of order, or has a message of a queue before the rank that it began with
  wrong_means : (u : List ℕ) (r : ℕ) → Between 0 (total ns) u → r < wrong → rank_along ns r u ≡ wrong → OutOfOrder ns u ⊎ Below ns r u
  wrong_means [] r b h e = absurd (omega arith)
  wrong_means (m ∷ u) r (message l k b) h e =
      by_test (ltb (queue_of ns m) r)
      (λ t. inr (record { before = []; earlier = m; after = u; is = refl; back = ltb-true (queue_of ns m) r t }))
      (λ f.
      let on = after_later r (queue_of ns m) (ltb-false (queue_of ns m) r f) in
      inl
      (⊎_elim (out_longer ns m u) (out_here ns m u)
      (wrong_means u (queue_of ns m) b (queue_right m k) (ap (λ x. rank_along ns x u) (sym on) ∙ e))))

  -- a message of a queue before the rank that the word began with leads to wrong, as the rank does not fall; and it stays wrong
  below_wrong : (u : List ℕ) (r : ℕ) → Between 0 (total ns) u → r ≤ wrong → Below ns r u → rank_along ns r u ≡ wrong
  below_wrong u r b h o =
      let parts : Between 0 (total ns) (o.before ++ (o.earlier ∷ o.after)) = subst (Between 0 (total ns)) o.is b in
      let r' = rank_along ns r o.before in
      let up = along_rises o.before r (between_front o.before (o.earlier ∷ o.after) parts) h in
      ap (rank_along ns r) o.is
      ∙ along_append ns r o.before (o.earlier ∷ o.after)
      ∙ ap (λ x. rank_along ns x o.after) (after_earlier r' (queue_of ns o.earlier) (omega (arith, up.0, o.back)))
      ∙ stays o.after (between_back (o.earlier ∷ []) o.after (between_back o.before (o.earlier ∷ o.after) parts))
    where
      stays : (v : List ℕ) → Between 0 (total ns) v → rank_along ns wrong v ≡ wrong
      stays v c = let (low, high) = along_rises v wrong c (omega arith) in omega arith

  -- after the later message the rank is not below its queue, so the earlier one leads to wrong
  out_wrong : (u : List ℕ) → Between 0 (total ns) u → OutOfOrder ns u → rank_along ns 0 u ≡ wrong
  out_wrong u b o = ap (rank_along ns 0) o.is ∙ along_append ns 0 o.before (o.later ∷ rest) ∙ from parts'
    where
      rest : List ℕ
      rest = o.between ++ (o.earlier ∷ o.after)

      parts : Between 0 (total ns) (o.before ++ (o.later ∷ rest))
      parts = subst (Between 0 (total ns)) o.is b

      parts' : Between 0 (total ns) (o.later ∷ rest)
      parts' = between_back o.before (o.later ∷ rest) parts

      from : Between 0 (total ns) (o.later ∷ rest) → rank_along ns (rank_along ns 0 o.before) (o.later ∷ rest) ≡ wrong
      from (message l k c) =
          let r = rank_along ns 0 o.before in
          let up = along_rises o.before 0 (between_front o.before (o.later ∷ rest) parts) (omega arith) in
          let s = after_rises r (queue_of ns o.later) up.1 (queue_right o.later k) in
          below_wrong rest (rank_after r (queue_of ns o.later)) c s.most
          (record { before = o.between; earlier = o.earlier; after = o.after; is = refl; back = omega (arith, o.back, s.queue) })

-- THE RANK IS WRONG exactly after a word that is out of order
pub rank_wrong : (ns u : List ℕ) → length ns ≤ most_queues → Between 0 (total ns) u → (rank_along ns 0 u ≡ wrong) ↔ OutOfOrder ns u
rank_wrong ns u few b = (
  λ e. ⊎_elim (λ (o : OutOfOrder ns u). o) (λ (l : Below ns 0 u). absurd (omega (arith, l.back))) (wrong_means ns few u 0 b (omega arith) e),
  out_wrong ns few u b,
)

-- and it is always a rank
pub rank_below : (ns u : List ℕ) (r : ℕ) → length ns ≤ most_queues → Between 0 (total ns) u → r < ranks → rank_along ns r u < ranks
rank_below ns u r few b h = omega (arith, (along_rises ns few u r b (omega arith)).1)
