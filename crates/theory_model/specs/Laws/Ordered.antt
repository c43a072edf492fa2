-- A word that is not out of order is the word of some queues, which the word determines.
use Rattle.std.specs.Prelude.{◌≡◌, refl, true, List, [], ◌∷◌, ◌++◌, ◌↔◌, ℕ, zero, suc, ◌+◌, ◌-◌, ◌≤◌, ◌<◌, ltb, leb}
use Rattle.std.proofs.Common.{sym, ap, ap₂, subst, subst₂, ◌∙◌, zero-le, arith, zero-add, add-zero, le_refl, ltb-true, ltb-false, lt-ltb, le-ltb, leb-true, leb-false}
use Rattle.std.proofs.Math.Option.{Option, none, some}
use mathlib.Core.List.Memᴰ
use Rattle.theory_exploration.specs.Mem.{Mem, here, there}
use Rattle.theory_model.specs.Model.{first_of, total, queue_of, Between, nothing, message, Own, none_left, queue}
use Rattle.theory_model.specs.Diagram.{Pool, follow, is_final, accepts, word, front_of, rest_of, queues_from, OutOfOrder}
use Rattle.theory_model.specs.Laws.Queues.{between_none, between_wide, word_between, first_zero}
use Rattle.theory_model.specs.Laws.Basics.{by_test, none_not_some, false_not_true}
use Rattle.theory_model.specs.Laws.Walks.{follow_none, follow_front}

-- BACK FROM THE WORD
pub front_is : {k hi top : ℕ} (q u : List ℕ) → Between k hi q → Between hi top u → front_of hi (q ++ u) ≡ q
front_is [] [] a b = refl
front_is {hi = hi} [] (m ∷ u) a (message l h b) = rw (le-ltb m hi l, front_of)
front_is {hi = hi} (m ∷ q) u (message l h a) b = rw (lt-ltb m hi h, front_of) (ap {B = List ℕ} (λ x. m ∷ x) (front_is q u a b))

pub rest_is : {k hi top : ℕ} (q u : List ℕ) → Between k hi q → Between hi top u → rest_of hi (q ++ u) ≡ u
rest_is [] [] a b = refl
rest_is {hi = hi} [] (m ∷ u) a (message l h b) = rw (le-ltb m hi l, rest_of)
rest_is {hi = hi} (m ∷ q) u (message l h a) b = rw (lt-ltb m hi h, rest_of) (rest_is q u a b)

pub queues_word : {k : ℕ} {ns : List ℕ} {qs : List (List ℕ)} → Own k ns qs → queues_from k ns (word qs) ≡ qs
queues_word none_left = refl
queues_word (queue {k = k} {n = n} {ns = ns} {q = q} {qs = qs} own later) =
    ap₂ {C = List (List ℕ)} (λ x y. x ∷ queues_from (k + n) ns y) (front_is q (word qs) own (word_between later)) (rest_is q (word qs) own (word_between later))
    ∙ ap {B = List (List ℕ)} (λ y. q ∷ y) (queues_word later)

-- THE QUEUE OF A MESSAGE
queue_first : (ns : List ℕ) (q m : ℕ) → q ≤ queue_of ns m → first_of ns q ≤ m
queue_first [] q m h = zero-le
queue_first (n ∷ ns) zero m h = zero-le
queue_first (n ∷ ns) (suc q) m h =
    by_test (ltb m n)
    (λ t. absurd (let k : suc q ≤ 0 = rw (t, queue_of) at h in omega arith))
    (λ f. let l = ltb-false m n f in let k : suc q ≤ suc (queue_of ns (m - n)) = rw (f, queue_of) at h in omega (arith, queue_first ns q (m - n) (omega arith)))

first_queue : (ns : List ℕ) (q m : ℕ) → m < total ns → first_of ns q ≤ m → q ≤ queue_of ns m
first_queue [] q m h l = absurd (omega arith)
first_queue (n ∷ ns) zero m h l = zero-le
first_queue (n ∷ ns) (suc q) m h l = rw (le-ltb m n (omega arith), queue_of) (omega (arith, first_queue ns q (m - n) (omega arith) (omega arith)))

-- A WORD THAT IS NOT OUT OF ORDER
-- no message below the cut stands after one from it on
abbrev Follows : ℕ → List ℕ → Type 0
Follows cut [] = Unit {0}
Follows cut (m ∷ u) = (cut ≤ m → (n : ℕ) → Mem n u → cut ≤ n) × Follows cut u

follows_right : (cut : ℕ) (x y : List ℕ) → Follows cut (x ++ y) → Follows cut y
follows_right cut [] y f = f
follows_right cut (m ∷ x) y f = follows_right cut x y f.1

stays_high : {lo top : ℕ} (cut : ℕ) (u : List ℕ) → ((n : ℕ) → Mem n u → cut ≤ n) → Between lo top u → Between cut top u
stays_high cut [] f b = nothing
stays_high cut (m ∷ u) f (message l h b) = message (f m (here refl)) h (stays_high cut u (λ n k. f n (there k)) b)

parts_at : {lo top : ℕ} (cut : ℕ) (u : List ℕ) → Follows cut u → Between lo top u → (x y : List ℕ) × (u ≡ x ++ y) × Between lo cut x × Between cut top y
parts_at cut [] f b = ([], [], refl, nothing, nothing)
parts_at cut (m ∷ u) f (message l h b) =
    let (low, high, p, c, d) = parts_at cut u f.1 b in
    by_test (ltb m cut)
    (λ t. (m ∷ low, high, ap {B = List ℕ} (λ y. m ∷ y) p, message l (ltb-true m cut t) c, d))
    (λ t. let e = ltb-false m cut t in ([], m ∷ u, refl, nothing, message e h (stays_high cut u (f.0 e) b)))

in_queues : (ns : List ℕ) (k : ℕ) (u : List ℕ) → ((q : ℕ) → Follows (k + first_of ns q) u) → Between k (k + total ns) u
    → (qs : List (List ℕ)) × Own k ns qs × (word qs ≡ u)
in_queues [] k u f b = ([], none_left, sym (between_none {lo = 0} u (between_wide (omega arith) (omega arith) b) b))
in_queues (n ∷ ns) k u f b =
    let z = first_zero ns in
    let first : Follows (k + n) u = subst (λ c. Follows c u) (omega arith) (f 1) in
    let (x, y, p, c, d) = parts_at (k + n) u first b in
    let later : (q : ℕ) → Follows (k + n + first_of ns q) y =
    λ q. follows_right (k + n + first_of ns q) x y (subst₂ Follows (omega arith) p (f (suc q))) in
    let (qs, own, w) = in_queues ns (k + n) y later (subst (λ top. Between (k + n) top y) (omega arith) d) in
    (x ∷ qs, queue c own, ap (λ l. x ++ l) w ∙ sym p)

mem_parts : (n : ℕ) (u : List ℕ) → Mem n u → (a b : List ℕ) × (u ≡ a ++ (n ∷ b))
mem_parts n [] x' = elim x' [ ]
mem_parts n (m ∷ u) (here e) = ([], u, ap {B = List ℕ} (λ k. k ∷ u) (sym e))
mem_parts n (m ∷ u) (there k) = let (a, b, e) = mem_parts n u k in (m ∷ a, b, ap {B = List ℕ} (λ y. m ∷ y) e)

pub out_longer : (ns : List ℕ) (m : ℕ) (u : List ℕ) → OutOfOrder ns u → OutOfOrder ns (m ∷ u)
out_longer ns m u o =
    record {
      before = m ∷ o.before;
      later = o.later;
      between = o.between;
      earlier = o.earlier;
      after = o.after;
      is = ap {B = List ℕ} (λ y. m ∷ y) o.is;
      back = o.back;
    }

follows : (ns : List ℕ) (q : ℕ) (u : List ℕ) → Between 0 (total ns) u → (OutOfOrder ns u → ⊥) → Follows (first_of ns q) u
follows ns q [] b order = tt
follows ns q (m ∷ u) (message l h b) order = (high, follows ns q u b (λ o. order (out_longer ns m u o)))
  where
    high : first_of ns q ≤ m → (n : ℕ) → Mem n u → first_of ns q ≤ n
    high f n k =
        by_test (leb q (queue_of ns n))
        (λ t. queue_first ns q n (leb-true q (queue_of ns n) t))
        (λ t.
        let (a, c, e) = mem_parts n u k in
        absurd
        (order
        (record {
          before = [];
          later = m;
          between = a;
          earlier = n;
          after = c;
          is = ap {B = List ℕ} (λ y. m ∷ y) e;
          back = omega (arith, leb-false q (queue_of ns n) t, first_queue ns q m h f);
        })))

-- the queues that a word is of which is not out of order
pub in_order : (ns u : List ℕ) → Between 0 (total ns) u → (OutOfOrder ns u → ⊥) → (qs : List (List ℕ)) × Own 0 ns qs × (word qs ≡ u)
in_order ns u b order =
    in_queues ns 0 u (λ q. subst (λ c. Follows c u) (sym (zero-add (first_of ns q))) (follows ns q u b order))
    (subst (λ top. Between 0 top u) (sym (zero-add (total ns))) b)

-- AND BACK: the word of some queues is not out of order
between_each : {lo hi : ℕ} (u : List ℕ) → Between lo hi u → (n : ℕ) → Mem n u → (lo ≤ n) × (n < hi)
between_each {lo = lo} {hi = hi} [] _ n x3 = elim x3 [ ]
between_each (m ∷ u) (message l h b) n (here e) = (omega arith, omega arith)
between_each (m ∷ u) (message l h b) n (there k) = between_each u b n k

high_follows : {top : ℕ} (cut : ℕ) (u : List ℕ) → Between cut top u → Follows cut u
high_follows cut [] b = tt
high_follows cut (m ∷ u) (message l h b) = (λ _ n k. (between_each u b n k).0, high_follows cut u b)

low_follows : {lo hi : ℕ} (cut : ℕ) (x y : List ℕ) → Between lo hi x → hi ≤ cut → Follows cut y → Follows cut (x ++ y)
low_follows cut [] y b h f = f
low_follows cut (m ∷ x) y (message l u b) h f = (λ e n k. absurd (omega arith), low_follows cut x y b h f)

own_follows : {k : ℕ} {ns : List ℕ} {qs : List (List ℕ)} (p : ℕ) → Own k ns qs → Follows (k + first_of ns p) (word qs)
own_follows p none_left = tt
own_follows zero (queue {k = k} {q = q} {qs = qs} own later) =
    subst (λ c. Follows c (q ++ word qs)) (sym (add-zero k)) (high_follows k (q ++ word qs) (word_between (queue own later)))
own_follows (suc p) (queue {k = k} {n = n} {ns = ns} {q = q} {qs = qs} own later) =
    low_follows (k + (n + first_of ns p)) q (word qs) own (omega arith)
    (subst (λ c. Follows c (word qs)) (omega arith) (own_follows p later))

-- A WORD of declared messages is the word of some queues exactly if it is not out of order
pub in_order_is : (ns u : List ℕ) → Between 0 (total ns) u → (OutOfOrder ns u → ⊥) ↔ ((qs : List (List ℕ)) × Own 0 ns qs × (word qs ≡ u))
in_order_is ns u b = (in_order ns u b, back)
  where
    back : (qs : List (List ℕ)) × Own 0 ns qs × (word qs ≡ u) → OutOfOrder ns u → ⊥
    back w o =
        let q = queue_of ns o.later in
        let all : Follows (0 + first_of ns q) (o.before ++ (o.later ∷ (o.between ++ (o.earlier ∷ o.after)))) =
        subst (Follows (0 + first_of ns q)) (w.2 ∙ o.is) (own_follows q w.1) in
        let here_on = follows_right (0 + first_of ns q) o.before (o.later ∷ (o.between ++ (o.earlier ∷ o.after))) all in
        let high = here_on.0 (omega (arith, queue_first ns q o.later (le_refl q))) o.earlier (Memᴰ.append_right o.between (here refl)) in
        let whole = subst (Between 0 (total ns)) o.is b in
        let low = (between_each (o.before ++ (o.later ∷ (o.between ++ (o.earlier ∷ o.after)))) whole o.earlier
        (Memᴰ.append_right o.before (there (Memᴰ.append_right o.between (here refl))))).1 in
        omega (arith, o.back, first_queue ns q o.earlier low (omega arith))

-- what can be followed, and what is accepted, in a pool whose arcs are for messages below top
module _ (P : Pool) (top : ℕ) (arcs : (s m s' : ℕ) → P.arc s m ≡ some s' → m < top) where
  pub followed_between : (r s : ℕ) (u : List ℕ) → follow P (some r) u ≡ some s → Between 0 top u
  followed_between r s [] f = nothing
  followed_between r s (m ∷ u) f =
      let (x, a, g) = follow_front P (some r) (m ∷ []) u f in message zero-le (arcs r m x a) (followed_between x s u g)

  pub accepted_between : (o : Option ℕ) (u : List ℕ) → accepts P o u ≡ true → Between 0 top u
  accepted_between o u e = by_end o (follow P o u) refl e
    where
      by_end : (o x : Option ℕ) → follow P o u ≡ x → is_final P x ≡ true → Between 0 top u
      by_end o none f t = false_not_true refl t
      by_end none (some s) f t = none_not_some (follow_none P u) f
      by_end (some r) (some s) f t = followed_between r s u f
