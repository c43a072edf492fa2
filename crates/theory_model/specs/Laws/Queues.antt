-- The contents of the queues and their one word determine each other; what a queue holds lies between what the queues before it and after it hold.
use Rattle.std.specs.Prelude.{◌≡◌, refl, ℕ, zero, suc, ◌+◌, ◌≤◌, ◌<◌, eqb, length, get_or, set}
use Rattle.std.proofs.Common.{sym, ap, ap₂, subst, ◌∙◌, arith, eqb-true, eq-eqb}
use Rattle.std.proofs.Math.Option.{none, some}
use mathlib.Core.List.{List, [], ◌∷◌, ◌++◌, map, append_assoc, append-nil, head-eq_of_cons-eq, tail-eq_of_cons-eq, nil≢cons}
use Rattle.theory_model.specs.Model.{first_of, total, Between, nothing, message, Own, none_left, queue, strip}
use Rattle.theory_model.specs.Diagram.{word}
use Rattle.theory_model.specs.Laws.Basics.{by_test}

-- A word between bounds
pub between_wide : {lo hi lo' hi' : ℕ} {u : List ℕ} → lo' ≤ lo → hi ≤ hi' → Between lo hi u → Between lo' hi' u
between_wide l h nothing = nothing
between_wide l h (message {m = m} a b u) = message {m = m} (omega arith) (omega arith) (between_wide l h u)

pub between_append : {lo hi : ℕ} {u v : List ℕ} → Between lo hi u → Between lo hi v → Between lo hi (u ++ v)
between_append nothing v = v
between_append (message a b u) v = message a b (between_append u v)

pub between_front : {lo hi : ℕ} (u v : List ℕ) → Between lo hi (u ++ v) → Between lo hi u
between_front [] v b = nothing
between_front (m ∷ u) v (message a b r) = message a b (between_front u v r)

pub between_back : {lo hi : ℕ} (u v : List ℕ) → Between lo hi (u ++ v) → Between lo hi v
between_back [] v b = b
between_back (m ∷ u) v (message a b r) = between_back u v r

-- no message lies below hi and from hi on
pub between_none : {lo hi top : ℕ} (u : List ℕ) → Between lo hi u → Between hi top u → u ≡ []
between_none [] a b = refl
between_none (m ∷ u) (message a b r) (message c d s) = absurd (omega arith)

-- Where the messages of w are below hi and those of rest are not, w lies within what stands before rest
pub within : {lo hi top : ℕ} (x rest w v : List ℕ) → x ++ rest ≡ w ++ v → Between lo hi w → Between hi top rest → (r : List ℕ) × (x ≡ w ++ r) × (v ≡ r ++ rest)
within x rest [] v e a b = (x, refl, sym e)
within [] [] (m ∷ w) v e a b = absurd (nil≢cons e)
within [] (n ∷ rest) (m ∷ w) v e (message a b c) (message a' b' c') =
    let same = head-eq_of_cons-eq e in
    absurd (omega arith)
within (n ∷ x) rest (m ∷ w) v e (message a b c) d =
    let (r, p, s) = within x rest w v (tail-eq_of_cons-eq e) c d in
    (r, ap₂ {C = List ℕ} (λ y ys. y ∷ ys) (head-eq_of_cons-eq e) p, s)

-- a word parts in one way into messages below the cut and messages from the cut on
pub cut_once : {lo cut top : ℕ} (x y u v : List ℕ) → x ++ y ≡ u ++ v → Between lo cut x → Between cut top y → Between lo cut u → Between cut top v → (x ≡ u) × (y ≡ v)
cut_once x y u v e a b c d =
    let (r, p, s) = within x y u v e c b in
    let gone : r ≡ [] = between_none r (between_back u r (subst (Between _ _) p a)) (between_front r y (subst (Between _ _) s d)) in
    (p ∙ ap (λ l. u ++ l) gone ∙ append-nil u, sym (s ∙ ap (λ l. l ++ y) gone))

-- STRIP
pub strip_is : (w q : List ℕ) {r : List ℕ} → strip w q ≡ some r → q ≡ w ++ r
strip_is [] q e = cc
strip_is (m ∷ w) [] e = cc
strip_is (m ∷ w) (n ∷ q) {r} e =
    by_test (eqb m n)
    (λ t. ap₂ {C = List ℕ} (λ y ys. y ∷ ys) (sym (eqb-true m n t)) (strip_is w q (rw (t, strip) at e)))
    (λ f. let gone : none ≡ some r = rw (f, strip) at e in cc)

pub strips : (w r : List ℕ) → strip w (w ++ r) ≡ some r
strips [] r = refl
strips (m ∷ w) r = rw (eq-eqb m m refl, strip) (strips w r)

-- QUEUES
pub first_zero : (ns : List ℕ) → first_of ns 0 ≡ 0
first_zero [] = refl
first_zero (n ∷ ns) = refl

pub first_total : (ns : List ℕ) (q : ℕ) → first_of ns q ≤ total ns
first_total [] q = omega arith
first_total (n ∷ ns) zero = omega arith
first_total (n ∷ ns) (suc q) = omega (arith, first_total ns q)

pub first_rises : (ns : List ℕ) (q : ℕ) → first_of ns q ≤ first_of ns (suc q)
first_rises [] q = omega arith
first_rises (n ∷ ns) zero = omega arith
first_rises (n ∷ ns) (suc q) = omega (arith, first_rises ns q)

pub word_between : {k : ℕ} {ns : List ℕ} {qs : List (List ℕ)} → Own k ns qs → Between k (k + total ns) (word qs)
word_between none_left = nothing
word_between (queue {k = k} {n = n} {ns = ns} own rest) =
    between_append (between_wide (omega arith) (omega arith) own) (between_wide (omega arith) (omega arith) (word_between rest))

pub one_split : {k : ℕ} {ns : List ℕ} {qs qs' : List (List ℕ)} → Own k ns qs → Own k ns qs' → word qs ≡ word qs' → qs ≡ qs'
one_split none_left none_left e = refl
one_split (queue {q = q} {qs = qs} own rest) (queue {q = q'} {qs = qs'} own' rest') e =
    let (p, s) = cut_once q (word qs) q' (word qs') e own (word_between rest) own' (word_between rest') in
    ap₂ {C = List (List ℕ)} (λ y ys. y ∷ ys) p (one_split rest rest' s)

pub all_empty : {k : ℕ} (ns : List ℕ) → Own k ns (map (λ n. []) ns)
all_empty [] = none_left
all_empty {k = k} (n ∷ ns) = queue nothing (all_empty {k = k + n} ns)

pub word_empty : (ns : List ℕ) → word (map (λ n. []) ns) ≡ []
word_empty [] = refl
word_empty (n ∷ ns) = word_empty ns

-- What stands before and after queue q in the word
pub record Around (k : ℕ) (ns : List ℕ) (qs : List (List ℕ)) (q : ℕ) : Type 0 where
  pub front : List ℕ
  pub rest : List ℕ
  pub low : Between k (k + first_of ns q) front
  pub own : Between (k + first_of ns q) (k + first_of ns (suc q)) (get_or qs q [])
  pub high : Between (k + first_of ns (suc q)) (k + total ns) rest
  pub whole : word qs ≡ front ++ (get_or qs q [] ++ rest)
  pub changed : (x : List ℕ) → word (set qs q x) ≡ front ++ (x ++ rest)
  pub owns : (x : List ℕ) → Between (k + first_of ns q) (k + first_of ns (suc q)) x → Own k ns (set qs q x)

pub around : {k : ℕ} {ns : List ℕ} {qs : List (List ℕ)} (q : ℕ) → q < length ns → Own k ns qs → Around k ns qs q
around q h none_left = absurd (omega arith)
around zero h (queue {k = k} {n = n} {ns = ns} {q = x} {qs = qs} own rest) =
    let z = first_zero ns in
    record {
      front = [];
      rest = word qs;
      low = nothing;
      own = between_wide (omega arith) (omega arith) own;
      high = between_wide (omega arith) (omega arith) (word_between rest);
      whole = refl;
      changed = λ y. refl;
      owns = λ y b. queue {k = k} {n = n} (between_wide (omega arith) (omega arith) b) rest;
    }
around (suc q) h (queue {k = k} {n = n} {ns = ns} {q = x} {qs = qs} own rest) =
    let A = around q (omega arith) rest in
    record {
      front = x ++ A.front;
      rest = A.rest;
      low = between_append (between_wide (omega arith) (omega arith) own) (between_wide (omega arith) (omega arith) A.low);
      own = between_wide (omega arith) (omega arith) A.own;
      high = between_wide (omega arith) (omega arith) A.high;
      whole = ap (λ l. x ++ l) A.whole ∙ sym (append_assoc x A.front _);
      changed = λ y. ap (λ l. x ++ l) (A.changed y) ∙ sym (append_assoc x A.front _);
      owns = λ y b. queue {k = k} {n = n} own (A.owns y (between_wide (omega arith) (omega arith) b));
    }
