-- What linking adds to a table, what gathering takes of one, and which occurrences are marked with a message.
use Rattle.std.specs.Prelude.{◌≡◌, ◌↔◌, ◌⊎◌, Bool, false, ◌&&◌, ◌||◌, List, ltb, eqb, length, get_or, set, replicate}
use Rattle.std.proofs.Math.Path.{refl, subst}
use Rattle.std.proofs.Common.{sym, ap, ◌∙◌, add-zero, zero-add, length-set, get_or-set_same, get_or-set_other}
use Rattle.std.proofs.Math.Logic.{inl, inr, ⊎_elim, ⊎_map}
use Rattle.std.proofs.Math.Bool.{true, cond}
use Prim.Native.Nat.{ℕ, zero, suc, ◌+◌, ◌/◌, ◌%◌, ◌^◌, ◌≤◌, ◌<◌}
use native.Mathlib.Omega.{arith}
use borrow.Author.Tests.{ltb-true, ltb-false, lt-ltb, eqb-true, eqb-false, eq-eqb}
use Rattle.std.proofs.lemmas.List.{length-replicate, get_or-replicate}
use Rattle.std.proofs.Math.ListN.{get_or-eq_default}
use Rattle.theory_grammar.specs.Offends.{most_occurrences}
use Rattle.theory_model.specs.Laws.Basics.{by_test, false_not_true, and_is, is_and}
use Rattle.theory_occurrences.specs.Sets.{has, joined, only, put, link_from, link, gather_from, gather, marked_from, marked}
use Rattle.theory_occurrences.specs.Laws.Sets.{or_is, is_or_left, is_or_right, has_zero, has_joined, in_joined, in_only, member_low, low_members}

-- THE BLANK TABLE
abbrev pub zeros : List ℕ
zeros = replicate most_occurrences 0

pub length_zeros : length zeros ≡ most_occurrences
length_zeros = length-replicate {A = ℕ} most_occurrences 0

pub zeros_entry : (p : ℕ) → get_or zeros p 0 ≡ 0
zeros_entry p =
    by_test (ltb p most_occurrences)
    (λ e. get_or-replicate most_occurrences p 0 0 (ltb-true p most_occurrences e))
    (λ e. get_or-eq_default zeros 0 {n = p} (ltb-false p most_occurrences e))

-- LENGTHS
length_stored : (b : Bool) (table : List ℕ) (k v : ℕ) → length (cond b (set table k v) table) ≡ length table
length_stored true table k v = length-set table k v
length_stored false table k v = refl

pub length_put : (k v : ℕ) (table : List ℕ) → length (put k v table) ≡ length table
length_put k v table = length_stored (ltb k most_occurrences) table k v

length_link_from : (left i from to : ℕ) (F : List ℕ) → length (link_from left i from to F) ≡ length F
unfolding link_from
length_link_from zero i from to F = refl
length_link_from (suc left) i from to F =
    length_link_from left (i + 1) (from / 2) to (cond (eqb (from % 2) 1) (set F i (joined (get_or F i 0) to)) F)
    ∙ length_stored (eqb (from % 2) 1) F i (joined (get_or F i 0) to)

pub length_link : (from to : ℕ) (F : List ℕ) → length (link from to F) ≡ length F
length_link = length_link_from most_occurrences 0

-- STORING
stored_other : (b : Bool) (F : List ℕ) (i j v : ℕ) → (j ≡ i → ⊥) → get_or (cond b (set F i v) F) j 0 ≡ get_or F j 0
stored_other true F i j v n = get_or-set_other F i j v 0 n
stored_other false F i j v n = refl

stored_same : (b : Bool) (F : List ℕ) (i v : ℕ) → i < length F → get_or (cond b (set F i v) F) i 0 ≡ cond b v (get_or F i 0)
stored_same true F i v l = get_or-set_same F i v 0 l
stored_same false F i v l = refl

pub put_other : (k v : ℕ) (table : List ℕ) (p : ℕ) → (p ≡ k → ⊥) → get_or (put k v table) p 0 ≡ get_or table p 0
put_other k v table p n = stored_other (ltb k most_occurrences) table k p v n

pub put_same : (k v : ℕ) (table : List ℕ) → k < most_occurrences → k < length table → get_or (put k v table) k 0 ≡ v
put_same k v table h l =
    stored_same (ltb k most_occurrences) table k v l ∙ ap (λ b. cond b v (get_or table k 0)) (lt-ltb k most_occurrences h)

-- LINKING
-- entries before i stay
link_from_before : (left i from to : ℕ) (F : List ℕ) (j : ℕ) → j < i → get_or (link_from left i from to F) j 0 ≡ get_or F j 0
unfolding link_from
link_from_before zero i from to F j l = refl
link_from_before (suc left) i from to F j l =
    link_from_before left (i + 1) (from / 2) to (cond (eqb (from % 2) 1) (set F i (joined (get_or F i 0) to)) F) j (omega arith)
    ∙ stored_other (eqb (from % 2) 1) F i j (joined (get_or F i 0) to) (λ e. omega arith)

link_from_entry : (left i from to : ℕ) (F : List ℕ) (n : ℕ) → n < left → i + n < length F
    → get_or (link_from left i from to F) (i + n) 0 ≡ cond (has from n) (joined (get_or F (i + n) 0) to) (get_or F (i + n) 0)
unfolding link_from
link_from_entry zero i from to F n h l = absurd (omega arith)
link_from_entry (suc left) i from to F zero h l =
    rw (add-zero i)
    (link_from_before left (i + 1) (from / 2) to (cond (eqb (from % 2) 1) (set F i (joined (get_or F i 0) to)) F) i (omega arith)
    ∙ stored_same (eqb (from % 2) 1) F i (joined (get_or F i 0) to) (omega arith))
link_from_entry (suc left) i from to F (suc n) h l =
    let G : List ℕ = cond (eqb (from % 2) 1) (set F i (joined (get_or F i 0) to)) F in
    let shift : i + suc n ≡ i + 1 + n = omega arith in
    let long : length G ≡ length F = length_stored (eqb (from % 2) 1) F i (joined (get_or F i 0) to) in
    let other : get_or G (i + 1 + n) 0 ≡ get_or F (i + 1 + n) 0 = stored_other (eqb (from % 2) 1) F i (i + 1 + n) (joined (get_or F i 0) to) (λ e. omega arith) in
    rw shift
    (link_from_entry left (i + 1) (from / 2) to G n (omega arith) (omega arith)
    ∙ ap (λ z. cond (has (from / 2) n) (joined z to) z) other)

has_linked : (b : Bool) (x to q : ℕ) → has (cond b (joined x to) x) q ≡ (has x q || b && has to q)
has_linked true x to q = has_joined x to q
has_linked false x to q = by_test (has x q) (λ e. rw e) (λ e. rw e)

-- an entry of the table gets what is linked to it
pub has_link : (from to : ℕ) (F : List ℕ) (p q : ℕ) → p < most_occurrences → length F ≡ most_occurrences
    → has (get_or (link from to F) p 0) q ≡ (has (get_or F p 0) q || has from p && has to q)
has_link from to F p q h l =
    ap (λ x. has x q) (rw zero-add at (link_from_entry most_occurrences 0 from to F p h (omega arith)))
    ∙ has_linked (has from p) (get_or F p 0) to q

pub in_link : (from to : ℕ) (F : List ℕ) (p q : ℕ) → p < most_occurrences → length F ≡ most_occurrences
    → (has (get_or (link from to F) p 0) q ≡ true) ↔ ((has (get_or F p 0) q ≡ true) ⊎ ((has from p ≡ true) × (has to q ≡ true)))
in_link from to F p q h l =
    rw (has_link from to F p q h l) (
      λ e. ⊎_map (λ k. k) (and_is (has from p) (has to q)) (or_is (has (get_or F p 0) q) (has from p && has to q) e),
      ⊎_elim
          (is_or_left (has (get_or F p 0) q) (has from p && has to q))
          (λ (f, t). is_or_right (has (get_or F p 0) q) (has from p && has to q) (is_and (has from p) (has to q) f t)),
    )

-- COLLECTING: the joined of sets, of those whose test holds, from i on
module _ (test : ℕ → Bool) (part : ℕ → ℕ) where
  unfoldable collect : ℕ → ℕ → ℕ → ℕ
  collect zero i sum = sum
  collect (suc left) i sum = collect left (i + 1) (cond (test i) (joined sum (part i)) sum)

  abbrev Part : ℕ → ℕ → Type 0
  Part p q = (test p ≡ true) × (has (part p) q ≡ true)

  step_keeps : (b : Bool) (sum x q : ℕ) → has sum q ≡ true → has (cond b (joined sum x) sum) q ≡ true
  step_keeps true sum x q h = (in_joined sum x q).1 (inl h)
  step_keeps false sum x q h = h

  collect_keeps : (left i sum q : ℕ) → has sum q ≡ true → has (collect left i sum) q ≡ true
  unfolding collect
  collect_keeps zero i sum q h = h
  collect_keeps (suc left) i sum q h =
      collect_keeps left (i + 1) (cond (test i) (joined sum (part i)) sum) q (step_keeps (test i) sum (part i) q h)

  collect_adds : (left i sum p q : ℕ) → i ≤ p → p < i + left → Part p q → has (collect left i sum) q ≡ true
  unfolding collect
  collect_adds zero i sum p q l h c = absurd (omega arith)
  collect_adds (suc left) i sum p q l h c =
      let sum' : ℕ = cond (test i) (joined sum (part i)) sum in
      by_test (eqb p i)
      (λ e.
      let same : p ≡ i = eqb-true p i e in
      let (t, m) = subst (λ j. Part j q) same c in
      let added : has (joined sum (part i)) q ≡ true = (in_joined sum (part i) q).1 (inr m) in
      collect_keeps left (i + 1) sum' q (ap (λ b. has (cond b (joined sum (part i)) sum) q) t ∙ added))
      (λ e. let other : p ≡ i → ⊥ = eqb-false p i e in collect_adds left (i + 1) sum' p q (omega arith) (omega arith) c)

  abbrev Collected : ℕ → ℕ → ℕ → Type 0
  Collected sum most q = (has sum q ≡ true) ⊎ ((p : ℕ) × (p < most) × Part p q)

  step_from : (b : Bool) (i most sum q : ℕ) → test i ≡ b → i < most → has (cond b (joined sum (part i)) sum) q ≡ true → Collected sum most q
  step_from true i most sum q t l h =
      ⊎_map (λ k. k) (λ k. (i, l, (t, k))) ((in_joined sum (part i) q).0 h)
  step_from false i most sum q t l h = inl h

  collect_from : (left i sum q : ℕ) → has (collect left i sum) q ≡ true → Collected sum (i + left) q
  unfolding collect
  collect_from zero i sum q h = inl h
  collect_from (suc left) i sum q h =
      let shift : i + 1 + left ≡ i + suc left = omega arith in
      ⊎_elim
      (λ k. step_from (test i) i (i + suc left) sum q refl (omega arith) k)
      (λ k. inr k)
      (rw shift at (collect_from left (i + 1) (cond (test i) (joined sum (part i)) sum) q h))

  has_collect : (most q : ℕ) → (has (collect most 0 0) q ≡ true) ↔ ((p : ℕ) × (p < most) × Part p q)
  has_collect most q = (
    λ h. ⊎_elim (λ k. false_not_true (has_zero q) k) (λ k. k) (rw zero-add at (collect_from most 0 0 q h)),
    λ (p, l, c). collect_adds most 0 0 p q (omega arith) (omega arith) c,
  )

gather_collects : (left i x : ℕ) (F : List ℕ) (sum : ℕ) (test : ℕ → Bool) → ((n : ℕ) → has x n ≡ test (i + n))
    → gather_from left i x F sum ≡ collect test (λ p. get_or F p 0) left i sum
unfolding gather_from collect
gather_collects zero i x F sum test same = refl
gather_collects (suc left) i x F sum test same =
    ap (λ b. gather_from left (i + 1) (x / 2) F (cond b (joined sum (get_or F i 0)) sum)) (rw add-zero at (same 0))
    ∙ gather_collects left (i + 1) (x / 2) F (cond (test i) (joined sum (get_or F i 0)) sum) test
    (λ n. let shift : i + suc n ≡ i + 1 + n = omega arith in rw shift at (same (suc n)))

marked_collects : (left i m : ℕ) (L : List ℕ) (sum : ℕ) → marked_from left i m L sum ≡ collect (λ p. eqb (get_or L p 0) m) only left i sum
unfolding marked_from collect
marked_collects zero i m L sum = refl
marked_collects (suc left) i m L sum = marked_collects left (i + 1) m L (cond (eqb (get_or L i 0) m) (joined sum (only i)) sum)

-- WHAT IS GATHERED is in the entry of a member
pub has_gather : (x : ℕ) (F : List ℕ) (q : ℕ) → x < 2 ^ most_occurrences
    → (has (gather x F) q ≡ true) ↔ ((p : ℕ) × (has x p ≡ true) × (has (get_or F p 0) q ≡ true))
has_gather x F q low =
    rw (gather_collects most_occurrences 0 x F 0 (has x) (λ n. ap (has x) (sym (zero-add n)))) (
      λ h. let (p, l, c) = (has_collect (has x) (λ p. get_or F p 0) most_occurrences q).0 h in (p, c.0, c.1),
      λ (p, m, e). (has_collect (has x) (λ p. get_or F p 0) most_occurrences q).1 (p, member_low most_occurrences x p low m, (m, e)),
    )

-- WHAT IS MARKED with a message has it in the table
pub has_marked : (m : ℕ) (L : List ℕ) (p : ℕ) → (has (marked m L) p ≡ true) ↔ ((p < most_occurrences) × (get_or L p 0 ≡ m))
has_marked m L p =
    rw (marked_collects most_occurrences 0 m L 0) (
      λ h.
          let (k, l, c) = (has_collect (λ p. eqb (get_or L p 0) m) only most_occurrences p).0 h in
          let same : p ≡ k = (in_only k p l).0 c.1 in
          rw same (l, eqb-true (get_or L k 0) m c.0),
      λ (l, e).
          (has_collect (λ p. eqb (get_or L p 0) m) only most_occurrences p).1 (p, l, (eq-eqb (get_or L p 0) m e, (in_only p p l).1 refl)),
    )

pub marked_low : (m : ℕ) (L : List ℕ) → marked m L < 2 ^ most_occurrences
marked_low m L = low_members most_occurrences (marked m L) (λ p h. ((has_marked m L p).0 h).0)
