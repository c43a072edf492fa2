-- What may begin, end and follow, said of whole words of occurrences; and that what stands behind an occurrence may be exchanged.
use Rattle.std.specs.Prelude.{◌≡◌, refl, ◌↔◌, ◌⊎◌, true, List, [], ◌∷◌, ◌++◌, ℕ, ◌+◌, ◌<◌, ltb, get_or}
use Rattle.std.proofs.Common.{ap, ◌∙◌, inl, inr, ⊎_elim, append_assoc, arith, ltb-true, ltb-false}
use mathlib.Core.Logic.Iff
use Rattle.std.proofs.Math.ListN.{get_or-eq_default}
use Rattle.theory_grammar.specs.Offends.{most_occurrences}
use Rattle.theory_grammar.specs.Tree.{Tree, letter, empty, sequence, either, star, size, Marked}
use Rattle.theory_model.specs.Laws.Basics.{by_test, false_not_true}
use Rattle.theory_occurrences.specs.Sets.{has}
use Rattle.theory_occurrences.specs.Positions.{skips, first, last, follows}
use Rattle.theory_occurrences.specs.Laws.Sets.{has_zero}
use Rattle.theory_occurrences.specs.Laws.Tables.{zeros, length_zeros, zeros_entry}
use Rattle.theory_occurrences.specs.Laws.Marked.{marked_skips, skips_marked, some_marked}
use Rattle.theory_occurrences.specs.Laws.Rest.{Rest, Within, Fits, rest_within, first_within, marked_first, first_marked, rest_last, last_rest}
use Rattle.theory_occurrences.specs.Laws.Follows.{Follows, length_follows, in_follows, follows_within, rest_follow, follow_rest}

-- A REST of a rest
rest_later : (t : Tree) (k x : ℕ) (u : List ℕ) (p : ℕ) (l : List ℕ) → Fits t k → Rest t k x (u ++ (p ∷ l)) → Rest t k p l
rest_later t k x [] p l f r = (rest_follow t k x p l f r).1
rest_later t k x (y ∷ u) p l f r = rest_later t k y u p l f (rest_follow t k x y (u ++ (p ∷ l)) f r).1

rest_exchange : (t : Tree) (k x : ℕ) (u : List ℕ) (p : ℕ) (l l' : List ℕ) → Fits t k → Rest t k x (u ++ (p ∷ l)) → Rest t k p l' → Rest t k x (u ++ (p ∷ l'))
rest_exchange t k x [] p l l' f r r' = follow_rest t k x p l' f (rest_follow t k x p l f r).0 r'
rest_exchange t k x (y ∷ u) p l l' f r r' =
    let (g, s) = rest_follow t k x y (u ++ (p ∷ l)) f r in
    follow_rest t k x y (u ++ (p ∷ l')) f g (rest_exchange t k y u p l l' f s r')

-- WORDS
pub marked_rest : (t : Tree) (k : ℕ) (u : List ℕ) (p : ℕ) (l : List ℕ) → Fits t k → Marked t k (u ++ (p ∷ l)) → Rest t k p l
marked_rest t k [] p l f d = (marked_first t k p l f d).1
marked_rest t k (x ∷ u) p l f d = rest_later t k x u p l f (marked_first t k x (u ++ (p ∷ l)) f d).1

-- what stands behind an occurrence depends on nothing before it
pub marked_exchange : (t : Tree) (k : ℕ) (u : List ℕ) (p : ℕ) (l l' : List ℕ) → Fits t k → Marked t k (u ++ (p ∷ l)) → Rest t k p l' → Marked t k (u ++ (p ∷ l'))
marked_exchange t k [] p l l' f d r = first_marked t k p l' f (marked_first t k p l f d).0 r
marked_exchange t k (x ∷ u) p l l' f d r =
    let (h, s) = marked_first t k x (u ++ (p ∷ l)) f d in
    first_marked t k x (u ++ (p ∷ l')) f h (rest_exchange t k x u p l l' f s r)

-- EVERY occurrence stands in a word
pub some_rest : (t : Tree) (k p : ℕ) → Within t k p → (l : List ℕ) × Rest t k p l
some_rest (letter m) k p w = ([], (omega arith, refl))
some_rest empty k p w = absurd (omega arith)
some_rest (sequence a b) k p w =
    by_test (ltb p (k + size a))
    (λ e.
    let low = ltb-true p (k + size a) e in
    let (u, r) = some_rest a k p (omega arith) in
    let (v, d) = some_marked b (k + size a) in
    (u ++ v, inl (record { front = u; back = v; whole = refl; before = r; behind = d })))
    (λ e.
    let high = ltb-false p (k + size a) e in
    let (v, r) = some_rest b (k + size a) p (omega arith) in
    (v, inr r))
some_rest (either a b) k p w =
    by_test (ltb p (k + size a))
    (λ e. let low = ltb-true p (k + size a) e in let (u, r) = some_rest a k p (omega arith) in (u, inl r))
    (λ e. let high = ltb-false p (k + size a) e in let (v, r) = some_rest b (k + size a) p (omega arith) in (v, inr r))
some_rest (star a) k p w =
    let (u, r) = some_rest a k p w in
    (u ++ [], record { front = u; back = []; whole = refl; before = r; behind = Marked.stop })

-- behind something
pub rest_marked : (t : Tree) (k p : ℕ) (l : List ℕ) → Rest t k p l → (u : List ℕ) × Marked t k (u ++ (p ∷ l))
rest_marked (letter m) k p l (e, n) = ([], rw (e, n) Marked.one)
rest_marked empty k p l r = absurd r
rest_marked (sequence a b) k p l (inl s) =
    let (u, d) = rest_marked a k p s.front s.before in
    (u, rw (s.whole, ← append_assoc u (p ∷ s.front) s.back) (Marked.join d s.behind))
rest_marked (sequence a b) k p l (inr r) =
    let (u, d) = some_marked a k in
    let (v, e) = rest_marked b (k + size a) p l r in
    (u ++ v, rw (append_assoc u v (p ∷ l)) (Marked.join d e))
rest_marked (either a b) k p l (inl r) = let (u, d) = rest_marked a k p l r in (u, Marked.former d)
rest_marked (either a b) k p l (inr r) = let (u, d) = rest_marked b (k + size a) p l r in (u, Marked.latter d)
rest_marked (star a) k p l s =
    let (u, d) = rest_marked a k p s.front s.before in
    (u, rw (s.whole, ← append_assoc u (p ∷ s.front) s.back) (Marked.again d s.behind))

-- WHAT THE DEFINITIONS SAY of words
pub skips_is : (t : Tree) (k : ℕ) → Marked t k [] ↔ (skips t ≡ true)
skips_is t k = (marked_skips t k, skips_marked t k)

pub first_is : (t : Tree) (k p : ℕ) → Fits t k → ((l : List ℕ) × Marked t k (p ∷ l)) ↔ (has (first t k) p ≡ true)
first_is t k p f = (
  λ (l, d). (marked_first t k p l f d).0,
  λ h. let (l, r) = some_rest t k p (first_within t k p f h) in (l, first_marked t k p l f h r),
)

pub last_is : (t : Tree) (k p : ℕ) → Fits t k → ((l : List ℕ) × Marked t k (l ++ (p ∷ []))) ↔ (has (last t k) p ≡ true)
last_is t k p f = (λ (l, d). rest_last t k p f (marked_rest t k l p [] f d), λ h. rest_marked t k p [] (last_rest t k p f h))

-- some word has q behind p
pub record Neighbours (t : Tree) (k p q : ℕ) : Type 0 where
  pub before : List ℕ
  pub behind : List ℕ
  pub marked : Marked t k (before ++ (p ∷ q ∷ behind))

neighbours_follow : (t : Tree) (k p q : ℕ) → Fits t k → Neighbours t k p q ↔ Follows t k p q
neighbours_follow t k p q f = (
  λ n. (rest_follow t k p q n.behind f (marked_rest t k n.before p (q ∷ n.behind) f n.marked)).0,
  λ g.
      let (l, r) = some_rest t k q (follows_within t k p q f g) in
      let (u, d) = rest_marked t k p (q ∷ l) (follow_rest t k p q l f g r) in
      record { before = u; behind = l; marked = d },
)

follows_from : (t : Tree) (k p q : ℕ) → Fits t k → Follows t k p q → Within t k p
follows_from t k p q f g =
    let (l, r) = some_rest t k q (follows_within t k p q f g) in
    rest_within t k p (q ∷ l) (follow_rest t k p q l f g r)

-- the table from zeros on
pub table_is : (t : Tree) (k p q : ℕ) → Fits t k → (has (get_or (follows t k zeros) p 0) q ≡ true) ↔ Follows t k p q
table_is t k p q f = (to, λ g. (within (let w = follows_from t k p q f g in omega arith)).1 (inr g))
  where
    within : p < most_occurrences → (has (get_or (follows t k zeros) p 0) q ≡ true) ↔ ((has (get_or zeros p 0) q ≡ true) ⊎ Follows t k p q)
    within l = in_follows t k zeros p q l length_zeros

    to : has (get_or (follows t k zeros) p 0) q ≡ true → Follows t k p q
    to h =
        by_test (ltb p most_occurrences)
        (λ e.
        let l = ltb-true p most_occurrences e in
        ⊎_elim (λ x. false_not_true (ap (λ z. has z q) (zeros_entry p) ∙ has_zero q) x) (λ g. g) ((within l).0 h))
        (λ e.
        let l = ltb-false p most_occurrences e in
        let out = get_or-eq_default (follows t k zeros) 0 {n = p} (omega (arith, length_follows t k zeros, length_zeros)) in
        false_not_true (ap (λ z. has z q) out ∙ has_zero q) h)

pub follows_is : (t : Tree) (k p q : ℕ) → Fits t k → Neighbours t k p q ↔ (has (get_or (follows t k zeros) p 0) q ≡ true)
follows_is t k p q f = Iff.trans (neighbours_follow t k p q f) (Iff.symm (table_is t k p q f))
