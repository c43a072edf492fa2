-- What may stand behind an occurrence to the end of a word; `first` has what may begin one and `last` what may end one.
use Rattle.std.specs.Prelude.{◌≡◌, refl, ◌↔◌, ◌⊎◌, true, ℕ, ◌+◌, ◌≤◌, ◌<◌}
use Rattle.std.proofs.Common.{sym, inl, inr, ⊎_elim, arith}
use mathlib.Core.List.{List, [], ◌∷◌, nil≢cons, head-eq_of_cons-eq, tail-eq_of_cons-eq}
use Rattle.theory_grammar.specs.Offends.{most_occurrences}
use Rattle.theory_grammar.specs.Tree.{Tree, letter, empty, sequence, either, star, size, Marked}
use Rattle.theory_model.specs.Laws.Basics.{false_not_true}
use Rattle.theory_occurrences.specs.Sets.{has}
use Rattle.theory_occurrences.specs.Positions.{skips, first, last}
use Rattle.theory_occurrences.specs.Laws.Sets.{has_zero, in_joined, in_joined_when, in_only}
use Rattle.theory_occurrences.specs.Laws.Marked.{Split, split_none, split_first, first_split, split_map, split_after, letter_is, empty_is, sequence_is, is_sequence, either_is, star_is, is_star, marked_skips, skips_marked}

-- THE REST: behind the occurrence p the list l may stand, to the end of a word of the tree
abbrev pub Rest : Tree → ℕ → ℕ → List ℕ → Type 0
Rest (letter m) k p l = (p ≡ k) × (l ≡ [])
Rest empty k p l = ⊥
Rest (sequence a b) k p l = Split (λ u. Rest a k p u) (Marked b (k + size a)) l ⊎ Rest b (k + size a) p l
Rest (either a b) k p l = Rest a k p l ⊎ Rest b (k + size a) p l
Rest (star a) k p l = Split (λ u. Rest a k p u) (Marked (star a) k) l

-- RANGES: the occurrences of a tree
abbrev pub Within : Tree → ℕ → ℕ → Type 0
Within t k p = (k ≤ p) × (p < k + size t)

-- its occurrences have bits
abbrev pub Fits : Tree → ℕ → Type 0
Fits t k = k + size t ≤ most_occurrences

pub rest_within : (t : Tree) (k p : ℕ) (l : List ℕ) → Rest t k p l → Within t k p
rest_within (letter m) k p l r = omega arith
rest_within empty k p l r = absurd r
rest_within (sequence a b) k p l (inl s) = let h = rest_within a k p s.front s.before in omega arith
rest_within (sequence a b) k p l (inr r) = let h = rest_within b (k + size a) p l r in omega arith
rest_within (either a b) k p l (inl r) = let h = rest_within a k p l r in omega arith
rest_within (either a b) k p l (inr r) = let h = rest_within b (k + size a) p l r in omega arith
rest_within (star a) k p l s = rest_within a k p s.front s.before

-- WHAT BEGINS
first_sequence : (a b : Tree) (k p : ℕ)
    → (has (first (sequence a b) k) p ≡ true) ↔ ((has (first a k) p ≡ true) ⊎ ((skips a ≡ true) × (has (first b (k + size a)) p ≡ true)))
first_sequence a b k p = in_joined_when (first a k) (skips a) (first b (k + size a)) p

first_either : (a b : Tree) (k p : ℕ)
    → (has (first (either a b) k) p ≡ true) ↔ ((has (first a k) p ≡ true) ⊎ (has (first b (k + size a)) p ≡ true))
first_either a b k p = in_joined (first a k) (first b (k + size a)) p

pub first_within : (t : Tree) (k p : ℕ) → Fits t k → has (first t k) p ≡ true → Within t k p
first_within (letter m) k p f h = let e = (in_only k p (omega arith)).0 h in omega arith
first_within empty k p f h = false_not_true (has_zero p) h
first_within (sequence a b) k p f h =
    ⊎_elim
    (λ x. let w = first_within a k p (omega arith) x in omega arith)
    (λ (n, x). let w = first_within b (k + size a) p (omega arith) x in omega arith)
    ((first_sequence a b k p).0 h)
first_within (either a b) k p f h =
    ⊎_elim
    (λ x. let w = first_within a k p (omega arith) x in omega arith)
    (λ x. let w = first_within b (k + size a) p (omega arith) x in omega arith)
    ((first_either a b k p).0 h)
first_within (star a) k p f h = first_within a k p f h

-- the occurrence that a word begins with is a first one, and the rest may stand behind it
pub marked_first : (t : Tree) (k p : ℕ) (l : List ℕ) → Fits t k → Marked t k (p ∷ l) → (has (first t k) p ≡ true) × Rest t k p l
marked_first (letter m) k p l f d =
    let e = letter_is d in
    ((in_only k p (omega arith)).1 (head-eq_of_cons-eq e), (head-eq_of_cons-eq e, tail-eq_of_cons-eq e))
marked_first empty k p l f d = absurd (nil≢cons (sym (empty_is d)))
marked_first (sequence a b) k p l f d =
    ⊎_elim
    (λ (n, x).
    let (h, r) = marked_first b (k + size a) p l (omega arith) x in
    ((first_sequence a b k p).1 (inr (marked_skips a k n, h)), inr r))
    (λ s.
    let (h, r) = marked_first a k p s.front (omega arith) s.before in
    ((first_sequence a b k p).1 (inl h), inl (split_map s r)))
    (split_first (sequence_is d))
marked_first (either a b) k p l f d =
    ⊎_elim
    (λ x. let (h, r) = marked_first a k p l (omega arith) x in ((first_either a b k p).1 (inl h), inl r))
    (λ x. let (h, r) = marked_first b (k + size a) p l (omega arith) x in ((first_either a b k p).1 (inr h), inr r))
    (either_is d)
marked_first (star a) k p l f d =
    let s = star_is d p l refl in
    let (h, r) = marked_first a k p s.front f s.before in
    (h, split_map s r)

-- an occurrence of the one part is none of the other
pub apart : {X : Type 0} (a b : Tree) (k p : ℕ) → Within a k p → Within b (k + size a) p → X
apart a b k p h l = absurd (omega arith)

-- what may stand behind a first one makes a word with it
pub first_marked : (t : Tree) (k p : ℕ) (l : List ℕ) → Fits t k → has (first t k) p ≡ true → Rest t k p l → Marked t k (p ∷ l)
first_marked (letter m) k p l f h (e, n) = rw (e, n) Marked.one
first_marked empty k p l f h r = absurd r
first_marked (sequence a b) k p l f h (inl s) =
    ⊎_elim
    (λ x. is_sequence (first_split (split_map s (first_marked a k p s.front (omega arith) x s.before))))
    (λ (n, x). apart a b k p (rest_within a k p s.front s.before) (first_within b (k + size a) p (omega arith) x))
    ((first_sequence a b k p).0 h)
first_marked (sequence a b) k p l f h (inr r) =
    ⊎_elim
    (λ x. apart a b k p (first_within a k p (omega arith) x) (rest_within b (k + size a) p l r))
    (λ (n, x). Marked.join (skips_marked a k n) (first_marked b (k + size a) p l (omega arith) x r))
    ((first_sequence a b k p).0 h)
first_marked (either a b) k p l f h (inl r) =
    ⊎_elim
    (λ x. Marked.former (first_marked a k p l (omega arith) x r))
    (λ x. apart a b k p (rest_within a k p l r) (first_within b (k + size a) p (omega arith) x))
    ((first_either a b k p).0 h)
first_marked (either a b) k p l f h (inr r) =
    ⊎_elim
    (λ x. apart a b k p (first_within a k p (omega arith) x) (rest_within b (k + size a) p l r))
    (λ x. Marked.latter (first_marked b (k + size a) p l (omega arith) x r))
    ((first_either a b k p).0 h)
first_marked (star a) k p l f h s = is_star (first_split (split_map s (first_marked a k p s.front f h s.before)))

-- WHAT ENDS
last_sequence : (a b : Tree) (k p : ℕ)
    → (has (last (sequence a b) k) p ≡ true) ↔ ((has (last b (k + size a)) p ≡ true) ⊎ ((skips b ≡ true) × (has (last a k) p ≡ true)))
last_sequence a b k p = in_joined_when (last b (k + size a)) (skips b) (last a k) p

last_either : (a b : Tree) (k p : ℕ)
    → (has (last (either a b) k) p ≡ true) ↔ ((has (last a k) p ≡ true) ⊎ (has (last b (k + size a)) p ≡ true))
last_either a b k p = in_joined (last a k) (last b (k + size a)) p

-- an occurrence with nothing behind it is a last one
pub rest_last : (t : Tree) (k p : ℕ) → Fits t k → Rest t k p [] → has (last t k) p ≡ true
rest_last (letter m) k p f (e, n) = (in_only k p (omega arith)).1 e
rest_last empty k p f r = absurd r
rest_last (sequence a b) k p f (inl s) =
    let (r, n) = split_none s in
    (last_sequence a b k p).1 (inr (marked_skips b (k + size a) n, rest_last a k p (omega arith) r))
rest_last (sequence a b) k p f (inr r) = (last_sequence a b k p).1 (inl (rest_last b (k + size a) p (omega arith) r))
rest_last (either a b) k p f (inl r) = (last_either a b k p).1 (inl (rest_last a k p (omega arith) r))
rest_last (either a b) k p f (inr r) = (last_either a b k p).1 (inr (rest_last b (k + size a) p (omega arith) r))
rest_last (star a) k p f s = rest_last a k p f (split_none s).0

pub last_rest : (t : Tree) (k p : ℕ) → Fits t k → has (last t k) p ≡ true → Rest t k p []
last_rest (letter m) k p f h = ((in_only k p (omega arith)).0 h, refl)
last_rest empty k p f h = false_not_true (has_zero p) h
last_rest (sequence a b) k p f h =
    ⊎_elim
    (λ x. inr (last_rest b (k + size a) p (omega arith) x))
    (λ (n, x). inl (split_after (last_rest a k p (omega arith) x) (skips_marked b (k + size a) n)))
    ((last_sequence a b k p).0 h)
last_rest (either a b) k p f h =
    ⊎_elim
    (λ x. inl (last_rest a k p (omega arith) x))
    (λ x. inr (last_rest b (k + size a) p (omega arith) x))
    ((last_either a b k p).0 h)
last_rest (star a) k p f h = split_after (last_rest a k p f h) Marked.stop
