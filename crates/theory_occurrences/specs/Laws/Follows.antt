-- Which occurrence may follow which, by recursion on the tree: it is what the table says, and what stands behind an occurrence in a word.
use Rattle.std.specs.Prelude.{◌≡◌, refl, ◌↔◌, ◌⊎◌, true, ℕ, ◌+◌, ◌<◌, length, get_or}
use Rattle.std.proofs.Common.{sym, ◌∙◌, inl, inr, ⊎_elim, arith}
use Rattle.std.proofs.Math.Logic.{⊎_map}
use mathlib.Core.List.{List, ◌∷◌, nil≢cons}
use Rattle.theory_grammar.specs.Offends.{most_occurrences}
use Rattle.theory_grammar.specs.Tree.{Tree, letter, empty, sequence, either, star, size}
use Rattle.theory_occurrences.specs.Sets.{has}
use Rattle.theory_occurrences.specs.Positions.{first, last, follows}
use Rattle.theory_occurrences.specs.Laws.Tables.{length_link, in_link}
use Rattle.theory_occurrences.specs.Laws.Marked.{split_first, first_split, split_map, split_after}
use Rattle.theory_occurrences.specs.Laws.Rest.{Rest, Within, Fits, rest_within, first_within, apart, marked_first, first_marked, rest_last, last_rest}

-- Q MAY FOLLOW P
abbrev pub Follows : Tree → ℕ → ℕ → ℕ → Type 0
Follows (letter m) k p q = ⊥
Follows empty k p q = ⊥
Follows (sequence a b) k p q =
    (Follows a k p q ⊎ Follows b (k + size a) p q) ⊎ ((has (last a k) p ≡ true) × (has (first b (k + size a)) q ≡ true))
Follows (either a b) k p q = Follows a k p q ⊎ Follows b (k + size a) p q
Follows (star a) k p q = Follows a k p q ⊎ ((has (last a k) p ≡ true) × (has (first a k) q ≡ true))

-- THE TABLE
pub length_follows : (t : Tree) (k : ℕ) (F : List ℕ) → length (follows t k F) ≡ length F
length_follows (letter m) k F = refl
length_follows empty k F = refl
length_follows (sequence a b) k F =
    length_link (last a k) (first b (k + size a)) (follows b (k + size a) (follows a k F))
    ∙ length_follows b (k + size a) (follows a k F) ∙ length_follows a k F
length_follows (either a b) k F = length_follows b (k + size a) (follows a k F) ∙ length_follows a k F
length_follows (star a) k F = length_link (last a k) (first a k) (follows a k F) ∙ length_follows a k F

-- what was added first, and then
added : {X Y Z A B : Type 0} → Y ↔ (X ⊎ A) → Z ↔ (Y ⊎ B) → Z ↔ (X ⊎ (A ⊎ B))
added g h = (
  λ z. ⊎_elim (λ y. ⊎_map (λ x. x) inl (g.0 y)) (λ b. inr (inr b)) (h.0 z),
  ⊎_elim (λ x. h.1 (inl (g.1 (inl x)))) (⊎_elim (λ a. h.1 (inl (g.1 (inr a)))) (λ b. h.1 (inr b))),
)

-- the entries of a table get what may follow
pub in_follows : (t : Tree) (k : ℕ) (F : List ℕ) (p q : ℕ) → p < most_occurrences → length F ≡ most_occurrences
    → (has (get_or (follows t k F) p 0) q ≡ true) ↔ ((has (get_or F p 0) q ≡ true) ⊎ Follows t k p q)
in_follows (letter m) k F p q h l = (inl, ⊎_elim (λ x. x) absurd)
in_follows empty k F p q h l = (inl, ⊎_elim (λ x. x) absurd)
in_follows (sequence a b) k F p q h l =
    let l' : length (follows a k F) ≡ most_occurrences = length_follows a k F ∙ l in
    added
    (added (in_follows a k F p q h l) (in_follows b (k + size a) (follows a k F) p q h l'))
    (in_link (last a k) (first b (k + size a)) (follows b (k + size a) (follows a k F)) p q h (length_follows b (k + size a) (follows a k F) ∙ l'))
in_follows (either a b) k F p q h l =
    added (in_follows a k F p q h l) (in_follows b (k + size a) (follows a k F) p q h (length_follows a k F ∙ l))
in_follows (star a) k F p q h l =
    added (in_follows a k F p q h l) (in_link (last a k) (first a k) (follows a k F) p q h (length_follows a k F ∙ l))

-- WHAT STANDS BEHIND
pub follows_within : (t : Tree) (k p q : ℕ) → Fits t k → Follows t k p q → Within t k q
follows_within (letter m) k p q f g = absurd g
follows_within empty k p q f g = absurd g
follows_within (sequence a b) k p q f (inl (inl g)) = let w = follows_within a k p q (omega arith) g in omega arith
follows_within (sequence a b) k p q f (inl (inr g)) = let w = follows_within b (k + size a) p q (omega arith) g in omega arith
follows_within (sequence a b) k p q f (inr g) = let w = first_within b (k + size a) q (omega arith) g.1 in omega arith
follows_within (either a b) k p q f (inl g) = let w = follows_within a k p q (omega arith) g in omega arith
follows_within (either a b) k p q f (inr g) = let w = follows_within b (k + size a) p q (omega arith) g in omega arith
follows_within (star a) k p q f (inl g) = follows_within a k p q f g
follows_within (star a) k p q f (inr g) = first_within a k q f g.1

-- what stands first in the rest may follow, and the others are its rest
pub rest_follow : (t : Tree) (k p q : ℕ) (l : List ℕ) → Fits t k → Rest t k p (q ∷ l) → Follows t k p q × Rest t k q l
rest_follow (letter m) k p q l f r = absurd (nil≢cons (sym r.1))
rest_follow empty k p q l f r = absurd r
rest_follow (sequence a b) k p q l f (inl s) =
    ⊎_elim
    (λ (r, d). let (h, r') = marked_first b (k + size a) q l (omega arith) d in (inr (rest_last a k p (omega arith) r, h), inr r'))
    (λ s. let (g, r) = rest_follow a k p q s.front (omega arith) s.before in (inl (inl g), inl (split_map s r)))
    (split_first s)
rest_follow (sequence a b) k p q l f (inr r) =
    let (g, r') = rest_follow b (k + size a) p q l (omega arith) r in
    (inl (inr g), inr r')
rest_follow (either a b) k p q l f (inl r) = let (g, r') = rest_follow a k p q l (omega arith) r in (inl g, inl r')
rest_follow (either a b) k p q l f (inr r) = let (g, r') = rest_follow b (k + size a) p q l (omega arith) r in (inr g, inr r')
rest_follow (star a) k p q l f s =
    ⊎_elim
    (λ (r, d). let (h, r') = marked_first (star a) k q l f d in (inr (rest_last a k p f r, h), r'))
    (λ s. let (g, r) = rest_follow a k p q s.front f s.before in (inl g, split_map s r))
    (split_first s)

pub follow_rest : (t : Tree) (k p q : ℕ) (l : List ℕ) → Fits t k → Follows t k p q → Rest t k q l → Rest t k p (q ∷ l)
follow_rest (letter m) k p q l f g r = absurd g
follow_rest empty k p q l f g r = absurd g
follow_rest (sequence a b) k p q l f (inl (inl g)) (inl s) =
    inl (first_split (split_map s (follow_rest a k p q s.front (omega arith) g s.before)))
follow_rest (sequence a b) k p q l f (inl (inl g)) (inr r) =
    apart a b k q (follows_within a k p q (omega arith) g) (rest_within b (k + size a) q l r)
follow_rest (sequence a b) k p q l f (inl (inr g)) (inl s) =
    apart a b k q (rest_within a k q s.front s.before) (follows_within b (k + size a) p q (omega arith) g)
follow_rest (sequence a b) k p q l f (inl (inr g)) (inr r) = inr (follow_rest b (k + size a) p q l (omega arith) g r)
follow_rest (sequence a b) k p q l f (inr (e, h)) (inl s) =
    apart a b k q (rest_within a k q s.front s.before) (first_within b (k + size a) q (omega arith) h)
follow_rest (sequence a b) k p q l f (inr (e, h)) (inr r) =
    inl (split_after (last_rest a k p (omega arith) e) (first_marked b (k + size a) q l (omega arith) h r))
follow_rest (either a b) k p q l f (inl g) (inl r) = inl (follow_rest a k p q l (omega arith) g r)
follow_rest (either a b) k p q l f (inl g) (inr r) =
    apart a b k q (follows_within a k p q (omega arith) g) (rest_within b (k + size a) q l r)
follow_rest (either a b) k p q l f (inr g) (inl r) =
    apart a b k q (rest_within a k q l r) (follows_within b (k + size a) p q (omega arith) g)
follow_rest (either a b) k p q l f (inr g) (inr r) = inr (follow_rest b (k + size a) p q l (omega arith) g r)
follow_rest (star a) k p q l f (inl g) s = first_split (split_map s (follow_rest a k p q s.front f g s.before))
follow_rest (star a) k p q l f (inr (e, h)) s = split_after (last_rest a k p f e) (first_marked (star a) k q l f h s)
