-- The messages of a tree's occurrences: in the list of its letters and in the table of labels.
use Rattle.std.specs.Prelude.{◌≡◌, refl, cond, List, ◌++◌, ℕ, zero, suc, ◌+◌, ◌-◌, ◌≤◌, ◌<◌, ltb, length, get_or}
use Rattle.std.proofs.Common.{sym, ap, ap₂, ◌∙◌, arith, add-zero, zero-add, add_assoc, ltb-true, ltb-false, lt-ltb, length-append, get_or-append-add}
use Rattle.std.proofs.Math.ListN.{get_or-append}
use Rattle.theory_grammar.specs.Offends.{most_occurrences, message_limit}
use Rattle.theory_grammar.specs.Tree.{Tree, letter, empty, sequence, either, star, letters, size}
use Rattle.theory_model.specs.Laws.Basics.{by_test}
use Rattle.theory_occurrences.specs.Positions.{clip, labels}
use Rattle.theory_occurrences.specs.Laws.Tables.{zeros, length_zeros, length_put, put_other, put_same}
use Rattle.theory_occurrences.specs.Laws.Rest.{Within, Fits}

-- LETTERS
pub length_letters : (t : Tree) → length (letters t) ≡ size t
length_letters (letter m) = refl
length_letters empty = refl
length_letters (sequence a b) = length-append (letters a) (letters b) ∙ ap₂ ◌+◌ (length_letters a) (length_letters b)
length_letters (either a b) = length-append (letters a) (letters b) ∙ ap₂ ◌+◌ (length_letters a) (length_letters b)
length_letters (star a) = length_letters a

letters_left : (a b : Tree) (n : ℕ) → n < size a → get_or (letters a ++ letters b) n 0 ≡ get_or (letters a) n 0
letters_left a b n h = get_or-append (letters a) (letters b) 0 n (omega (arith, length_letters a))

letters_right : (a b : Tree) (n : ℕ) → get_or (letters a ++ letters b) (size a + n) 0 ≡ get_or (letters b) n 0
letters_right a b n = rw (← length_letters a) (get_or-append-add (letters a) (letters b) n 0)

-- A TABLE HAS THE LETTERS of a tree from k on
abbrev pub Reads : List ℕ → Tree → ℕ → Type 0
Reads table t k = (n : ℕ) → n < size t → get_or table (k + n) 0 ≡ get_or (letters t) n 0

pub reads_own : (t : Tree) → Reads (letters t) t 0
reads_own t n h = ap (λ i. get_or (letters t) i 0) (zero-add n)

pub reads_left : (table : List ℕ) (a b : Tree) (k : ℕ) → Reads table (sequence a b) k → Reads table a k
reads_left table a b k r n h = r n (omega arith) ∙ letters_left a b n h

pub reads_right : (table : List ℕ) (a b : Tree) (k : ℕ) → Reads table (sequence a b) k → Reads table b (k + size a)
reads_right table a b k r n h = rw (add_assoc k (size a) n) (r (size a + n) (omega arith) ∙ letters_right a b n)

-- LABELS
pub length_labels : (t : Tree) (k : ℕ) (L : List ℕ) → length (labels t k L) ≡ length L
length_labels (letter m) k L = length_put k (clip m) L
length_labels empty k L = refl
length_labels (sequence a b) k L = length_labels b (k + size a) (labels a k L) ∙ length_labels a k L
length_labels (either a b) k L = length_labels b (k + size a) (labels a k L) ∙ length_labels a k L
length_labels (star a) k L = length_labels a k L

-- other entries stay
pub labels_other : (t : Tree) (k : ℕ) (L : List ℕ) (p : ℕ) → (Within t k p → ⊥) → get_or (labels t k L) p 0 ≡ get_or L p 0
labels_other (letter m) k L p n = put_other k (clip m) L p (λ e. n (omega arith))
labels_other empty k L p n = refl
labels_other (sequence a b) k L p n =
    labels_other b (k + size a) (labels a k L) p (λ w. n (omega arith)) ∙ labels_other a k L p (λ w. n (omega arith))
labels_other (either a b) k L p n =
    labels_other b (k + size a) (labels a k L) p (λ w. n (omega arith)) ∙ labels_other a k L p (λ w. n (omega arith))
labels_other (star a) k L p n = labels_other a k L p n

-- of two trees, one behind the other
labels_both : (a b : Tree) (k : ℕ) (L : List ℕ) (n : ℕ) → n < size a + size b
    → (n < size a → get_or (labels a k L) (k + n) 0 ≡ clip (get_or (letters a) n 0))
    → ((j : ℕ) → j < size b → get_or (labels b (k + size a) (labels a k L)) (k + size a + j) 0 ≡ clip (get_or (letters b) j 0))
    → get_or (labels b (k + size a) (labels a k L)) (k + n) 0 ≡ clip (get_or (letters a ++ letters b) n 0)
labels_both a b k L n h left right =
    by_test (ltb n (size a))
    (λ e.
    let l = ltb-true n (size a) e in
    labels_other b (k + size a) (labels a k L) (k + n) (λ w. omega arith) ∙ left l ∙ ap clip (sym (letters_left a b n l)))
    (λ e.
    let l = ltb-false n (size a) e in
    let place : n ≡ size a + (n - size a) = omega arith in
    rw (place, ← add_assoc k (size a) (n - size a))
    (right (n - size a) (omega arith) ∙ ap clip (sym (letters_right a b (n - size a)))))

pub labels_entry : (t : Tree) (k : ℕ) (L : List ℕ) (n : ℕ) → Fits t k → length L ≡ most_occurrences → n < size t
    → get_or (labels t k L) (k + n) 0 ≡ clip (get_or (letters t) n 0)
labels_entry (letter m) k L zero f l h = rw (add-zero k) (put_same k (clip m) L (omega arith) (omega arith))
labels_entry (letter m) k L (suc n) f l h = absurd (omega arith)
labels_entry empty k L n f l h = absurd (omega arith)
labels_entry (sequence a b) k L n f l h =
    labels_both a b k L n h
    (labels_entry a k L n (omega arith) l)
    (λ j. labels_entry b (k + size a) (labels a k L) j (omega arith) (length_labels a k L ∙ l))
labels_entry (either a b) k L n f l h =
    labels_both a b k L n h
    (labels_entry a k L n (omega arith) l)
    (λ j. labels_entry b (k + size a) (labels a k L) j (omega arith) (length_labels a k L ∙ l))
labels_entry (star a) k L n f l h = labels_entry a k L n f l h

-- every letter is a message
abbrev pub Low : Tree → Type 0
Low t = (i : ℕ) → i < size t → get_or (letters t) i 0 < message_limit

pub labels_are : (t : Tree) (p : ℕ) → size t ≤ most_occurrences → Low t → p < size t → get_or (labels t 0 zeros) p 0 ≡ get_or (letters t) p 0
labels_are t p f low h =
    let entry : get_or (labels t 0 zeros) p 0 ≡ clip (get_or (letters t) p 0) = rw zero-add at (labels_entry t 0 zeros p (omega arith) length_zeros h) in
    entry ∙ ap (λ b. cond b (get_or (letters t) p 0) message_limit) (lt-ltb (get_or (letters t) p 0) message_limit (low p h))
