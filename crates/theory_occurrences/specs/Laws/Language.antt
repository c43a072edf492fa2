-- The words of a tree are its words of occurrences, read by their messages.
use Rattle.std.specs.Prelude.{◌≡◌, refl, ◌↔◌, List, [], ◌∷◌, ◌++◌, map, ℕ, ◌+◌, get_or}
use Rattle.std.proofs.Common.{ap, ap₂, subst, ◌∙◌, arith, add-zero}
use Rattle.std.proofs.lemmas.List.{map-append}
use Rattle.theory_grammar.specs.Tree.{Tree, letters, size, Word, Marked}
use Rattle.theory_occurrences.specs.Laws.Letters.{Reads, reads_own, reads_left, reads_right}

module _ (table : List ℕ) where
  -- the messages that stand there
  abbrev spell : List ℕ → List ℕ
  spell l = map (λ (q : ℕ). get_or table q 0) l

  marked_word : {t : Tree} {k : ℕ} {l : List ℕ} → Marked t k l → Reads table t k → Word t (spell l)
  marked_word (Marked.one {m = m} {k = k}) r =
      let e : get_or table k 0 ≡ m = rw add-zero at (r 0 (omega arith)) in
      rw e Word.one
  marked_word Marked.none r = Word.none
  marked_word (Marked.join {a = a} {b = b} {k = k} {u = u} {v = v} x y) r =
      rw (map-append (λ (q : ℕ). get_or table q 0) u v)
      (Word.join (marked_word x (reads_left table a b k r)) (marked_word y (reads_right table a b k r)))
  marked_word (Marked.former {a = a} {b = b} {k = k} x) r = Word.former (marked_word x (reads_left table a b k r))
  marked_word (Marked.latter {a = a} {b = b} {k = k} x) r = Word.latter (marked_word x (reads_right table a b k r))
  marked_word Marked.stop r = Word.stop
  marked_word (Marked.again {u = u} {v = v} x y) r =
      rw (map-append (λ (q : ℕ). get_or table q 0) u v) (Word.again (marked_word x r) (marked_word y r))

  -- a word of occurrences that is spelled so
  abbrev Spelled : Tree → ℕ → List ℕ → Type 0
  Spelled t k w = (l : List ℕ) × Marked t k l × (spell l ≡ w)

  word_marked : {t : Tree} {w : List ℕ} → Word t w → (k : ℕ) → Reads table t k → Spelled t k w
  word_marked (Word.one {m = m}) k r =
      let e : get_or table k 0 ≡ m = rw add-zero at (r 0 (omega arith)) in
      (k ∷ [], Marked.one, ap (λ z. z ∷ []) e)
  word_marked Word.none k r = ([], Marked.none, refl)
  word_marked (Word.join {a = a} {b = b} x y) k r =
      let (u, d, e) = word_marked x k (reads_left table a b k r) in
      let (v, d', e') = word_marked y (k + size a) (reads_right table a b k r) in
      (u ++ v, Marked.join d d', map-append (λ (q : ℕ). get_or table q 0) u v ∙ ap₂ ◌++◌ e e')
  word_marked (Word.former {a = a} {b = b} x) k r =
      let (u, d, e) = word_marked x k (reads_left table a b k r) in
      (u, Marked.former d, e)
  word_marked (Word.latter {a = a} {b = b} x) k r =
      let (v, d, e) = word_marked x (k + size a) (reads_right table a b k r) in
      (v, Marked.latter d, e)
  word_marked Word.stop k r = ([], Marked.stop, refl)
  word_marked (Word.again x y) k r =
      let (u, d, e) = word_marked x k r in
      let (v, d', e') = word_marked y k r in
      (u ++ v, Marked.again d d', map-append (λ (q : ℕ). get_or table q 0) u v ∙ ap₂ ◌++◌ e e')

pub word_is : (t : Tree) (w : List ℕ) → Word t w ↔ ((l : List ℕ) × Marked t 0 l × (map (λ (q : ℕ). get_or (letters t) q 0) l ≡ w))
word_is t w = (
  λ x. word_marked (letters t) x 0 (reads_own t),
  λ (l, d, e). subst (Word t) e (marked_word (letters t) d (reads_own t)),
)
