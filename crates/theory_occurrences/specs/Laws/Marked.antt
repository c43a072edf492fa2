-- Words of occurrences taken apart by the rule that made them, the empty one among them.
use Rattle.std.specs.Prelude.{◌≡◌, refl, ◌⊎◌, true, ℕ, ◌+◌}
use Rattle.std.proofs.Common.{sym, ap, subst, inl, inr, ⊎_elim}
use mathlib.Core.List.{List, [], ◌∷◌, ◌++◌, nil≢cons, head-eq_of_cons-eq, tail-eq_of_cons-eq, append-eq-nil_iff}
use Rattle.theory_grammar.specs.Tree.{Tree, letter, empty, sequence, either, star, size, Marked}
use Rattle.theory_model.specs.Laws.Basics.{false_not_true, and_is, is_and}
use Rattle.theory_occurrences.specs.Positions.{skips}
use Rattle.theory_occurrences.specs.Laws.Sets.{or_is, is_or_left, is_or_right}

-- a list in two parts, each with a property
pub record Split (P Q : List ℕ → Type 0) (l : List ℕ) : Type 0 where
  pub front : List ℕ
  pub back : List ℕ
  pub whole : l ≡ front ++ back
  pub before : P front
  pub behind : Q back

module _ {P Q : List ℕ → Type 0} where
  pub split_none : Split P Q [] → P [] × Q []
  split_none s =
      let (e, f) = append-eq-nil_iff.0 (sym s.whole) in
      (subst P e s.before, subst Q f s.behind)

  -- the first element is in the front part, or that is empty
  pub split_first : {p : ℕ} {l : List ℕ} → Split P Q (p ∷ l) → (P [] × Q (p ∷ l)) ⊎ Split (λ u. P (p ∷ u)) Q l
  split_first {p} {l} s = by_front s.front s.whole s.before
    where
      by_front : (u : List ℕ) → p ∷ l ≡ u ++ s.back → P u → (P [] × Q (p ∷ l)) ⊎ Split (λ u. P (p ∷ u)) Q l
      by_front [] e h = inl (h, subst Q (sym e) s.behind)
      by_front (x ∷ u) e h =
          inr
          (record {
            front = u;
            back = s.back;
            whole = tail-eq_of_cons-eq e;
            before = subst (λ y. P (y ∷ u)) (sym (head-eq_of_cons-eq e)) h;
            behind = s.behind;
          })

  pub first_split : {p : ℕ} {l : List ℕ} → Split (λ u. P (p ∷ u)) Q l → Split P Q (p ∷ l)
  first_split {p} s = record { front = p ∷ s.front; back = s.back; whole = ap (λ l. p ∷ l) s.whole; before = s.before; behind = s.behind }

  pub split_map : {R : List ℕ → Type 0} {l : List ℕ} → (s : Split P Q l) → R s.front → Split R Q l
  split_map s r = record { front = s.front; back = s.back; whole = s.whole; before = r; behind = s.behind }

  -- with an empty front
  pub split_after : {l : List ℕ} → P [] → Q l → Split P Q l
  split_after {l} x y = record { front = []; back = l; whole = refl; before = x; behind = y }

-- THE RULES, backwards
pub letter_is : {m k : ℕ} {l : List ℕ} → Marked (letter m) k l → l ≡ k ∷ []
letter_is Marked.one = refl

pub empty_is : {k : ℕ} {l : List ℕ} → Marked empty k l → l ≡ []
empty_is Marked.none = refl

pub sequence_is : {a b : Tree} {k : ℕ} {l : List ℕ} → Marked (sequence a b) k l → Split (Marked a k) (Marked b (k + size a)) l
sequence_is (Marked.join {u = u} {v = v} x y) = record { front = u; back = v; whole = refl; before = x; behind = y }

pub is_sequence : {a b : Tree} {k : ℕ} {l : List ℕ} → Split (Marked a k) (Marked b (k + size a)) l → Marked (sequence a b) k l
is_sequence {a} {b} {k} s = subst (Marked (sequence a b) k) (sym s.whole) (Marked.join s.before s.behind)

pub either_is : {a b : Tree} {k : ℕ} {l : List ℕ} → Marked (either a b) k l → Marked a k l ⊎ Marked b (k + size a) l
either_is (Marked.former x) = inl x
either_is (Marked.latter x) = inr x

-- rounds with nothing in them are passed over
pub star_is : {a : Tree} {k : ℕ} {l : List ℕ} → Marked (star a) k l → (p : ℕ) (r : List ℕ) → l ≡ p ∷ r
    → Split (λ u. Marked a k (p ∷ u)) (Marked (star a) k) r
star_is Marked.stop p r e = absurd (nil≢cons e)
star_is (Marked.again {u = []} x y) p r e = star_is y p r e
star_is (Marked.again {a = a} {k = k} {u = q ∷ u} {v = v} x y) p r e =
    record {
      front = u;
      back = v;
      whole = sym (tail-eq_of_cons-eq e);
      before = subst (λ z. Marked a k (z ∷ u)) (head-eq_of_cons-eq e) x;
      behind = y;
    }

pub is_star : {a : Tree} {k : ℕ} {l : List ℕ} → Split (Marked a k) (Marked (star a) k) l → Marked (star a) k l
is_star {a} {k} s = subst (Marked (star a) k) (sym s.whole) (Marked.again s.before s.behind)

-- THE EMPTY WORD
pub marked_skips : (t : Tree) (k : ℕ) → Marked t k [] → skips t ≡ true
marked_skips (letter m) k d = absurd (nil≢cons (letter_is d))
marked_skips empty k d = refl
marked_skips (sequence a b) k d =
    let (x, y) = split_none (sequence_is d) in
    is_and (skips a) (skips b) (marked_skips a k x) (marked_skips b (k + size a) y)
marked_skips (either a b) k d =
    ⊎_elim
    (λ x. is_or_left (skips a) (skips b) (marked_skips a k x))
    (λ x. is_or_right (skips a) (skips b) (marked_skips b (k + size a) x))
    (either_is d)
marked_skips (star a) k d = refl

pub skips_marked : (t : Tree) (k : ℕ) → skips t ≡ true → Marked t k []
skips_marked (letter m) k e = false_not_true refl e
skips_marked empty k e = Marked.none
skips_marked (sequence a b) k e =
    let (x, y) = and_is (skips a) (skips b) e in
    Marked.join (skips_marked a k x) (skips_marked b (k + size a) y)
skips_marked (either a b) k e =
    ⊎_elim (λ x. Marked.former (skips_marked a k x)) (λ x. Marked.latter (skips_marked b (k + size a) x)) (or_is (skips a) (skips b) e)
skips_marked (star a) k e = Marked.stop

-- every tree has a word
pub some_marked : (t : Tree) (k : ℕ) → (l : List ℕ) × Marked t k l
some_marked (letter m) k = (k ∷ [], Marked.one)
some_marked empty k = ([], Marked.none)
some_marked (sequence a b) k =
    let (u, x) = some_marked a k in
    let (v, y) = some_marked b (k + size a) in
    (u ++ v, Marked.join x y)
some_marked (either a b) k = let (u, x) = some_marked a k in (u, Marked.former x)
some_marked (star a) k = ([], Marked.stop)
