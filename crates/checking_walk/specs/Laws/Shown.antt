-- The contents of a pair are those of its parent and what the letter between them stands for: laid back along the parents, last message first.
use Rattle.std.specs.Prelude.{◌≡◌, List, [], ◌∷◌, ◌++◌, reverse, length, get_or, set, take, drop}
use Rattle.std.proofs.Math.Path.{refl, ap}
use Rattle.std.proofs.Common.{sym, ap₂, subst, ◌∙◌, append_assoc, append-nil, arith, zero-add, length-append, length-drop, drop_of_length-le, drop-cons, get_or-take, get_or-drop, length-take-le, take_at, drop_at, eq-eqb, ne_eqb}
use Rattle.std.proofs.lemmas.List.{reverse-append, reverse-reverse, length-reverse}
use Prim.Native.Nat.{ℕ, zero, suc, ◌+◌, ◌-◌, ◌≤◌, ◌<◌}
use Rattle.std.proofs.lemmas.List.Edits.{sets, sets-eq}
use Rattle.std.proofs.Math.Seq.{length-sets, take-length}
use Rattle.std.proofs.lemmas.Slice.{put_mid-paste}
use borrow.Rule.Slice.PartMut.{put_mid}
use Rattle.numbers.specs.Laws.Lists.{sets_append}
use Rattle.checking_pairs.specs.declared.pairs.Walk.{Walk}
use Rattle.checking_walk.specs.declared.edges.Edge.{Edge}
use Rattle.following.specs.Standing.{word_over, WordWithin}
use Rattle.checking_walk.specs.Shown.{parent_of, part_over, edge_letter, shown_from, shown_over, Placed, EdgeOf, Laid, Shown}
use Rattle.checking_walk.specs.Laws.Edges.{parent_earlier, placed_before}

-- WHAT A LETTER STANDS FOR
pub word_length_lem : {rows : List ℕ} {at n : ℕ} → WordWithin rows at n → length (word_over rows at n) ≡ n
word_length_lem {rows} {at} {n} z = length-take-le n (drop at rows) (omega (arith, length-drop at rows, z.within, z.most))

module _ (rows : List ℕ) (w : Walk) {letter : ℕ} where
  pub part_step : letter ≡ w.sum → part_over rows w letter ≡ word_over rows w.word w.out
  part_step e = rw (eq-eqb letter w.sum e, part_over)

  pub part_message : (letter ≡ w.sum → ⊥) → part_over rows w letter ≡ letter ∷ []
  part_message e = rw (ne_eqb letter w.sum e, part_over)

-- LAYING IT, last message first
laid_none : (start : ℕ) (contents : List ℕ) → Laid [] start contents contents start
laid_none start contents = record { is = refl; next = omega arith }

pub laid_one : (m start : ℕ) (contents : List ℕ) → Laid (m ∷ []) start contents (set contents start m) (start + 1)
laid_one m start contents = record { is = refl; next = refl }

pub laid_as : {u v : List ℕ} {start r : ℕ} {contents contents' : List ℕ} → u ≡ v → Laid u start contents contents' r
    → Laid v start contents contents' r
laid_as {start = start} {r} {contents} {contents'} e p = subst (λ u. Laid u start contents contents' r) e p

module _ {u : List ℕ} {start r : ℕ} {contents contents' : List ℕ} (l : Laid u start contents contents' r) where
  pub laid_length : length contents' ≡ length contents
  laid_length = ap length l.is ∙ length-sets contents start (reverse u)

  -- what is laid next comes before
  laid_before : {v : List ℕ} {r' : ℕ} {contents'' : List ℕ} → Laid v r contents' contents'' r' → Laid (v ++ u) start contents contents'' r'
  laid_before {v} {r'} {contents''} p =
      record {
        is =
            p.is
            ∙ ap₂ (λ k s. sets s k (reverse v)) (l.next ∙ ap (λ n. start + n) (sym (length-reverse u))) l.is
            ∙ sets_append contents start (reverse u) (reverse v)
            ∙ ap (sets contents start) (sym (reverse-append v u));
        next = omega (arith, p.next, l.next, length-append v u);
      }

-- what was laid at the front, and turned round, is shown
pub laid_turned : {u : List ℕ} {r : ℕ} {contents contents' contents'' : List ℕ} → Laid u 0 contents contents' r → length u ≤ length contents
    → contents'' ≡ reverse (take r contents') ++ drop r contents' → Shown u contents contents'' r
laid_turned {u} {r} {contents} {contents'} l h e =
    let long : r ≡ length u = omega (arith, l.next) in
    let same : length (reverse u) ≡ r = length-reverse u ∙ sym long in
    let front : contents' ≡ reverse u ++ drop r contents =
    l.is ∙ sets-eq (reverse u) contents 0 (omega (arith, length-reverse u))
    ∙ ap (λ n. reverse u ++ drop n contents) (zero-add (length (reverse u)) ∙ same) in
    record {
      number = long;
      is =
          e
          ∙ ap₂ (λ a b. reverse a ++ b) (ap (take r) front ∙ take_at (reverse u) (drop r contents) r same)
          (ap (drop r) front ∙ drop_at (reverse u) (drop r contents) r same)
          ∙ ap (λ a. a ++ drop r contents) (reverse-reverse u);
    }

-- A WORD is put into its part of the contents, and the part turned round
pub word_laid : {rows : List ℕ} {word out start : ℕ} {contents part front : List ℕ} → WordWithin rows word out → start + out ≤ length contents
    → part ≡ take (word + out - word) (drop word rows) → front ≡ reverse part
    → Laid (word_over rows word out) start contents (put_mid start (start + out - start) contents front) (start + out)
word_laid {rows} {word} {out} {start} {contents} {part} {front} z h p f =
    let u = word_over rows word out in
    let v = reverse u in
    let long : length v ≡ out = length-reverse u ∙ word_length_lem z in
    let all : word + out - word ≡ out = omega arith in
    record {
      is =
          put_mid-paste start (start + out - start) contents front v (length v)
          (f ∙ ap reverse (p ∙ ap (λ n. take n (drop word rows)) all))
          (omega (arith, long)) refl
          ∙ ap (λ w. take start contents ++ w ++ drop (start + length v) contents) (take-length v)
          ∙ sym (sets-eq v contents start (omega (arith, long)));
      next = omega (arith, word_length_lem z);
    }

-- A WORD is laid from its end: the messages from number i on are there
pub record Wording (rows : List ℕ) (word out start i n : ℕ) (contents contents' : List ℕ) : Type 0 where
  pub laid : Laid (drop i (word_over rows word out)) start contents contents' n
  pub left : n + i ≡ start + out

module _ {rows : List ℕ} {word out : ℕ} (z : WordWithin rows word out) where
  pub word_begin : (start : ℕ) (contents : List ℕ) → Wording rows word out start out start contents contents
  word_begin start contents =
      let short : length (word_over rows word out) ≤ out = omega (arith, word_length_lem z) in
      record { laid = laid_as (sym (drop_of_length-le (word_over rows word out) short)) (laid_none start contents); left = refl }

  word_next : (i : ℕ) → i < out → get_or rows (word + i) 0 ∷ drop (suc i) (word_over rows word out) ≡ drop i (word_over rows word out)
  word_next i h =
      sym (drop-cons (word_over rows word out) i 0 (omega (arith, word_length_lem z))
      ∙ ap (λ m. m ∷ drop (suc i) (word_over rows word out)) (get_or-take out (drop word rows) i 0 h ∙ get_or-drop word rows i 0))

  module _ {start i n : ℕ} {contents contents' : List ℕ} (W : Wording rows word out start i n contents contents') where
    pub word_most : i ≤ out
    word_most = omega (arith, W.left, W.laid.next)

    pub word_more : 0 < i → Wording rows word out start (i - 1) (n + 1) contents (set contents' n (get_or rows (word + (i - 1)) 0))
    word_more h =
        let e : i ≡ suc (i - 1) = omega arith in
        record {
          laid =
              laid_as (ap (λ k. get_or rows (word + (i - 1)) 0 ∷ drop k (word_over rows word out)) e ∙ word_next (i - 1) (omega (arith, word_most)))
              (laid_before W.laid (laid_one (get_or rows (word + (i - 1)) 0) n contents'));
          left = omega (arith, W.left);
        }

    pub word_end : i ≤ 0 → Laid (word_over rows word out) start contents contents' n
    word_end h = laid_as (ap (λ k. drop k (word_over rows word out)) (let e : i ≡ 0 = omega arith in e)) W.laid

-- BACK ALONG THE PARENTS
module _ (arcs rows : List ℕ) (w : Walk) (seen queue : List ℕ) where
  abbrev S : ℕ → List ℕ
  S k = shown_over arcs rows w seen queue k

  abbrev part : ℕ → List ℕ
  part k = part_over rows w (edge_letter arcs rows w seen queue k)

  -- parents stand earlier, so the fuel does not matter
  fuel_free : (n n' k : ℕ) → k ≤ n → k ≤ n' → Placed seen queue k
      → shown_from arcs rows w seen queue n k ≡ shown_from arcs rows w seen queue n' k
  unfolding shown_from
  fuel_free zero zero zero h h' P = refl
  fuel_free zero (suc n') zero h h' P = refl
  fuel_free (suc n) zero zero h h' P = refl
  fuel_free (suc n) (suc n') zero h h' P = refl
  fuel_free zero n' (suc k) h h' P = absurd (omega arith)
  fuel_free (suc n) zero (suc k) h h' P = absurd (omega arith)
  fuel_free (suc n) (suc n') (suc k) h h' P =
      let l = parent_earlier P (omega arith) in
      ap (λ u. u ++ part (suc k)) (fuel_free n n' (parent_of seen queue (suc k)) (omega arith) (omega arith) (placed_before P l))

  shown_step : (k : ℕ) → 0 < k → Placed seen queue k → S k ≡ S (parent_of seen queue k) ++ part k
  unfolding shown_from
  shown_step zero h P = absurd (omega arith)
  shown_step (suc k) h P =
      let l = parent_earlier P h in
      let p = parent_of seen queue (suc k) in
      ap (λ u. u ++ part (suc k)) (fuel_free k p p (omega arith) (omega arith) (placed_before P l))

  shown_none : S 0 ≡ []
  unfolding shown_from
  shown_none = refl

  -- what is laid, after what is shown for place at, is all that is shown
  pub record Backing (k : ℕ) (contents : List ℕ) (at n : ℕ) (contents' : List ℕ) : Type 0 where
    pub placed : Placed seen queue at
    pub there : List ℕ
    pub laid : Laid there 0 contents contents' n
    pub is : S at ++ there ≡ S k

module _ {arcs rows : List ℕ} {w : Walk} {seen queue : List ℕ} where
  pub back_begin : {k : ℕ} (contents : List ℕ) → Placed seen queue k → Backing arcs rows w seen queue k contents k 0 contents
  back_begin {k} contents P = record { placed = P; there = []; laid = laid_none 0 contents; is = append-nil (shown_over arcs rows w seen queue k) }

  module _ {k at n : ℕ} {contents contents' : List ℕ} (B : Backing arcs rows w seen queue k contents at n contents') where
    module _ {e : Edge} (h : 0 < at) (E : EdgeOf arcs rows w seen queue at e) where
      back_split : shown_over arcs rows w seen queue e.parent ++ (part_over rows w e.letter ++ B.there) ≡ shown_over arcs rows w seen queue k
      back_split =
          sym (append_assoc (shown_over arcs rows w seen queue e.parent) (part_over rows w e.letter) B.there)
          ∙ ap₂ (λ p m. shown_over arcs rows w seen queue p ++ part_over rows w m ++ B.there) E.parent E.letter
          ∙ ap (λ u. u ++ B.there) (sym (shown_step arcs rows w seen queue at h B.placed))
          ∙ B.is

      -- there is room for the next part
      pub back_room : length (shown_over arcs rows w seen queue k) ≤ length contents → n + length (part_over rows w e.letter) ≤ length contents'
      back_room m =
          omega (
            arith,
            laid_length B.laid,
            B.laid.next,
            ap length back_split,
            length-append (shown_over arcs rows w seen queue e.parent) (part_over rows w e.letter ++ B.there),
            length-append (part_over rows w e.letter) B.there,
          )

      pub back_next : {r : ℕ} {contents'' : List ℕ} → Laid (part_over rows w e.letter) n contents' contents'' r
          → Backing arcs rows w seen queue k contents e.parent r contents''
      back_next p =
          record {
            placed = placed_before B.placed E.earlier;
            there = part_over rows w e.letter ++ B.there;
            laid = laid_before B.laid p;
            is = back_split;
          }

    pub back_end : at ≤ 0 → Laid (shown_over arcs rows w seen queue k) 0 contents contents' n
    back_end h =
        let e : at ≡ 0 = omega arith in
        laid_as (ap (λ u. u ++ B.there) (sym (ap (shown_over arcs rows w seen queue) e ∙ shown_none arcs rows w seen queue)) ∙ B.is) B.laid
