-- The parts of the contents after a step, where they lie.
use Rattle.std.specs.Prelude.{ℕ, ◌+◌, ◌-◌, ◌≤◌, ◌<◌, ◌≡◌, List, [], ◌++◌, length, take, drop}
use Rattle.std.proofs.Common.{sym, ap, subst, ◌∙◌, append_assoc, append-nil, arith, zero-add, take-append-drop, take-take, take-add, drop_at, drop-drop, length-take-le}
use Rattle.std.proofs.Math.Seq.{drop-length, drop-nil}
use Rattle.tables.specs.Limits.{most_messages, most_word, contents_least}
use Rattle.tables.specs.Kinds.{reached_of}
use Rattle.theory_model.specs.Model.{Between}
use Rattle.theory_model.specs.Diagram.{front_of, rest_of}
use Rattle.theory_model.specs.Judge.{exchanged}
use Rattle.theory_model.specs.Laws.Queues.{between_front, between_back}
use Rattle.following.specs.Follow.{far_arcs}
use Rattle.following.specs.Standing.{standing, word_over, RingAt, WordWithin}
use Rattle.following.specs.Laws.Standing.{on_the_way, word_standing, standing_length}
use Rattle.following.specs.Part.{Goes}
use Rattle.following.specs.After.{ContentsAt, FrontEnds}
use Rattle.following.specs.Laws.Part.{goes_on, goes_through, goes_most}
use Rattle.following.specs.Laws.Front.{front_taken, front_dropped, front_short}

-- the end of a front
end_of_front : (contents : List ℕ) (shown i : ℕ) → i ≤ shown → shown ≤ length contents → drop i (take shown contents) ≡ take (shown - i) (drop i contents)
end_of_front contents shown i h g =
    ap (λ k. drop i (take k contents)) (let z : shown ≡ i + (shown - i) = omega arith in z)
    ∙ ap (drop i) (take-add i (shown - i) contents)
    ∙ drop_at (take i contents) (take (shown - i) (drop i contents)) i (length-take-le i contents (omega arith))

module _ {contents : List ℕ} {shown : ℕ} (A : ContentsAt contents shown) where
  pub shown_within : shown ≤ length contents
  shown_within = omega (arith, A.within, A.most)

  pub contents_ring : {head : ℕ} → head < shown → RingAt contents 0 contents_least head
  contents_ring h = record { within = omega (arith, A.within); placed = omega (arith, A.most) }

  pub first_ring : RingAt contents 0 contents_least 0
  first_ring = record { within = omega (arith, A.within); placed = omega arith }

  module _ (i n : ℕ) (e : i + n ≤ shown) where
    in_ring : standing contents_least contents 0 i n ≡ word_over contents i n
    in_ring = on_the_way contents_least contents 0 i n (omega (arith, A.most)) (omega (arith, A.within)) ∙ ap (λ j. word_over contents j n) (zero-add i)

  -- from any place on
  pub end_between : (i : ℕ) → i ≤ shown → Between 0 most_messages (standing contents_least contents 0 i (shown - i))
  end_between i h =
      subst (Between 0 most_messages) (sym (in_ring i (shown - i) (omega arith) ∙ sym (end_of_front contents shown i h shown_within)))
      (between_back (take i (take shown contents)) (drop i (take shown contents))
      (subst (Between 0 most_messages) (sym (take-append-drop i (take shown contents))) A.messages))

  -- THE FRONT
  module _ {cut kept : ℕ} (K : FrontEnds contents shown cut kept) where
    pub kept_most : kept ≤ shown
    kept_most = omega (arith, K.is, front_short cut (take shown contents), length-take-le shown contents shown_within)

    pub front_standing : standing contents_least contents 0 0 kept ≡ front_of cut (take shown contents)
    front_standing =
        in_ring 0 kept (omega (arith, kept_most)) ∙ sym (take-take kept shown contents kept_most)
        ∙ ap (λ n. take n (take shown contents)) K.is ∙ front_taken cut (take shown contents)

    pub front_between : Between 0 most_messages (standing contents_least contents 0 0 kept)
    front_between =
        subst (Between 0 most_messages) (sym front_standing)
        (between_front (front_of cut (take shown contents)) (drop kept (take shown contents))
        (subst (Between 0 most_messages)
        (sym (take-append-drop kept (take shown contents))
        ∙ ap (λ l. l ++ drop kept (take shown contents)) (ap (λ n. take n (take shown contents)) K.is ∙ front_taken cut (take shown contents)))
        A.messages))

    -- WHAT IS BEHIND, where so many are taken out
    rest_is : (out : ℕ) → drop out (rest_of cut (take shown contents)) ≡ drop (kept + out) (take shown contents)
    rest_is out =
        ap (drop out) (sym (front_dropped cut (take shown contents)) ∙ ap (λ n. drop n (take shown contents)) (sym K.is))
        ∙ drop-drop out kept (take shown contents)

    pub rest_none : (out : ℕ) → shown - kept ≤ out → drop out (rest_of cut (take shown contents)) ≡ []
    rest_none out h =
        let long = length-take-le shown contents shown_within in
        rest_is out
        ∙ ap (λ n. drop n (take shown contents)) (let z : kept + out ≡ length (take shown contents) + (kept + out - shown) = omega (arith, kept_most) in z)
        ∙ sym (drop-drop (kept + out - shown) (length (take shown contents)) (take shown contents))
        ∙ ap (drop (kept + out - shown)) (drop-length (take shown contents))
        ∙ drop-nil (kept + out - shown)

    pub behind_less : (out : ℕ) → out < shown - kept → kept + out < shown
    behind_less out h = omega (arith, kept_most)

    module _ (out : ℕ) (h : kept + out < shown) where
      pub rest_standing : standing contents_least contents 0 (kept + out) (shown - (kept + out)) ≡ drop out (rest_of cut (take shown contents))
      rest_standing =
          in_ring (kept + out) (shown - (kept + out)) (omega arith)
          ∙ sym (end_of_front contents shown (kept + out) (omega arith) shown_within) ∙ sym (rest_is out)

-- no more of a part are followed than it has
pub part_most : {arcs : List ℕ} {s t n : ℕ} (size : ℕ) (table : List ℕ) (base i k : ℕ) → Goes arcs s (standing size table base i k) t n → n ≤ k
part_most size table base i k G = omega (arith, goes_most G, standing_length size table base i k)

-- ALL PARTS, and without the last where nothing is behind what is taken out
module _ {contents rows : List ℕ} {shown cut kept word into : ℕ} (A : ContentsAt contents shown) (K : FrontEnds contents shown cut kept) (W : WordWithin rows word into) (out : ℕ) where
  module _ {arcs : List ℕ} {s t₁ t₂ n₁ n₂ : ℕ} (G : Goes arcs s (standing contents_least contents 0 0 kept) t₁ n₁) (H : Goes arcs t₁ (standing most_word rows word 0 into) t₂ n₂) where
    both : Goes arcs s (front_of cut (take shown contents) ++ word_over rows word into) t₂ (n₁ + n₂)
    both = goes_on (goes_through G (front_standing A K)) (goes_through H (word_standing rows word into W))

    pub both_most : n₁ + n₂ ≤ shown + most_word
    both_most =
        omega (arith, part_most contents_least contents 0 0 kept G, kept_most A K, part_most most_word rows word 0 into H, W.most)

    pub far_without : shown - kept ≤ out → n₁ + n₂ ≡ far_arcs arcs (reached_of s) (exchanged cut out (word_over rows word into) (take shown contents))
    far_without h =
        both.far
        ∙ ap (far_arcs arcs (reached_of s))
        (ap (λ l. front_of cut (take shown contents) ++ l) (sym (append-nil (word_over rows word into)) ∙ ap (λ l. word_over rows word into ++ l) (sym (rest_none A K out h))))

    module _ (h : kept + out < shown) {t₃ n₃ : ℕ} (I : Goes arcs t₂ (standing contents_least contents 0 (kept + out) (shown - (kept + out))) t₃ n₃) where
      pub far_with : n₁ + n₂ + n₃ ≡ far_arcs arcs (reached_of s) (exchanged cut out (word_over rows word into) (take shown contents))
      far_with =
          (goes_on both (goes_through I (rest_standing A K out h))).far
          ∙ ap (far_arcs arcs (reached_of s)) (append_assoc (front_of cut (take shown contents)) (word_over rows word into) (drop out (rest_of cut (take shown contents))))
