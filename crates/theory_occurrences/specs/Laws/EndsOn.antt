-- Which occurrences a word can end on, a letter at a time.
use Rattle.std.specs.Prelude.{◌≡◌, ◌↔◌, ◌⊎◌, true, ℕ, ◌<◌, get_or}
use Rattle.std.proofs.Common.{sym, ap, ap₂, subst, ◌∙◌, ⊎_elim, arith}
use Rattle.std.proofs.Math.Logic.{⊎_map}
use mathlib.Core.List.{List, [], ◌∷◌, ◌++◌, map, map-append, map-eq-nil_iff, reverse, reverse-append, reverse-reverse, head-eq_of_cons-eq, tail-eq_of_cons-eq, concat-ne-nil, concat-eq-append, eq-nil-or-concat}
use Rattle.std.proofs.Math.Seq.{append_snoc}
use Rattle.theory_grammar.specs.Tree.{Tree, letters, size, Marked}
use Rattle.theory_occurrences.specs.Sets.{has}
use Rattle.theory_occurrences.specs.Positions.{first, last}
use Rattle.theory_occurrences.specs.EndsOn.{EndsOn}
use Rattle.theory_occurrences.specs.Laws.Rest.{Fits, rest_within, last_rest, rest_last}
use Rattle.theory_occurrences.specs.Laws.Follows.{Follows, follows_within, rest_follow, follow_rest}
use Rattle.theory_occurrences.specs.Laws.Places.{marked_rest, marked_exchange, some_rest, first_is}

-- LISTS from their end
snoc_injective : (u v : List ℕ) (x y : ℕ) → u ++ (x ∷ []) ≡ v ++ (y ∷ []) → (u ≡ v) × (x ≡ y)
snoc_injective u v x y e =
    let turned : x ∷ reverse u ≡ y ∷ reverse v = sym (reverse-append u (x ∷ [])) ∙ ap reverse e ∙ reverse-append v (y ∷ []) in
    (sym (reverse-reverse u) ∙ ap reverse (tail-eq_of_cons-eq turned) ∙ reverse-reverse v, head-eq_of_cons-eq turned)

last_of : (u : List ℕ) → (u ≡ []) ⊎ ((v : List ℕ) × (p : ℕ) × (u ≡ v ++ (p ∷ [])))
last_of u = ⊎_map (λ e. e) (λ (v, p, e). (v, p, e ∙ concat-eq-append v p)) (eq-nil-or-concat u)

module _ (t : Tree) (fits : Fits t 0) where
  abbrev message : ℕ → ℕ
  message q = get_or (letters t) q 0

  pub ends_on_none : (p : ℕ) → EndsOn t [] p → ⊥
  ends_on_none p e = concat-ne-nil (message p) (map message e.before) (sym (map-append message e.before (p ∷ [])) ∙ e.spelled)

  spelled_parts : (u : List ℕ) (p : ℕ) (w : List ℕ) (m : ℕ) → map message (u ++ (p ∷ [])) ≡ w ++ (m ∷ []) → (map message u ≡ w) × (message p ≡ m)
  spelled_parts u p w m e = snoc_injective (map message u) w (message p) m (sym (map-append message u (p ∷ [])) ∙ e)

  parts_spelled : (u : List ℕ) (p : ℕ) (w : List ℕ) (m : ℕ) → map message u ≡ w → message p ≡ m → map message (u ++ (p ∷ [])) ≡ w ++ (m ∷ [])
  parts_spelled u p w m e h = map-append message u (p ∷ []) ∙ ap₂ (λ v n. v ++ (n ∷ [])) e h

  -- its last letter is the occurrence's message
  pub ends_on_letter : (w : List ℕ) (m p : ℕ) → EndsOn t (w ++ (m ∷ [])) p → (p < size t) × (message p ≡ m)
  ends_on_letter w m p e =
      let r = rest_within t 0 p e.behind (marked_rest t 0 e.before p e.behind fits e.marked) in
      (omega arith, (spelled_parts e.before p w m e.spelled).1)

  pub ends_on_first : (m p : ℕ) → EndsOn t (m ∷ []) p ↔ ((has (first t 0) p ≡ true) × (message p ≡ m))
  ends_on_first m p = (to, from)
    where
      to : EndsOn t (m ∷ []) p → (has (first t 0) p ≡ true) × (message p ≡ m)
      to e =
          let (n, h) = spelled_parts e.before p [] m e.spelled in
          let d : Marked t 0 (p ∷ e.behind) = subst (λ u. Marked t 0 (u ++ (p ∷ e.behind))) ((map-eq-nil_iff message {l = e.before}).0 n) e.marked in
          ((first_is t 0 p fits).0 (e.behind, d), h)

      from : (has (first t 0) p ≡ true) × (message p ≡ m) → EndsOn t (m ∷ []) p
      from (f, h) =
          let (l, d) = (first_is t 0 p fits).1 f in
          record { before = []; behind = l; marked = d; spelled = ap (λ n. n ∷ []) h }

  -- one letter more goes to what may follow
  pub ends_on_next : (w : List ℕ) (m q : ℕ) → (w ≡ [] → ⊥)
      → EndsOn t (w ++ (m ∷ [])) q ↔ ((p : ℕ) × EndsOn t w p × Follows t 0 p q × (message q ≡ m))
  ends_on_next w m q n = (to, from)
    where
      to : EndsOn t (w ++ (m ∷ [])) q → (p : ℕ) × EndsOn t w p × Follows t 0 p q × (message q ≡ m)
      to e =
          let (s, h) = spelled_parts e.before q w m e.spelled in
          ⊎_elim
          (λ z. absurd (n (sym s ∙ ap (map message) z)))
          (λ (v, p, z).
          let d : Marked t 0 (v ++ (p ∷ q ∷ e.behind)) = rw (z, append_snoc v p (q ∷ e.behind)) at e.marked in (
            p,
            record { before = v; behind = q ∷ e.behind; marked = d; spelled = sym (ap (map message) z) ∙ s },
            (rest_follow t 0 p q e.behind fits (marked_rest t 0 v p (q ∷ e.behind) fits d)).0,
            h,
          ))
          (last_of e.before)

      from : (p : ℕ) × EndsOn t w p × Follows t 0 p q × (message q ≡ m) → EndsOn t (w ++ (m ∷ [])) q
      from (p, e, g, h) =
          let (l, r) = some_rest t 0 q (follows_within t 0 p q fits g) in
          let d = marked_exchange t 0 e.before p e.behind (q ∷ l) fits e.marked (follow_rest t 0 p q l fits g r) in
          record {
            before = e.before ++ (p ∷ []);
            behind = l;
            marked = rw (append_snoc e.before p (q ∷ l)) d;
            spelled = parts_spelled (e.before ++ (p ∷ [])) q w m e.spelled h;
          }

  -- a word of the tree, but for the empty one, is one that can end on a last occurrence
  pub ends_on_last : (w : List ℕ) (p : ℕ) → EndsOn t w p → has (last t 0) p ≡ true
      → (l : List ℕ) × Marked t 0 l × (map message l ≡ w)
  ends_on_last w p e h =
      (e.before ++ (p ∷ []), marked_exchange t 0 e.before p e.behind [] fits e.marked (last_rest t 0 p fits h), e.spelled)

  pub last_ends_on : (w : List ℕ) → (w ≡ [] → ⊥) → (l : List ℕ) → Marked t 0 l → map message l ≡ w
      → (p : ℕ) × EndsOn t w p × (has (last t 0) p ≡ true)
  last_ends_on w n l d s =
      ⊎_elim
      (λ z. absurd (n (sym s ∙ ap (map message) z)))
      (λ (v, p, z).
      let d' : Marked t 0 (v ++ (p ∷ [])) = subst (Marked t 0) z d in
      (p, record { before = v; behind = []; marked = d'; spelled = sym (ap (map message) z) ∙ s }, rest_last t 0 p fits (marked_rest t 0 v p [] fits d')))
      (last_of l)
