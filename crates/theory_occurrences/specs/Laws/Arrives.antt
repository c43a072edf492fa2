-- A word leads to the set of the occurrences that it can end on, and is one of the tree's exactly if a word may end there.
use Rattle.std.specs.Prelude.{◌≡◌, refl, ◌↔◌, Bool, true, false, cond, not, ℕ, ◌^◌, ◌≤◌, ◌<◌, ltb, eqb, get_or}
use Rattle.std.proofs.Common.{sym, ap, subst, ◌∙◌, arith, ltb-false, eqb-true, ne_eqb}
use mathlib.Core.Logic.Iff
use Rattle.std.proofs.Math.Option.{Option, none, some, some-injective}
use mathlib.Core.List.{List, [], ◌∷◌, ◌++◌, map, map-eq-nil_iff, reverse, reverse-cons, reverse-reverse, cons-ne-nil, concat-ne-nil}
use Rattle.std.proofs.lemmas.Bool.{eqb-false, not-true}
use Rattle.theory_exploration.specs.Explore.{along, reach}
use Rattle.theory_grammar.specs.Offends.{most_occurrences, message_limit}
use Rattle.theory_grammar.specs.Tree.{Tree, letters, size, Word, Marked}
use Rattle.theory_occurrences.specs.Sets.{has, meet, marked}
use Rattle.theory_occurrences.specs.Positions.{Automaton, automaton, last, next_set, after, move, ends}
use Rattle.theory_occurrences.specs.EndsOn.{EndsOn}
use Rattle.theory_occurrences.specs.Laws.Sets.{in_meet, some_member, member_some, meet_low}
use Rattle.theory_occurrences.specs.Laws.Tables.{has_gather, has_marked, marked_low}
use Rattle.theory_occurrences.specs.Laws.Rest.{Fits, first_within}
use Rattle.theory_occurrences.specs.Laws.Follows.{Follows, follows_within}
use Rattle.theory_occurrences.specs.Laws.Places.{skips_is, table_is}
use Rattle.theory_occurrences.specs.Laws.Letters.{Low, labels_are}
use Rattle.theory_occurrences.specs.Laws.Language.{word_is}
use Rattle.theory_occurrences.specs.Laws.EndsOn.{ends_on_none, ends_on_letter, ends_on_first, ends_on_next, ends_on_last, last_ends_on}

-- WHERE A WORD LEADS that is stored last letter first
abbrev pub arrives : Tree → List ℕ → Option ℕ
arrives t v = reach message_limit (move (automaton t)) 0 v

-- THE SET that a word leads to
pub record Node (t : Tree) (w : List ℕ) (x : ℕ) : Type 0 where
  pub not_empty : x ≡ 0 → ⊥
  pub low : x < 2 ^ most_occurrences
  pub members : (p : ℕ) → (has x p ≡ true) ↔ EndsOn t w p

module _ (t : Tree) (small : size t ≤ most_occurrences) (letters-low : Low t) where
  abbrev A : Automaton
  A = automaton t

  fits : Fits t 0
  fits = omega arith

  -- of what may come next, those with the message
  in_after : (y m q : ℕ) → (has (next_set A y) q ≡ true → q < size t)
      → (has (after A y m) q ≡ true) ↔ ((has (next_set A y) q ≡ true) × (get_or (letters t) q 0 ≡ m))
  in_after y m q within = (
    λ h.
        let (n, k) = (in_meet (next_set A y) (marked m A.label) q).0 h in
        (n, sym (labels_are t q small letters-low (within n)) ∙ ((has_marked m A.label q).0 k).1),
    λ (n, e).
        let l = within n in
        (in_meet (next_set A y) (marked m A.label) q).1 (n, (has_marked m A.label q).1 (omega arith, labels_are t q small letters-low l ∙ e)),
  )

  after_start : (m q : ℕ) → (has (after A 0 m) q ≡ true) ↔ EndsOn t (m ∷ []) q
  after_start m q =
      Iff.trans
      (in_after 0 m q (λ h. let w = first_within t 0 q fits h in omega arith))
      (Iff.symm (ends_on_first t fits m q))

  -- what follows a member
  in_next : (w : List ℕ) (y q : ℕ) → Node t w y → (has (next_set A y) q ≡ true) ↔ ((p : ℕ) × (has y p ≡ true) × Follows t 0 p q)
  in_next w y q n =
      rw (ne_eqb y 0 n.not_empty) (
        λ h. let (p, k, g) = (has_gather y A.follow q n.low).0 h in (p, k, (table_is t 0 p q fits).0 g),
        λ (p, k, g). (has_gather y A.follow q n.low).1 (p, k, (table_is t 0 p q fits).1 g),
      )

  after_set : (w : List ℕ) (y m q : ℕ) → Node t w y → (w ≡ [] → ⊥) → (has (after A y m) q ≡ true) ↔ EndsOn t (w ++ (m ∷ [])) q
  after_set w y m q n some_letter = (
    λ h.
        let (k, e) = (in_after y m q within).0 h in
        let (p, i, g) = (in_next w y q n).0 k in
        (ends_on_next t fits w m q some_letter).1 (p, (n.members p).0 i, g, e),
    λ h.
        let (p, x, g, e) = (ends_on_next t fits w m q some_letter).0 h in
        (in_after y m q within).1 ((in_next w y q n).1 (p, (n.members p).1 x, g), e),
  )
    where
      within : has (next_set A y) q ≡ true → q < size t
      within h = let (p, i, g) = (in_next w y q n).0 h in let k = follows_within t 0 p q fits g in omega arith

  -- ARRIVING somewhere or nowhere
  abbrev Arrived : List ℕ → Option ℕ → Type 0
  Arrived w none = (p : ℕ) → EndsOn t w p → ⊥
  Arrived w (some x) = Node t w x

  no_message_lem : (w : List ℕ) (m : ℕ) → message_limit ≤ m → (p : ℕ) → EndsOn t (w ++ (m ∷ [])) p → ⊥
  no_message_lem w m h p e = let (l, q) = ends_on_letter t fits w m p e in let k = letters-low p l in omega arith

  arrived_after : (w : List ℕ) (y m : ℕ) → ((q : ℕ) → (has (after A y m) q ≡ true) ↔ EndsOn t w q)
      → (message_limit ≤ m → (p : ℕ) → EndsOn t w p → ⊥) → Arrived w (along message_limit (move A) (some y) m)
  arrived_after w y m set high = by_letter (ltb m message_limit) refl
    where
      by_set : (b : Bool) → eqb (after A y m) 0 ≡ b → Arrived w (cond b none (some (after A y m)))
      by_set true e = λ p x. member_some (after A y m) p ((set p).1 x) (eqb-true (after A y m) 0 e)
      by_set false e =
          record {
            not_empty = eqb-false (after A y m) 0 e;
            low = meet_low most_occurrences (next_set A y) (marked m A.label) (marked_low m A.label);
            members = set;
          }

      by_letter : (b : Bool) → ltb m message_limit ≡ b → Arrived w (elim b [ true ↦ move A y m | false ↦ none ])
      by_letter true e = by_set (eqb (after A y m) 0) refl
      by_letter false e = high (ltb-false m message_limit e)

  arrived_next : (w : List ℕ) (o : Option ℕ) (m : ℕ) → (w ≡ [] → ⊥) → Arrived w o → Arrived (w ++ (m ∷ [])) (along message_limit (move A) o m)
  arrived_next w none m n h = λ q e. let (p, x, g, s) = (ends_on_next t fits w m q n).0 e in h p x
  arrived_next w (some y) m n h = arrived_after (w ++ (m ∷ [])) y m (λ q. after_set w y m q h n) (no_message_lem w m)

  arrived : (m : ℕ) (v : List ℕ) → Arrived (reverse (m ∷ v)) (arrives t (m ∷ v))
  arrived m [] = arrived_after (m ∷ []) 0 m (after_start m) (no_message_lem [] m)
  arrived m (n ∷ v) =
      let some_letter : reverse (n ∷ v) ≡ [] → ⊥ = rw (reverse-cons n v) (concat-ne-nil n (reverse v)) in
      rw (reverse-cons m (n ∷ v)) (arrived_next (reverse (n ∷ v)) (arrives t (n ∷ v)) m some_letter (arrived n v))

  -- the same for a word in reading order
  read_arrived : (w : List ℕ) → (w ≡ [] → ⊥) → Arrived w (arrives t (reverse w))
  read_arrived w n = by_stored (reverse w) refl
    where
      by_stored : (v : List ℕ) → reverse w ≡ v → Arrived w (arrives t v)
      by_stored [] e = absurd (n (sym (reverse-reverse w) ∙ ap reverse e))
      by_stored (m ∷ v) e = subst (λ u. Arrived u (arrives t (m ∷ v))) (sym (ap reverse e) ∙ reverse-reverse w) (arrived m v)

  -- THE LAWS, in reading order
  pub node_set : (w : List ℕ) → (w ≡ [] → ⊥) → (x : ℕ) → arrives t (reverse w) ≡ some x → Node t w x
  node_set w n x e = subst (Arrived w) e (read_arrived w n)

  pub node_none : (w : List ℕ) → arrives t (reverse w) ≡ none → (p : ℕ) → EndsOn t w p → ⊥
  node_none [] e = ends_on_none t fits
  node_none (m ∷ w) e = subst (Arrived (m ∷ w)) e (read_arrived (m ∷ w) (cons-ne-nil m w))

  pub start_alone : (w : List ℕ) → (arrives t (reverse w) ≡ some 0) ↔ (w ≡ [])
  start_alone w = (alone w, ap (λ u. arrives t (reverse u)))
    where
      alone : (w : List ℕ) → arrives t (reverse w) ≡ some 0 → w ≡ []
      alone [] e = refl
      alone (m ∷ w) e = absurd ((node_set (m ∷ w) (cons-ne-nil m w) 0 e).not_empty refl)

  -- a word may end at its set exactly if one of its occurrences is a last one
  ends_set : (w : List ℕ) (x : ℕ) → Node t w x → (ends A x ≡ true) ↔ ((p : ℕ) × EndsOn t w p × (has (last t 0) p ≡ true))
  ends_set w x n =
      rw (ne_eqb x 0 n.not_empty) (
        λ e.
            let (p, h) = some_member (meet x (last t 0)) (eqb-false (meet x (last t 0)) 0 (not-true (eqb (meet x (last t 0)) 0) e)) in
            let (i, l) = (in_meet x (last t 0) p).0 h in
            (p, (n.members p).0 i, l),
        λ (p, i, l).
            let h = (in_meet x (last t 0) p).1 ((n.members p).1 i, l) in
            ap not (ne_eqb (meet x (last t 0)) 0 (member_some (meet x (last t 0)) p h)),
      )

  -- THE TREE'S WORDS lead to where a word may end
  abbrev Accepted : List ℕ → Type 0
  Accepted w = (x : ℕ) × (arrives t (reverse w) ≡ some x) × (ends A x ≡ true)

  empty_accepted : Word t [] ↔ Accepted []
  empty_accepted = (
    λ h.
        let (l, d, e) = (word_is t []).0 h in
        (0, refl, (skips_is t 0).0 (subst (Marked t 0) ((map-eq-nil_iff (λ (q : ℕ). get_or (letters t) q 0) {l = l}).0 e) d)),
    λ (x, e, h).
        let start : 0 ≡ x = some-injective 0 x e in
        (word_is t []).1 ([], (skips_is t 0).1 (ap (ends A) start ∙ h), refl),
  )

  word_accepted : (w : List ℕ) → (w ≡ [] → ⊥) → Word t w ↔ Accepted w
  word_accepted w n = (λ h. to ((word_is t w).0 h) (arrives t (reverse w)) refl, from)
    where
      to : (l : List ℕ) × Marked t 0 l × (map (λ (q : ℕ). get_or (letters t) q 0) l ≡ w) → (o : Option ℕ) → arrives t (reverse w) ≡ o → Accepted w
      to (l, d, s) none e = let (p, i, h) = last_ends_on t fits w n l d s in absurd (node_none w e p i)
      to (l, d, s) (some x) e = (x, e, (ends_set w x (node_set w n x e)).1 (last_ends_on t fits w n l d s))

      from : Accepted w → Word t w
      from (x, e, h) =
          let (p, i, l) = (ends_set w x (node_set w n x e)).0 h in
          (word_is t w).1 (ends_on_last t fits w p i l)

  pub language : (w : List ℕ) → Word t w ↔ ((x : ℕ) × (arrives t (reverse w) ≡ some x) × (ends (automaton t) x ≡ true))
  language [] = empty_accepted
  language (m ∷ w) = word_accepted (m ∷ w) (cons-ne-nil m w)

  -- THE SAME of words that are stored last letter first
  pub stored_node_set : (v : List ℕ) → (v ≡ [] → ⊥) → (x : ℕ) → arrives t v ≡ some x → Node t (reverse v) x
  stored_node_set v n x e =
      node_set (reverse v) (λ z. n (sym (reverse-reverse v) ∙ ap reverse z)) x (ap (arrives t) (reverse-reverse v) ∙ e)

  pub stored_node_none : (v : List ℕ) → arrives t v ≡ none → (p : ℕ) → EndsOn t (reverse v) p → ⊥
  stored_node_none v e = node_none (reverse v) (ap (arrives t) (reverse-reverse v) ∙ e)

  pub stored_start_alone : (v : List ℕ) → (arrives t v ≡ some 0) ↔ (v ≡ [])
  stored_start_alone v =
      (λ e. sym (reverse-reverse v) ∙ ap reverse ((start_alone (reverse v)).0 (ap (arrives t) (reverse-reverse v) ∙ e)), ap (arrives t))

  pub stored_language : (v : List ℕ) → Word t (reverse v) ↔ ((x : ℕ) × (arrives t v ≡ some x) × (ends (automaton t) x ≡ true))
  stored_language v = rw (reverse-reverse v) at (language (reverse v))
