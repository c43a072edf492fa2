-- How far a word is followed: the length of its longest beginning that leads somewhere; and word after word.
use Rattle.std.specs.Prelude.{◌≡◌, refl, ◌↔◌, ℕ, suc, ◌+◌, ◌≤◌, length}
use Rattle.std.proofs.Common.{sym, ap, subst, ◌∙◌, zero-le, arith, length-append}
use Rattle.std.proofs.Math.Option.{Option, none, some}
use mathlib.Core.List.{List, [], ◌∷◌, ◌++◌, head-eq_of_cons-eq, tail-eq_of_cons-eq}
use Rattle.theory_model.specs.Diagram.{Pool, along, follow, one_more, how_far, Farthest}
use Rattle.theory_model.specs.Laws.Basics.{none_not_some}
use Rattle.theory_model.specs.Laws.Walks.{follow_none}

module _ (P : Pool) where
  -- from nowhere no message is taken
  pub far_none : (u : List ℕ) → how_far P none u ≡ 0
  far_none [] = refl
  far_none (m ∷ u) = refl

  -- one message more, or none at all
  pub far_on : (o : Option ℕ) (m : ℕ) (u : List ℕ) {s : ℕ} → along P o m ≡ some s → how_far P o (m ∷ u) ≡ suc (how_far P (some s) u)
  far_on o m u e = ap (λ x. one_more x (how_far P x u)) e

  pub far_stops : (o : Option ℕ) (m : ℕ) (u : List ℕ) → along P o m ≡ none → how_far P o (m ∷ u) ≡ 0
  far_stops o m u e = ap (λ x. one_more x (how_far P x u)) e

  -- a word that leads somewhere is followed whole
  pub far_whole : (o : Option ℕ) (u : List ℕ) {s : ℕ} → follow P o u ≡ some s → how_far P o u ≡ length u
  far_whole o [] e = refl
  far_whole o (m ∷ u) {s} e = by_next (along P o m) refl (λ t. far_whole (some t) u)
    where
      by_next : (x : Option ℕ) → along P o m ≡ x → ((t : ℕ) → follow P (some t) u ≡ some s → how_far P (some t) u ≡ length u) → how_far P o (m ∷ u) ≡ suc (length u)
      by_next none f next = none_not_some (ap (λ x. follow P x u) f ∙ follow_none P u) e
      by_next (some t) f next = far_on o m u f ∙ ap suc (next t (sym (ap (λ x. follow P x u) f) ∙ e))

  -- WORD AFTER WORD: where the first leads somewhere, the other goes on from there; else the first decides
  pub far_append : (o : Option ℕ) (u v : List ℕ) {s : ℕ} → follow P o u ≡ some s → how_far P o (u ++ v) ≡ length u + how_far P (some s) v
  far_append o [] v e = ap (λ x. how_far P x v) e ∙ omega arith
  far_append o (m ∷ u) v {s} e = by_next (along P o m) refl (λ t. far_append (some t) u v)
    where
      by_next : (x : Option ℕ) → along P o m ≡ x → ((t : ℕ) → follow P (some t) u ≡ some s → how_far P (some t) (u ++ v) ≡ length u + how_far P (some s) v)
          → how_far P o (m ∷ (u ++ v)) ≡ suc (length u) + how_far P (some s) v
      by_next none f next = none_not_some (ap (λ x. follow P x u) f ∙ follow_none P u) e
      by_next (some t) f next = far_on o m (u ++ v) f ∙ ap suc (next t (sym (ap (λ x. follow P x u) f) ∙ e)) ∙ omega arith

  pub far_before : (o : Option ℕ) (u v : List ℕ) → follow P o u ≡ none → how_far P o (u ++ v) ≡ how_far P o u
  far_before o [] v e = ap (λ x. how_far P x v) e ∙ far_none v
  far_before o (m ∷ u) v e = by_next (along P o m) refl (λ t. far_before (some t) u v)
    where
      by_next : (x : Option ℕ) → along P o m ≡ x → ((t : ℕ) → follow P (some t) u ≡ none → how_far P (some t) (u ++ v) ≡ how_far P (some t) u)
          → how_far P o (m ∷ (u ++ v)) ≡ how_far P o (m ∷ u)
      by_next none f next = far_stops o m (u ++ v) f ∙ sym (far_stops o m u f)
      by_next (some t) f next = far_on o m (u ++ v) f ∙ ap suc (next t (sym (ap (λ x. follow P x u) f) ∙ e)) ∙ sym (far_on o m u f)

  -- WHAT IT MEANS
  module _ (s m : ℕ) (u : List ℕ) where
    starts_nowhere : P.arc s m ≡ none → (v w : List ℕ) (s' : ℕ) → m ∷ u ≡ v ++ w → follow P (some s) v ≡ some s' → length v ≤ 0
    starts_nowhere e [] w s' f g = zero-le
    starts_nowhere e (n ∷ v) w s' f g =
        none_not_some (ap (λ k. follow P (P.arc s k) v) (sym (head-eq_of_cons-eq f)) ∙ ap (λ x. follow P x v) e ∙ follow_none P v) g

    goes_on : (t n : ℕ) → P.arc s m ≡ some t → Farthest P t u n → (v w : List ℕ) (s' : ℕ) → m ∷ u ≡ v ++ w → follow P (some s) v ≡ some s' → length v ≤ suc n
    goes_on t n e F [] w s' f g = zero-le
    goes_on t n e F (k ∷ v) w s' f g =
        let less = F.longest v w s' (tail-eq_of_cons-eq f) (sym (ap (λ k. follow P (P.arc s k) v) (sym (head-eq_of_cons-eq f)) ∙ ap (λ x. follow P x v) e) ∙ g) in
        omega arith

  pub far_means : (s : ℕ) (u : List ℕ) → Farthest P s u (how_far P (some s) u)
  far_means s [] = record { beginning = []; rest = []; whole = refl; long = refl; leads = (s, refl); longest = only }
    where
      only : (v w : List ℕ) (s' : ℕ) → [] ≡ v ++ w → follow P (some s) v ≡ some s' → length v ≤ 0
      only v w s' e f = let none_left : length (v ++ w) ≡ 0 = ap length (sym e) in omega (arith, length-append v w)
  far_means s (m ∷ u) = by_next (P.arc s m) refl (λ t. far_means t u)
    where
      by_next : (x : Option ℕ) → P.arc s m ≡ x → ((t : ℕ) → Farthest P t u (how_far P (some t) u)) → Farthest P s (m ∷ u) (how_far P (some s) (m ∷ u))
      by_next none e next =
          subst (Farthest P s (m ∷ u)) (sym (far_stops (some s) m u e))
          (record { beginning = []; rest = m ∷ u; whole = refl; long = refl; leads = (s, refl); longest = starts_nowhere s m u e })
      by_next (some t) e next =
          let F = next t in
          let (s', l) = F.leads in
          subst (Farthest P s (m ∷ u)) (sym (far_on (some s) m u e))
          (record {
            beginning = m ∷ F.beginning;
            rest = F.rest;
            whole = ap (λ l. m ∷ l) F.whole;
            long = ap suc F.long;
            leads = (s', ap (λ x. follow P x F.beginning) e ∙ l);
            longest = goes_on s m u t (how_far P (some t) u) e F;
          })

  one_farthest : (s : ℕ) (u : List ℕ) (n k : ℕ) → Farthest P s u n → Farthest P s u k → n ≤ k
  one_farthest s u n k F G =
      let (s', l) = F.leads in
      let below = G.longest F.beginning F.rest s' F.whole l in
      omega (arith, F.long)

  pub far_is : (s : ℕ) (u : List ℕ) (n : ℕ) → (how_far P (some s) u ≡ n) ↔ Farthest P s u n
  far_is s u n = (
    (λ e. subst (Farthest P s u) e (far_means s u)),
    (λ F.
        let below = one_farthest s u n (how_far P (some s) u) F (far_means s u) in
        let above = one_farthest s u (how_far P (some s) u) n (far_means s u) F in
        omega arith),
  )

  -- it is the whole length exactly if the word leads somewhere
  pub whole_far : (s : ℕ) (u : List ℕ) → how_far P (some s) u ≡ length u → (s' : ℕ) × (follow P (some s) u ≡ some s')
  whole_far s [] e = (s, refl)
  whole_far s (m ∷ u) e = by_next (P.arc s m) refl (λ t. whole_far t u)
    where
      by_next : (x : Option ℕ) → P.arc s m ≡ x → ((t : ℕ) → how_far P (some t) u ≡ length u → (s' : ℕ) × (follow P (some t) u ≡ some s'))
          → (s' : ℕ) × (follow P (P.arc s m) u ≡ some s')
      by_next none f next = absurd (omega (arith, far_stops (some s) m u f))
      by_next (some t) f next =
          let (s', l) = next t (omega (arith, far_on (some s) m u f)) in
          (s', ap (λ x. follow P x u) f ∙ l)
