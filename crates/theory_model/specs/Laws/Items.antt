-- What is an item, said without the list: every step from a control state where the machine is in the transition's from-state, and every bad entry.
use Rattle.std.specs.Prelude.{◌≡◌, refl, true, false, List, [], ◌∷◌, ℕ, zero, suc, ◌+◌, ◌<◌}
use Rattle.std.proofs.Common.{sym, ap, subst, ◌∙◌, ⊎_elim, arith, add-zero, zero-add, add-suc, suc-add}
use Rattle.std.proofs.Math.Option.{some}
use mathlib.Core.List.Memᴰ
use Rattle.std.proofs.Math.ListN.{get_elem?}
use Rattle.theory_exploration.specs.Mem.{Mem, here, there}
use Rattle.theory_model.specs.Model.{Transition, Model, controls, is_at}
use Rattle.theory_model.specs.Session.{Session}
use Rattle.theory_model.specs.Verdict.{Item, start, step, entry, steps_at, steps_from, entries_from, items}
use Rattle.theory_model.specs.Laws.Basics.{by_test, none_not_some}

-- a member stands at some place, and what stands at a place is a member
module _ {A : Type 0} where
  pub place_of : {x : A} {l : List A} → Mem x l → (i : ℕ) × (get_elem? l i ≡ some x)
  place_of (here e) = (0, ap some (sym e))
  place_of (there m) = let (i, p) = place_of m in (suc i, p)

  pub at_place : {x : A} (l : List A) (i : ℕ) → get_elem? l i ≡ some x → Mem x l
  at_place [] i e = none_not_some refl e
  at_place {x} (y ∷ l) zero e = let same : x ≡ y = cc in here same
  at_place (y ∷ l) (suc i) e = there (at_place l i e)

module _ (S : Session) where
  abbrev pub IsItem : Item → Type 0
  IsItem start = Unit {0}
  IsItem (step c t τ) = (c < controls S.model) × (get_elem? S.model.transitions t ≡ some τ) × (is_at S.model c τ ≡ true)
  IsItem (entry b e) = get_elem? S.bad b ≡ some e

module _ (M : Model) where
  -- a step of control state c whose transition stands j places from number t on
  abbrev StepAt : ℕ → ℕ → List Transition → Item → Type 0
  StepAt c t τs i = (j : ℕ) × (τ : Transition) × (i ≡ step c (t + j) τ) × (get_elem? τs j ≡ some τ) × (is_at M c τ ≡ true)

  at_later : (c t : ℕ) (σ : Transition) (τs : List Transition) (i : Item) → StepAt c (suc t) τs i → StepAt c t (σ ∷ τs) i
  at_later c t σ τs i (j, τ, e, g, a) = (suc j, τ, e ∙ ap (λ n. step c n τ) (suc-add t j ∙ sym (add-suc t j)), g, a)

  pub step_here : (c t : ℕ) (σ : Transition) (τs : List Transition) → is_at M c σ ≡ true → steps_at M c t (σ ∷ τs) ≡ step c t σ ∷ steps_at M c (suc t) τs
  step_here c t σ τs a = rw (a, steps_at)

  pub step_not_here : (c t : ℕ) (σ : Transition) (τs : List Transition) → is_at M c σ ≡ false → steps_at M c t (σ ∷ τs) ≡ steps_at M c (suc t) τs
  step_not_here c t σ τs a = rw (a, steps_at)

  steps_at_lem : (c t : ℕ) (τs : List Transition) (i : Item) → Mem i (steps_at M c t τs) → StepAt c t τs i
  steps_at_lem c t [] i m = absurd (Memᴰ.not-nil m)
  steps_at_lem c t (σ ∷ τs) i m =
      by_test (is_at M c σ)
      (λ a. ⊎_elim
      (λ (e : i ≡ step c t σ). (0, σ, e ∙ ap (λ n. step c n σ) (sym (add-zero t)), refl, a))
      (λ m'. at_later c t σ τs i (steps_at_lem c (suc t) τs i m'))
      (Memᴰ.cases_cons (subst (Mem i) (step_here c t σ τs a) m)))
      (λ a. at_later c t σ τs i (steps_at_lem c (suc t) τs i (subst (Mem i) (step_not_here c t σ τs a) m)))

  at_steps : (c t : ℕ) (τs : List Transition) (j : ℕ) (τ : Transition) → get_elem? τs j ≡ some τ → is_at M c τ ≡ true → Mem (step c (t + j) τ) (steps_at M c t τs)
  at_steps c t [] j τ g a = none_not_some refl g
  at_steps c t (σ ∷ τs) zero τ g a =
      let same : σ ≡ τ = cc in
      subst (Mem _) (sym (step_here c t σ τs (ap (is_at M c) same ∙ a))) (here (ap (λ n. step c n τ) (add-zero t) ∙ ap (step c t) (sym same)))
  at_steps c t (σ ∷ τs) (suc j) τ g a =
      let later : Mem (step c (t + suc j) τ) (steps_at M c (suc t) τs) =
      Memᴰ.cast (ap (λ n. step c n τ) (add-suc t j ∙ sym (suc-add t j))) (at_steps c (suc t) τs j τ g a) in
      by_test (is_at M c σ)
      (λ b. subst (Mem _) (sym (step_here c t σ τs b)) (there later))
      (λ b. subst (Mem _) (sym (step_not_here c t σ τs b)) later)

  steps_from_lem : (c n : ℕ) (i : Item) → Mem i (steps_from M c n) → (j : ℕ) × (j < n) × Mem i (steps_at M (c + j) 0 M.transitions)
  steps_from_lem c zero i m = absurd (Memᴰ.not-nil m)
  steps_from_lem c (suc n) i m =
      ⊎_elim
      (λ h. (0, omega arith, subst (λ d. Mem i (steps_at M d 0 M.transitions)) (sym (add-zero c)) h))
      (λ h. let (j, l, k) = steps_from_lem (suc c) n i h in (suc j, omega arith, subst (λ d. Mem i (steps_at M d 0 M.transitions)) (suc-add c j ∙ sym (add-suc c j)) k))
      (Memᴰ.append_cases (steps_at M c 0 M.transitions) m)

  from_steps : (c n : ℕ) (i : Item) (j : ℕ) → j < n → Mem i (steps_at M (c + j) 0 M.transitions) → Mem i (steps_from M c n)
  from_steps c zero i j l m = absurd (omega arith)
  from_steps c (suc n) i zero l m = Memᴰ.append_left _ (subst (λ d. Mem i (steps_at M d 0 M.transitions)) (add-zero c) m)
  from_steps c (suc n) i (suc j) l m =
      Memᴰ.append_right (steps_at M c 0 M.transitions) (from_steps (suc c) n i j (omega arith) (subst (λ d. Mem i (steps_at M d 0 M.transitions)) (add-suc c j ∙ sym (suc-add c j)) m))

pub entries_from_lem : (b : ℕ) (es : List (ℕ × ℕ)) (i : Item) → Mem i (entries_from b es) → (j : ℕ) × (e : ℕ × ℕ) × (i ≡ entry (b + j) e) × (get_elem? es j ≡ some e)
entries_from_lem b [] i m = absurd (Memᴰ.not-nil m)
entries_from_lem b (e ∷ es) i (here p) = (0, e, p ∙ ap (λ n. entry n e) (sym (add-zero b)), refl)
entries_from_lem b (e ∷ es) i (there m) =
    let (j, e', p, g) = entries_from_lem (suc b) es i m in
    (suc j, e', p ∙ ap (λ n. entry n e') (suc-add b j ∙ sym (add-suc b j)), g)

from_entries : (b : ℕ) (es : List (ℕ × ℕ)) (j : ℕ) (e : ℕ × ℕ) → get_elem? es j ≡ some e → Mem (entry (b + j) e) (entries_from b es)
from_entries b [] j e g = none_not_some refl g
from_entries b (x ∷ es) zero e g = let same : e ≡ x = cc in here (ap (λ n. entry n e) (add-zero b) ∙ ap (entry b) same)
from_entries b (x ∷ es) (suc j) e g = there (Memᴰ.cast (ap (λ n. entry n e) (add-suc b j ∙ sym (suc-add b j))) (from_entries (suc b) es j e g))

module _ (S : Session) where
  pub item_is : (i : Item) → Mem i (items S) → IsItem S i
  item_is i (here e) = subst (IsItem S) (sym e) tt
  item_is i (there m) =
      ⊎_elim
      (λ h.
      let (c, l, k) = steps_from_lem S.model 0 (controls S.model) i h in
      let (t, τ, e, g, a) = steps_at_lem S.model (0 + c) 0 S.model.transitions i k in
      subst (IsItem S) (sym (e ∙ ap (λ n. step n (0 + t) τ) (zero-add c) ∙ ap (λ n. step c n τ) (zero-add t)))
      (l, g, subst (λ n. is_at S.model n τ ≡ true) (zero-add c) a))
      (λ h. let (b, e, p, g) = entries_from_lem 0 S.bad i h in subst (IsItem S) (sym (p ∙ ap (λ n. entry n e) (zero-add b))) g)
      (Memᴰ.append_cases (steps_from S.model 0 (controls S.model)) m)

  pub is_item : (i : Item) → IsItem S i → Mem i (items S)
  is_item start h = here refl
  is_item (step c t τ) (l, g, a) =
      there (Memᴰ.append_left _ (from_steps S.model 0 (controls S.model) (step c t τ) c l
      (Memᴰ.cast (ap (λ n. step c n τ) (sym (zero-add t)) ∙ ap (λ n. step n (0 + t) τ) (sym (zero-add c)))
      (at_steps S.model (0 + c) 0 S.model.transitions t τ g (subst (λ n. is_at S.model n τ ≡ true) (sym (zero-add c)) a)))))
  is_item (entry b e) g =
      there (Memᴰ.append_right (steps_from S.model 0 (controls S.model)) (Memᴰ.cast (ap (λ n. entry n e) (sym (zero-add b))) (from_entries 0 S.bad b e g)))
