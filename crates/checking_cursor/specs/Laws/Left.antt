-- The items from a place on, one after the other: the loops over control states, transitions and bad entries go by these laws.
use Rattle.std.specs.Prelude.{ℕ, zero, suc, ◌+◌, ◌-◌, ◌≤◌, ◌<◌, ◌≡◌, refl, true, false, List, [], ◌∷◌, ◌++◌, length, drop}
use Rattle.std.proofs.Common.{sym, ap, ◌∙◌, append_assoc, arith, add-one, drop_of_length-le}
use Rattle.std.proofs.Math.Option.{some}
use Rattle.std.proofs.Math.Nat.{sub-zero}
use Rattle.std.proofs.Math.ListN.{get_elem?}
use Rattle.theory_model.specs.Model.{Transition, Model, controls, is_at}
use Rattle.theory_model.specs.Session.{Session}
use Rattle.theory_model.specs.Verdict.{start, step, entry, steps_at, steps_from, entries_from, items}
use Rattle.theory_model.specs.Laws.Basics.{by_test, none_not_some}
use Rattle.theory_model.specs.Laws.Items.{step_here, step_not_here}
use Rattle.checking_cursor.specs.Left.{steps_on, steps_left, from_step, from_entry}

drop_here : {A : Type 0} (l : List A) (i : ℕ) {x : A} → get_elem? l i ≡ some x → drop i l ≡ x ∷ drop (suc i) l
drop_here [] i e = none_not_some refl e
drop_here (y ∷ l) zero {x} e = let same : y ≡ x = cc in ap (λ z. z ∷ l) same
drop_here (y ∷ l) (suc i) e = drop_here l i e

-- THE STEPS OF ONE CONTROL STATE from transition i on
module _ (M : Model) (c i : ℕ) where
  module _ {τ : Transition} (e : get_elem? M.transitions i ≡ some τ) where
    -- where the machine is in the from-state, and where not
    pub steps_here : is_at M c τ ≡ true → steps_on M c i ≡ step c i τ ∷ steps_on M c (i + 1)
    steps_here a =
        ap (steps_at M c i) (drop_here M.transitions i e)
        ∙ step_here M c i τ (drop (suc i) M.transitions) a
        ∙ ap (λ n. step c i τ ∷ steps_on M c n) (sym (add-one i))

    pub steps_over : is_at M c τ ≡ false → steps_on M c i ≡ steps_on M c (i + 1)
    steps_over a =
        ap (steps_at M c i) (drop_here M.transitions i e)
        ∙ step_not_here M c i τ (drop (suc i) M.transitions) a
        ∙ ap (steps_on M c) (sym (add-one i))

    -- either way: what this transition gives, and the rest
    pub steps_split : steps_on M c i ≡ steps_at M c i (τ ∷ []) ++ steps_on M c (i + 1)
    steps_split =
        by_test (is_at M c τ)
        (λ a. steps_here a ∙ sym (ap (λ l. l ++ steps_on M c (i + 1)) (step_here M c i τ [] a)))
        (λ a. steps_over a ∙ sym (ap (λ l. l ++ steps_on M c (i + 1)) (step_not_here M c i τ [] a)))

  pub steps_none : length M.transitions ≤ i → steps_on M c i ≡ []
  steps_none h = ap (steps_at M c i) (drop_of_length-le M.transitions h)

-- THE STEPS OF ALL CONTROL STATES from c on
left_from : (M : Model) (c n : ℕ) → steps_left M c 0 n ≡ steps_from M c n
left_from M c zero = refl
left_from M c (suc n) = refl

module _ (M : Model) (c i : ℕ) where
  pub controls_split : c < controls M → steps_left M c i (controls M - c) ≡ steps_on M c i ++ steps_left M (c + 1) 0 (controls M - (c + 1))
  controls_split h =
      let one : controls M - c ≡ suc (controls M - (c + 1)) = omega arith in
      ap (steps_left M c i) one
      ∙ ap (λ n. steps_on M c i ++ steps_from M n (controls M - (c + 1))) (sym (add-one c))
      ∙ ap (λ l. steps_on M c i ++ l) (sym (left_from M (c + 1) (controls M - (c + 1))))

  pub controls_none : controls M ≤ c → steps_left M c i (controls M - c) ≡ []
  controls_none h = let none : controls M - c ≡ 0 = omega arith in ap (steps_left M c i) none

pub controls_all : (M : Model) → steps_left M 0 0 (controls M - 0) ≡ steps_from M 0 (controls M)
controls_all M = left_from M 0 (controls M - 0) ∙ ap (steps_from M 0) (sub-zero (controls M))

-- ALL ITEMS from a place on
module _ (S : Session) where
  pub items_are : items S ≡ start ∷ from_step S 0 0
  items_are = ap (λ l. start ∷ (l ++ entries_from 0 S.bad)) (sym (controls_all S.model))

  pub from_split : (c i : ℕ) → c < controls S.model → from_step S c i ≡ steps_on S.model c i ++ from_step S (c + 1) 0
  from_split c i h =
      ap (λ l. l ++ entries_from 0 S.bad) (controls_split S.model c i h)
      ∙ append_assoc (steps_on S.model c i) (steps_left S.model (c + 1) 0 (controls S.model - (c + 1))) (entries_from 0 S.bad)

  pub from_none : (c i : ℕ) → controls S.model ≤ c → from_step S c i ≡ from_entry S 0
  from_none c i h = ap (λ l. l ++ entries_from 0 S.bad) (controls_none S.model c i h)

  -- THE BAD ENTRIES from b on
  pub entry_here : (b : ℕ) {e : ℕ × ℕ} → get_elem? S.bad b ≡ some e → from_entry S b ≡ entry b e ∷ from_entry S (b + 1)
  entry_here b {e} g = ap (entries_from b) (drop_here S.bad b g) ∙ ap (λ n. entry b e ∷ from_entry S n) (sym (add-one b))

  pub entry_none : (b : ℕ) → length S.bad ≤ b → from_entry S b ≡ []
  entry_none b h = ap (entries_from b) (drop_of_length-le S.bad h)
