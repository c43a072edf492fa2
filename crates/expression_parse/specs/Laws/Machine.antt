-- The parse at a place of a text: one step, where it stops, states that the next sign does not tell apart, and what spaces and digits do.
use Rattle.std.specs.Prelude.{◌≡◌, Bool, ltb, eqb, get_or, take_while, drop}
use Rattle.std.proofs.lemmas.List.Sums.{take_while-cons}
use Rattle.std.proofs.Math.Path.{refl, sym}
use Rattle.std.proofs.Common.{ap, ◌∙◌, drop_of_length-le, drop-drop, ltb-true, ltb-false, eqb-true}
use Rattle.std.proofs.Math.Bool.{true, false, cond}
use Rattle.std.proofs.Math.Option.{none, some}
use mathlib.Core.List.{List, [], ◌∷◌}
use Prim.Native.Nat.{ℕ, zero, suc, ◌+◌, ◌-◌, ◌*◌, ◌≤◌, ◌<◌}
use Rattle.std.proofs.Math.ListN.{length, length-drop}
use native.Mathlib.Omega.{arith}
use Rattle.theory_model.specs.Laws.Basics.{by_test, false_not_true}
use Rattle.theory_grammar.specs.Tree.{Tree, letter}
use Rattle.theory_grammar.specs.Parse.{Sign, space, digit, opening, closing, bar, times, other, is_digit, sign, fresh, digits, item, Frame, frame, State, state, step, stuck, finish, run}
use Rattle.theory_grammar.specs.Offends.{value_from}
use Rattle.expression_scan.specs.Runs.{leading}
use Rattle.expression_scan.specs.Laws.Runs.{drop_byte}
use Rattle.expression_parse.specs.Steps.{is_space, run_at}

-- the bytes at the front are as many as an iterator takes
pub leading_is : (test : ℕ → Bool) (u : List ℕ) → leading test u ≡ length (take_while test u)
unfolding leading
leading_is test [] = refl
leading_is test (b ∷ u) = by (test b) (leading_is test u) ∙ sym (ap length (take_while-cons test b u))
  where
    by : (t : Bool) → leading test u ≡ length (take_while test u)
        → cond t (suc (leading test u)) 0 ≡ length (cond t (b ∷ take_while test u) [])
    by true e = ap suc e
    by false e = refl

module _ (s : List ℕ) (at : ℕ) where
  pub run_on : (σ : State) {τ : State} → at < length s → step (sign (get_or s at 0)) σ ≡ some τ → run_at s at σ ≡ run_at s (at + 1) τ
  unfolding run
  run_on σ h e = rw (drop_byte s h, run, e)

  pub run_off : (σ : State) → at < length s → step (sign (get_or s at 0)) σ ≡ none → run_at s at σ ≡ stuck (length s - at)
  unfolding run
  run_off σ h e =
      let left : suc (length s - (at + 1)) ≡ length s - at = omega arith in
      rw (drop_byte s h, run, e, length-drop, left)

  pub run_end : (σ : State) → length s ≤ at → run_at s at σ ≡ finish σ
  unfolding run
  run_end σ h = rw (drop_of_length-le s h)

  pub run_same : (σ τ : State) → (at < length s → step (sign (get_or s at 0)) σ ≡ step (sign (get_or s at 0)) τ) → finish σ ≡ finish τ
      → run_at s at σ ≡ run_at s at τ
  unfolding run
  run_same σ τ e f =
      by_test (ltb at (length s))
      (λ t. let h : at < length s = omega (arith, ltb-true) in rw (drop_byte s h, run, e h))
      (λ t. let h : length s ≤ at = omega (arith, ltb-false) in run_end σ h ∙ f ∙ sym (run_end τ h))

-- SIGNS, by what the byte was tested for
abbrev chosen : Bool → Bool → Bool → Bool → Bool → Bool → ℕ → Sign
chosen d w o c b t n =
    cond d (digit n) (cond w space (cond o opening (cond c closing (cond b bar (cond t times other)))))

pub sign_digit : (b : ℕ) → is_digit b ≡ true → sign b ≡ digit (b - 48)
sign_digit b e = rw e

sign_space : (b : ℕ) → is_space b ≡ true → sign b ≡ space
sign_space b e = ap sign (eqb-true b 32 e)

module _ (fs : List Frame) (ds is : List Tree) where
  settled_closing : (fs : List Frame) (x : Tree) → step closing (state fs ds is (item x)) ≡ step closing (state fs ds (x ∷ is) fresh)
  settled_closing [] x = refl
  settled_closing (frame es js ∷ gs) x = refl

  settled_sign : (x : Tree) (d w o c b t : Bool) (n : ℕ) → w ≡ false → t ≡ false
      → step (chosen d w o c b t n) (state fs ds is (item x)) ≡ step (chosen d w o c b t n) (state fs ds (x ∷ is) fresh)
  settled_sign x true w o c b t n e f = refl
  settled_sign x false true o c b t n e f = false_not_true e refl
  settled_sign x false false true c b t n e f = refl
  settled_sign x false false false true b t n e f = settled_closing fs x
  settled_sign x false false false false true t n e f = refl
  settled_sign x false false false false false true n e f = false_not_true f refl
  settled_sign x false false false false false false n e f = refl

  ended_closing : (fs : List Frame) (m : ℕ) → step closing (state fs ds is (digits m)) ≡ step closing (state fs ds is (item (letter m)))
  ended_closing [] m = refl
  ended_closing (frame es js ∷ gs) m = refl

  ended_sign : (m : ℕ) (d w o c b t : Bool) (n : ℕ) → d ≡ false
      → step (chosen d w o c b t n) (state fs ds is (digits m)) ≡ step (chosen d w o c b t n) (state fs ds is (item (letter m)))
  ended_sign m true w o c b t n e = false_not_true e refl
  ended_sign m false true o c b t n e = refl
  ended_sign m false false true c b t n e = refl
  ended_sign m false false false true b t n e = ended_closing fs m
  ended_sign m false false false false true t n e = refl
  ended_sign m false false false false false true n e = refl
  ended_sign m false false false false false false n e = refl

  begins_none : (d w o c b t : Bool) (n : ℕ) → d ≡ false → w ≡ false → o ≡ false → c ≡ false → b ≡ false
      → step (chosen d w o c b t n) (state fs ds is fresh) ≡ none
  begins_none true w o c b t n d' w' o' c' b' = false_not_true d' refl
  begins_none false true o c b t n d' w' o' c' b' = false_not_true w' refl
  begins_none false false true c b t n d' w' o' c' b' = false_not_true o' refl
  begins_none false false false true b t n d' w' o' c' b' = false_not_true c' refl
  begins_none false false false false true t n d' w' o' c' b' = false_not_true b' refl
  begins_none false false false false false true n d' w' o' c' b' = refl
  begins_none false false false false false false n d' w' o' c' b' = refl

  settled_finish : (fs : List Frame) (x : Tree) → finish (state fs ds is (item x)) ≡ finish (state fs ds (x ∷ is) fresh)
  settled_finish [] x = refl
  settled_finish (f ∷ gs) x = refl

  ended_finish : (fs : List Frame) (m : ℕ) → finish (state fs ds is (digits m)) ≡ finish (state fs ds is (item (letter m)))
  ended_finish [] m = refl
  ended_finish (f ∷ gs) m = refl

  module _ (s : List ℕ) (at : ℕ) where
    -- an item with no star behind it is done
    pub run_settled : (x : Tree) → is_space (get_or s at 0) ≡ false → (at < length s → eqb (get_or s at 0) 42 ≡ false)
        → run_at s at (state fs ds is (item x)) ≡ run_at s at (state fs ds (x ∷ is) fresh)
    run_settled x w t =
        let b = get_or s at 0 in
        run_same s at (state fs ds is (item x)) (state fs ds (x ∷ is) fresh)
        (λ h. settled_sign x (is_digit b) (eqb b 32) (eqb b 40) (eqb b 41) (eqb b 124) (eqb b 42) (b - 48) w (t h))
        (settled_finish fs x)

    -- a number with no digit behind it is done
    pub run_ended : (m : ℕ) → is_digit (get_or s at 0) ≡ false
        → run_at s at (state fs ds is (digits m)) ≡ run_at s at (state fs ds is (item (letter m)))
    run_ended m e =
        let b = get_or s at 0 in
        run_same s at (state fs ds is (digits m)) (state fs ds is (item (letter m)))
        (λ h. ended_sign m (is_digit b) (eqb b 32) (eqb b 40) (eqb b 41) (eqb b 124) (eqb b 42) (b - 48) e)
        (ended_finish fs m)

    -- no item begins with this byte
    pub run_begins_none : at < length s → is_digit (get_or s at 0) ≡ false → is_space (get_or s at 0) ≡ false → eqb (get_or s at 0) 40 ≡ false
        → eqb (get_or s at 0) 41 ≡ false → eqb (get_or s at 0) 124 ≡ false → run_at s at (state fs ds is fresh) ≡ stuck (length s - at)
    run_begins_none h d w o c b =
        let x = get_or s at 0 in
        run_off s at (state fs ds is fresh) h
        (begins_none (is_digit x) (eqb x 32) (eqb x 40) (eqb x 41) (eqb x 124) (eqb x 42) (x - 48) d w o c b)

-- SPACES are passed over
spaces_pass : (σ : State) → step space σ ≡ some σ → (u : List ℕ) → run u σ ≡ run (drop (leading is_space u) u) σ
unfolding run leading
spaces_pass σ e [] = refl
spaces_pass σ e (b ∷ u) = by (is_space b) refl (spaces_pass σ e u)
  where
    by : (t : Bool) → is_space b ≡ t → run u σ ≡ run (drop (leading is_space u) u) σ
        → run (b ∷ u) σ ≡ run (drop (cond t (suc (leading is_space u)) 0) (b ∷ u)) σ
    by true w h = rw (run, sign_space b w, e) h
    by false w h = refl

pub run_skips : (s : List ℕ) (at : ℕ) {next : ℕ} (σ : State) → step space σ ≡ some σ → next ≡ at + leading is_space (drop at s)
    → run_at s at σ ≡ run_at s next σ
run_skips s at σ e n = spaces_pass σ e (drop at s) ∙ rw (drop-drop, n)

-- DIGITS make one number
module _ (fs : List Frame) (ds is : List Tree) where
  digits_pass : (n : ℕ) (u : List ℕ)
      → run u (state fs ds is (digits (suc n))) ≡ run (drop (leading is_digit u) u) (state fs ds is (digits (value_from (suc n) u)))
  unfolding run leading
  digits_pass n [] = refl
  digits_pass n (b ∷ u) = by (is_digit b) refl (digits_pass (n * 10 + 9 + (b - 48)) u)
    where
      by : (t : Bool) → is_digit b ≡ t
          → run u (state fs ds is (digits (suc (n * 10 + 9 + (b - 48)))))
          ≡ run (drop (leading is_digit u) u) (state fs ds is (digits (value_from (suc (n * 10 + 9 + (b - 48))) u)))
          → run (b ∷ u) (state fs ds is (digits (suc n)))
          ≡ run (drop (cond t (suc (leading is_digit u)) 0) (b ∷ u)) (state fs ds is (digits (cond t (value_from (suc n * 10 + (b - 48)) u) (suc n))))
      by true w h =
          let more : suc (n * 10 + 9 + (b - 48)) ≡ suc n * 10 + (b - 48) = omega arith in
          rw (run, sign_digit b w) (rw more at h)
      by false w h = refl

  value_alone : (n : ℕ) (u : List ℕ) → leading is_digit u ≡ 0 → value_from n u ≡ n
  unfolding leading
  value_alone n [] e = refl
  value_alone n (b ∷ u) e = by (is_digit b) e
    where
      by : (t : Bool) → cond t (suc (leading is_digit u)) 0 ≡ 0 → cond t (value_from (n * 10 + (b - 48)) u) n ≡ n
      by true z = absurd (omega arith)
      by false z = refl

  -- a 0 stands alone
  pub digits_run : (d : ℕ) (u : List ℕ) → (d ≡ 0 → leading is_digit u ≡ 0)
      → run u (state fs ds is (digits d)) ≡ run (drop (leading is_digit u) u) (state fs ds is (digits (value_from d u)))
  digits_run zero u e = rw (e refl, value_alone 0 u (e refl))
  digits_run (suc d) u e = digits_pass d u
