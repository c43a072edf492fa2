-- The number of a run, clipped digit by digit.
use Rattle.std.specs.Prelude.{◌≡◌, refl, Bool, true, false, cond, List, [], ◌∷◌, ℕ, ◌+◌, ◌-◌, ◌*◌, ◌≤◌, ◌<◌, leb, ltb, length, get_or, drop}
use Rattle.std.proofs.Common.{sym, ap, subst, ◌∙◌, drop_of_length-le, arith, leb-true, ltb-true, ltb-false, lt-ltb, le-ltb}
use Rattle.theory_model.specs.Laws.Basics.{by_test, and_is}
use Rattle.theory_grammar.specs.Grammar.{Digit}
use Rattle.theory_grammar.specs.Parse.{is_digit}
use Rattle.theory_grammar.specs.Offends.{value_from, message_limit}
use Rattle.theory_occurrences.specs.Positions.{clip}
use Rattle.expression_scan.specs.Runs.{leading, Runs}
use Rattle.expression_scan.specs.Laws.Runs.{drop_byte, leading_on, leading_none}

pub digit_range : (b : ℕ) → is_digit b ≡ true → Digit b
digit_range b e =
    let both = and_is (leb 48 b) (leb b 57) e in
    (leb-true 48 b both.0, leb-true b 57 both.1)

value_least : (n : ℕ) (u : List ℕ) → n ≤ value_from n u
value_least n [] = omega arith
value_least n (b ∷ u) = by (is_digit b) (value_least (n * 10 + (b - 48)) u)
  where
    by : (t : Bool) → n * 10 + (b - 48) ≤ value_from (n * 10 + (b - 48)) u
        → n ≤ cond t (value_from (n * 10 + (b - 48)) u) n
    by true h = omega arith
    by false h = omega arith

pub clip_small : (n : ℕ) → n < message_limit → clip n ≡ n
clip_small n h = ap (λ t. cond t n message_limit) (lt-ltb n message_limit h)

pub clip_large : (n : ℕ) → message_limit ≤ n → clip n ≡ message_limit
clip_large n h = ap (λ t. cond t n message_limit) (le-ltb n message_limit h)

pub clip_twice : (n : ℕ) → clip (clip n) ≡ clip n
clip_twice n = by (ltb n message_limit) refl
  where
    by : (t : Bool) → ltb n message_limit ≡ t → clip (cond t n message_limit) ≡ cond t n message_limit
    by true e = clip_small n (ltb-true n message_limit e)
    by false e = refl

-- the number goes on with the digit at a place, and ends where there is none
pub value_on : (s : List ℕ) (n : ℕ) {i : ℕ} → i < length s → is_digit (get_or s i 0) ≡ true
    → value_from n (drop i s) ≡ value_from (n * 10 + (get_or s i 0 - 48)) (drop (i + 1) s)
value_on s n {i} h e = rw (drop_byte s h, value_from, e)

value_none : (s : List ℕ) (n i : ℕ) → (i < length s → is_digit (get_or s i 0) ≡ false) → value_from n (drop i s) ≡ n
value_none s n i e =
    by_test (ltb i (length s))
    (λ t. let h : i < length s = omega (arith, ltb-true) in rw (drop_byte s h, value_from, e h))
    (λ t. let h : length s ≤ i = omega (arith, ltb-false) in rw (drop_of_length-le s h))

-- what is no message may be clipped before its last digit
value_clipped : (n : ℕ) (u : List ℕ) → clip (value_from n u) ≡ clip (value_from (clip n) u)
value_clipped n u = by (ltb n message_limit) refl
  where
    by : (t : Bool) → ltb n message_limit ≡ t → clip (value_from n u) ≡ clip (value_from (cond t n message_limit) u)
    by true e = refl
    by false e =
        clip_large (value_from n u) (omega (arith, ltb-false n message_limit e, value_least n u))
        ∙ sym (clip_large (value_from message_limit u) (value_least message_limit u))

-- A RUN UNDER WAY: its digits up to place i have this number, clipped
pub record Running (s : List ℕ) (n i : ℕ) : Type 0 where
  pub number : clip (value_from n (drop i s)) ≡ clip (value_from 0 s)
  pub behind : i + leading is_digit (drop i s) ≡ leading is_digit s
  pub clipped : clip n ≡ n

module _ {s : List ℕ} {n i : ℕ} (R : Running s n i) where
  pub running_on : {m : ℕ} → i < length s → is_digit (get_or s i 0) ≡ true → m ≡ clip (n * 10 + (get_or s i 0 - 48)) → Running s m (i + 1)
  running_on {m} h d e =
      record {
        number =
            ap (λ k. clip (value_from k (drop (i + 1) s))) e
            ∙ sym (value_clipped (n * 10 + (get_or s i 0 - 48)) (drop (i + 1) s))
            ∙ sym (ap clip (value_on s n h d))
            ∙ R.number;
        behind = omega (arith, R.behind, leading_on is_digit s i h d);
        clipped = ap clip e ∙ clip_twice (n * 10 + (get_or s i 0 - 48)) ∙ sym e;
      }

  pub running_ends : (i < length s → is_digit (get_or s i 0) ≡ false) → Runs s (record { value = n; len = i })
  running_ends h =
      record {
        number = sym R.clipped ∙ sym (ap clip (value_none s n i h)) ∙ R.number;
        long = omega (arith, R.behind, leading_none is_digit s i h);
      }

pub running_whole : {s : List ℕ} {n i : ℕ} → Running s n i → i ≤ length s → length s ≤ i → Runs s (record { value = n; len = length s })
running_whole {s} {n} {i} R a b =
    let e : i ≡ length s = omega arith in
    running_ends (subst (Running s n) e R) (λ h. absurd (omega (arith, h)))
