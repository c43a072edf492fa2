-- Bytes and signs: the test of a digit, the byte that each sign is read from, and the digits at the ends of a text.
use Rattle.std.specs.Prelude.{◌≡◌, refl, Bool, true, false, cond, List, [], ◌∷◌, ◌++◌, ℕ, ◌+◌, ◌-◌, ◌<◌, leb, eqb}
use Rattle.std.proofs.Common.{sym, subst, append-nil, arith, leb-true, le-leb, eqb-true}
use Rattle.theory_model.specs.Laws.Basics.{by_test, false_not_true, and_is, is_and}
use Rattle.theory_model.specs.Laws.Decimals.{Decimal}
use Rattle.theory_grammar.specs.Grammar.{Spaces, Digit, BeginsWithDigit, EndsInDigit, Apart}
use Rattle.theory_grammar.specs.Parse.{Sign, is_digit, sign}

-- THE TEST of a digit
pub is_digit_lem : (b : ℕ) → is_digit b ≡ true → Digit b
is_digit_lem b e = let p = and_is (leb 48 b) (leb b 57) e in (leb-true 48 b p.0, leb-true b 57 p.1)

pub digit_is : (b : ℕ) → Digit b → is_digit b ≡ true
digit_is b d = is_and (leb 48 b) (leb b 57) (le-leb 48 b d.0) (le-leb b 57 d.1)

pub other_is : (b : ℕ) → (Digit b → ⊥) → is_digit b ≡ false
other_is b n = by_test (is_digit b) (λ t. absurd (n (is_digit_lem b t))) (λ f. f)

pub is_other : (b : ℕ) → is_digit b ≡ false → Digit b → ⊥
is_other b f d = false_not_true f (digit_is b d)

pub digit_byte : {d : ℕ} → d < 10 → Digit (48 + d)
digit_byte h = (omega arith, omega arith)

-- THE BYTE that a sign is read from
pub data Reads : ℕ → Sign → Type 0 where
  digit : {d : ℕ} → d < 10 → Reads (48 + d) (Sign.digit d)
  space : Reads 32 Sign.space
  opening : Reads 40 Sign.opening
  closing : Reads 41 Sign.closing
  bar : Reads 124 Sign.bar
  times : Reads 42 Sign.times
  other : {b : ℕ} → Reads b Sign.other

pub sign_reads : (b : ℕ) → Reads b (sign b)
sign_reads b =
    by (is_digit b) (is_digit_lem b) (eqb b 32) (eqb-true b 32) (eqb b 40) (eqb-true b 40) (eqb b 41) (eqb-true b 41) (eqb b 124) (eqb-true b 124)
    (eqb b 42) (eqb-true b 42)
  where
    by : (d : Bool) → (d ≡ true → Digit b) → (s : Bool) → (s ≡ true → b ≡ 32) → (o : Bool) → (o ≡ true → b ≡ 40)
        → (c : Bool) → (c ≡ true → b ≡ 41) → (r : Bool) → (r ≡ true → b ≡ 124) → (t : Bool) → (t ≡ true → b ≡ 42)
        → Reads b (cond d (Sign.digit (b - 48)) (cond s Sign.space (cond o Sign.opening (cond c Sign.closing (cond r Sign.bar (cond t Sign.times Sign.other))))))
    by true p s _ o _ c _ r _ t _ =
        let h = p refl in
        let e : 48 + (b - 48) ≡ b = omega arith in
        subst (λ k. Reads k (Sign.digit (b - 48))) e (digit (omega arith))
    by false _ true e o _ c _ r _ t _ = subst (λ k. Reads k Sign.space) (sym (e refl)) space
    by false _ false _ true e c _ r _ t _ = subst (λ k. Reads k Sign.opening) (sym (e refl)) opening
    by false _ false _ false _ true e r _ t _ = subst (λ k. Reads k Sign.closing) (sym (e refl)) closing
    by false _ false _ false _ false _ true e t _ = subst (λ k. Reads k Sign.bar) (sym (e refl)) bar
    by false _ false _ false _ false _ false _ true e = subst (λ k. Reads k Sign.times) (sym (e refl)) times
    by false _ false _ false _ false _ false _ false _ = other

pub sign_digit : {d : ℕ} → d < 10 → sign (48 + d) ≡ Sign.digit d
sign_digit {d} h =
    let e : 48 + d - 48 ≡ d = omega arith in
    rw (digit_is (48 + d) (digit_byte h), e)

-- THE DIGITS at the ends of a text
pub ends_after : (u v : List ℕ) → EndsInDigit v → EndsInDigit (u ++ v)
ends_after (c ∷ []) [] e = elim e [ ]
ends_after [] v e = e
ends_after (c ∷ []) (b ∷ v) e = e
ends_after (c ∷ (d ∷ u)) v e = ends_after (d ∷ u) v e

pub after_ends : (u : List ℕ) (b : ℕ) (v : List ℕ) → EndsInDigit (u ++ (b ∷ v)) → EndsInDigit (b ∷ v)
after_ends [] b v e = e
after_ends (c ∷ []) b v e = e
after_ends (c ∷ (d ∷ u)) b v e = after_ends (d ∷ u) b v e

pub decimal_ends : {n : ℕ} {u : List ℕ} → Decimal n u → EndsInDigit u
decimal_ends (Decimal.digit h) = digit_byte h
decimal_ends (Decimal.more {d = d} {u = u} p h r) = ends_after u ((48 + d) ∷ []) (digit_byte h)

-- spaces keep digits apart
pub spaces_apart : {w : List ℕ} (u v : List ℕ) → Spaces w → EndsInDigit u → Apart (u ++ w) v → BeginsWithDigit (w ++ v) → ⊥
spaces_apart u v Spaces.none e a b = a (rw append-nil e) b
spaces_apart u v (Spaces.space s) e a b = omega arith

-- what stands apart from the whole stands apart from its parts
pub apart_first : (u w v : List ℕ) → Apart u w → Apart (u ++ w) v → Apart u (w ++ v)
apart_first u [] v b a = λ e. a (rw append-nil e)
apart_first u (c ∷ w) v b a = b

pub apart_second : (u w v : List ℕ) → Apart (u ++ w) v → Apart w v
apart_second u w v a = λ e. a (ends_after u w e)
