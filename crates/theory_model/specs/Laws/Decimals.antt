-- What a printed number is: its decimal digits without a leading zero, as byte values.
use Rattle.std.specs.Prelude.{ℕ, zero, suc, ◌+◌, ◌*◌, ◌/◌, ◌%◌, ◌≤◌, ◌<◌, ◌≡◌, refl, Bool, true, false, List, [], ◌∷◌, ◌++◌, ltb}
use Rattle.std.proofs.Common.{subst, ltb-true, ltb-false, lt-ltb, le-ltb, arith}
use Rattle.theory_model.specs.Line.{digits, decimal}

-- one digit; or the digits of a number that is not 0, and one more
pub data Decimal : ℕ → List ℕ → Type 0 where
  digit : {n : ℕ} → n < 10 → Decimal n ((48 + n) ∷ [])
  more : {n d : ℕ} {u : List ℕ} → 0 < n → d < 10 → Decimal n u → Decimal (n * 10 + d) (u ++ ((48 + d) ∷ []))

abbrev ten_to : ℕ → ℕ
ten_to zero = 1
ten_to (suc k) = 10 * ten_to k

one_digit : (most n : ℕ) → n < 10 → Decimal n (digits (suc most) n)
unfolding digits
one_digit most n h = rw (lt-ltb n 10 h, digits) (digit h)

more_digits : (most n : ℕ) → 10 ≤ n → Decimal (n / 10) (digits most (n / 10)) → Decimal n (digits (suc most) n)
unfolding digits
more_digits most n h front =
    let whole : n / 10 * 10 + n % 10 ≡ n = omega arith in
    rw (le-ltb n 10 h, digits)
    (subst (λ (k : ℕ). Decimal k (digits most (n / 10) ++ ((48 + n % 10) ∷ []))) whole (more (omega arith) (omega arith) front))

digits_are : (most n : ℕ) → n < ten_to (suc most) → Decimal n (digits (suc most) n)
digits_are zero n h = one_digit zero n (omega arith)
digits_are (suc most) n h = by (ltb n 10) refl (λ l. digits_are most (n / 10) l)
  where
    by : (t : Bool) → ltb n 10 ≡ t → (n / 10 < ten_to (suc most) → Decimal (n / 10) (digits (suc most) (n / 10)))
        → Decimal n (digits (suc (suc most)) n)
    by true e rest = one_digit (suc most) n (ltb-true n 10 e)
    by false e rest = more_digits (suc most) n (ltb-false n 10 e) (rest (omega arith))

-- EVERY NUMBER BELOW TEN THOUSAND MILLION is printed by its decimal digits
pub decimal_is : (n : ℕ) → n < 10000000000 → Decimal n (decimal n)
decimal_is n h = digits_are 9 n h
