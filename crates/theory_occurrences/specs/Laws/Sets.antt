-- Sets as numbers: what joined, meet and the set of one have, that sets with the same members are the same, and how large a number is.
use Rattle.std.specs.Prelude.{◌≡◌, refl, ◌↔◌, ◌⊎◌, Bool, true, false, cond, ◌&&◌, ◌||◌, ℕ, zero, suc, ◌*◌, ◌/◌, ◌%◌, ◌^◌, ◌<◌, ltb, eqb}
use Rattle.std.proofs.Common.{sym, ap, ◌∙◌, inl, inr, ⊎_elim, arith, mod-lt, pow-suc, zero-lt-suc, lt_of_le_of_lt, eqb-true, eq-eqb, lt-ltb, ltb-true, pow_pos}
use Rattle.std.proofs.Math.Logic.{⊎_map}
use Rattle.std.proofs.lemmas.Bool.{eqb-false}
use Rattle.std.proofs.Math.Arith.{bin_ind, lt-one}
use Rattle.std.specs.Int.Bits.{bit_and, bit_or}
use Rattle.std.proofs.lemmas.Nat.{and_shr, and_mod, and_le_r, or_shr, or_mod, or_lt}
use Rattle.std.proofs.Math.Dec.{eqb-zero-suc, eqb-suc-zero, eqb-suc-suc}
use Rattle.std.proofs.Math.Pow.{pow-lt}
use Rattle.theory_grammar.specs.Offends.{most_occurrences}
use Rattle.theory_model.specs.Laws.Basics.{by_test, false_not_true, and_is, is_and}
use Rattle.theory_occurrences.specs.Sets.{has, joined, meet, only}

pub or_is : (a b : Bool) → (a || b) ≡ true → (a ≡ true) ⊎ (b ≡ true)
or_is true b e = inl refl
or_is false b e = inr e

pub is_or_left : (a b : Bool) → a ≡ true → (a || b) ≡ true
is_or_left a b e = ap (λ c. c || b) e

pub is_or_right : (a b : Bool) → b ≡ true → (a || b) ≡ true
is_or_right true b e = refl
is_or_right false b e = e

-- MEMBERS
pub has_zero : (p : ℕ) → has 0 p ≡ false
has_zero zero = refl
has_zero (suc p) = has_zero p

-- a digit is 0 or 1
digit : (P : ℕ → Type 0) → P 0 → P 1 → (x : ℕ) → P (x % 2)
digit P z o x = which (x % 2) (mod-lt x (zero-lt-suc 1))
  where
    which : (d : ℕ) → d < 2 → P d
    which zero l = z
    which (suc zero) l = o
    which (suc (suc d)) l = absurd (omega arith)

pub has_joined : (x y p : ℕ) → has (joined x y) p ≡ (has x p || has y p)
unfolding joined
has_joined x y zero =
    ap (λ d. eqb d 1) (or_mod x y 1)
    ∙ digit (λ a. eqb (bit_or a (y % 2)) 1 ≡ (eqb a 1 || eqb (y % 2) 1)) refl (digit (λ b. eqb (bit_or 1 b) 1 ≡ true) refl refl y) x
has_joined x y (suc p) = ap (λ z. has z p) (or_shr x y 1) ∙ has_joined (x / 2) (y / 2) p

pub has_meet : (x y p : ℕ) → has (meet x y) p ≡ (has x p && has y p)
unfolding meet
has_meet x y zero =
    ap (λ d. eqb d 1) (and_mod x y 1)
    ∙ digit (λ a. eqb (bit_and a (y % 2)) 1 ≡ (eqb a 1 && eqb (y % 2) 1)) refl (digit (λ b. eqb (bit_and 1 b) 1 ≡ eqb b 1) refl refl y) x
has_meet x y (suc p) = ap (λ z. has z p) (and_shr x y 1) ∙ has_meet (x / 2) (y / 2) p

-- a set, or none
pub has_when : (b : Bool) (x p : ℕ) → has (cond b x 0) p ≡ (b && has x p)
has_when true x p = refl
has_when false x p = has_zero p

has_power : (k p : ℕ) → has (2 ^ k) p ≡ eqb p k
has_power zero zero = refl
has_power zero (suc p) = has_zero p ∙ sym (eqb-suc-zero p)
has_power (suc k) zero =
    let even : 2 ^ suc k % 2 ≡ 0 = rw (pow-suc 2 k) (omega arith) in
    ap (λ d. eqb d 1) even ∙ sym (eqb-zero-suc k)
has_power (suc k) (suc p) =
    let half : 2 ^ suc k / 2 ≡ 2 ^ k = rw (pow-suc 2 k) (omega arith) in
    ap (λ z. has z p) half ∙ has_power k p ∙ sym (eqb-suc-suc p k)

-- the same as propositions
pub in_joined : (x y p : ℕ) → (has (joined x y) p ≡ true) ↔ ((has x p ≡ true) ⊎ (has y p ≡ true))
in_joined x y p = rw (has_joined x y p) (or_is (has x p) (has y p), ⊎_elim (is_or_left (has x p) (has y p)) (is_or_right (has x p) (has y p)))

pub in_meet : (x y p : ℕ) → (has (meet x y) p ≡ true) ↔ ((has x p ≡ true) × (has y p ≡ true))
in_meet x y p = rw (has_meet x y p) (and_is (has x p) (has y p), λ (h, l). is_and (has x p) (has y p) h l)

in_when : (b : Bool) (x p : ℕ) → (has (cond b x 0) p ≡ true) ↔ ((b ≡ true) × (has x p ≡ true))
in_when b x p = rw (has_when b x p) (and_is b (has x p), λ (h, l). is_and b (has x p) h l)

pub in_joined_when : (x : ℕ) (b : Bool) (y p : ℕ)
    → (has (joined x (cond b y 0)) p ≡ true) ↔ ((has x p ≡ true) ⊎ ((b ≡ true) × (has y p ≡ true)))
in_joined_when x b y p = (
  λ h. ⊎_map (λ k. k) (in_when b y p).0 ((in_joined x (cond b y 0) p).0 h),
  λ h. (in_joined x (cond b y 0) p).1 (⊎_map (λ k. k) (in_when b y p).1 h),
)

pub has_only : (k p : ℕ) → k < most_occurrences → has (only k) p ≡ eqb p k
has_only k p h = rw (lt-ltb k most_occurrences h) (has_power k p)

pub in_only : (k p : ℕ) → k < most_occurrences → (has (only k) p ≡ true) ↔ (p ≡ k)
in_only k p h = rw (has_only k p h) (eqb-true p k, eq-eqb p k)

-- a number that is not 0 has a member
pub some_member : (x : ℕ) → (x ≡ 0 → ⊥) → (p : ℕ) × (has x p ≡ true)
some_member =
    bin_ind (λ (x : ℕ). (x ≡ 0 → ⊥) → (p : ℕ) × (has x p ≡ true))
    (λ n. absurd (n refl))
    (λ x half n. by_test (eqb (x % 2) 1)
    (λ e. (0, e))
    (λ e. let odd : x % 2 ≡ 1 → ⊥ = eqb-false (x % 2) 1 e in let (p, h) = half (λ z. n (omega arith)) in (suc p, h)))

pub member_some : (x p : ℕ) → has x p ≡ true → x ≡ 0 → ⊥
member_some x p h e = false_not_true (ap (λ z. has z p) e ∙ has_zero p) h

pub no_member : (x : ℕ) → ((p : ℕ) → has x p ≡ false) → x ≡ 0
no_member x none = by_test (eqb x 0) (eqb-true x 0) (λ e. let (p, h) = some_member x (eqb-false x 0 e) in false_not_true (none p) h)

same_digit : (a b : ℕ) → a < 2 → b < 2 → eqb a 1 ≡ eqb b 1 → a ≡ b
same_digit a b h l e =
    by_test (eqb a 1)
    (λ s. eqb-true a 1 s ∙ sym (eqb-true b 1 (sym e ∙ s)))
    (λ s. let n : a ≡ 1 → ⊥ = eqb-false a 1 s in let n' : b ≡ 1 → ⊥ = eqb-false b 1 (sym e ∙ s) in omega arith)

-- SETS with the same members are the same
pub same_set : (x y : ℕ) → ((p : ℕ) → has x p ≡ has y p) → x ≡ y
same_set =
    bin_ind (λ (x : ℕ). (y : ℕ) → ((p : ℕ) → has x p ≡ has y p) → x ≡ y)
    (λ y same. sym (no_member y (λ p. sym (same p) ∙ has_zero p)))
    (λ x half y same.
    let low : x % 2 ≡ y % 2 = same_digit (x % 2) (y % 2) (mod-lt x (zero-lt-suc 1)) (mod-lt y (zero-lt-suc 1)) (same 0) in
    let high : x / 2 ≡ y / 2 = half (y / 2) (λ p. same (suc p)) in
    omega arith)

-- BELOW a power exactly if the members are below its exponent
pub member_low : (k x p : ℕ) → x < 2 ^ k → has x p ≡ true → p < k
member_low zero x p l h = absurd (member_some x p h (lt-one l))
member_low (suc k) x zero l h = omega arith
member_low (suc k) x (suc p) l h =
    let l' : x < 2 ^ k * 2 = rw (pow-suc 2 k) at l in
    let r = member_low k (x / 2) p (omega arith) h in
    omega arith

pub low_members : (k x : ℕ) → ((p : ℕ) → has x p ≡ true → p < k) → x < 2 ^ k
low_members zero x low = omega (arith, no_member x (λ p. by_test (has x p) (λ h. let l = low p h in absurd (omega arith)) (λ e. e)))
low_members (suc k) x low =
    let half : x / 2 < 2 ^ k = low_members k (x / 2) (λ p h. let l = low (suc p) h in omega arith) in
    rw (pow-suc 2 k) (omega arith)

pub joined_low : (k x y : ℕ) → x < 2 ^ k → y < 2 ^ k → joined x y < 2 ^ k
unfolding joined
joined_low k x y h l = or_lt k x y h l

pub meet_low : (k x y : ℕ) → y < 2 ^ k → meet x y < 2 ^ k
unfolding meet
meet_low k x y l = lt_of_le_of_lt (and_le_r x y) l

pub only_low : (k : ℕ) → only k < 2 ^ most_occurrences
only_low k = by_test (ltb k most_occurrences) (λ e. rw e (pow-lt (ltb-true k most_occurrences e))) (λ e. rw e (pow_pos most_occurrences))

-- the same set, by its members
pub same_members : (x y : ℕ) → ((p : ℕ) → (has x p ≡ true) ↔ (has y p ≡ true)) → x ≡ y
same_members x y same =
    same_set x y
    (λ p.
    by_test (has x p)
    (λ a. a ∙ sym ((same p).0 a))
    (λ a. by_test (has y p) (λ b. false_not_true a ((same p).1 b)) (λ b. a ∙ sym b)))
