-- A number that is read is the number that stands there, both ways.
use Rattle.std.specs.Prelude.{ℕ, ◌+◌, ◌-◌, ◌*◌, ◌/◌, ◌%◌, ◌≤◌, ◌<◌, ◌≡◌, refl, Bool, true, false, cond, ◌⊎◌, List, [], ◌∷◌, ◌++◌, length, get_or, drop, ltb}
use Rattle.std.proofs.Common.{sym, ap, ap₂, subst, ◌∙◌, inl, inr, drop-cons, add-zero, add-one}
use Rattle.std.proofs.Math.Arith.{digits_mod, digits_div}
use borrow.Author.Tests.{ltb-true, ltb-false, lt-ltb, le-ltb, le-leb}
use native.Mathlib.Omega.{arith}
use Rattle.numbers.specs.Part.{Part, got}
use Rattle.numbers.specs.Number.{read_number, read_within, read_below, read_two}
use Rattle.numbers.specs.Laws.Parts.{provided_got, and_then_got, same_value, same_place_lem}
use Rattle.numbers.specs.Laws.Ranges.{below_number, within_number}
use Rattle.theory_format.specs.Readable.{Bytes}
use Rattle.theory_format.specs.Spelled.{number}
use Rattle.theory_format.specs.Laws.Here.{Here, here_then, here_part, here_byte}

number_one : (v : ℕ) → v < 128 → number v ≡ v ∷ []
unfolding number
number_one v h = rw (lt-ltb v 128 h)

number_two : (v : ℕ) → 128 ≤ v → number v ≡ (128 + v % 128) ∷ (v / 128) ∷ []
unfolding number
number_two v h = rw (le-ltb v 128 h)

-- the two bytes of a number, put together and taken apart
number_joined : (a b : ℕ) → 128 ≤ a → a < 256 → 0 < b → number (a - 128 + 128 * b) ≡ a ∷ b ∷ []
number_joined a b l m h =
    let e : a - 128 + 128 * b ≡ b * 128 + (a - 128) = omega arith in
    let low : (a - 128 + 128 * b) % 128 ≡ a - 128 = ap (λ n. n % 128) e ∙ digits_mod b (omega arith) in
    let high : (a - 128 + 128 * b) / 128 ≡ b = ap (λ n. n / 128) e ∙ digits_div b (omega arith) in
    let first : 128 + (a - 128 + 128 * b) % 128 ≡ a = omega arith in
    number_two (a - 128 + 128 * b) (omega arith) ∙ ap₂ (λ x y. x ∷ y ∷ []) first high

-- the byte at a place stands there
byte_here : (s : List ℕ) (at : ℕ) → at < length s → Here s at (get_or s at 0 ∷ []) (at + 1)
byte_here s at h =
    record { place = refl; bytes = drop-cons s at 0 h ∙ ap (λ k. get_or s at 0 ∷ drop k s) (sym (add-one at)) }

-- what stands where a part was read, in the words of what was got
module _ {A : Type 0} where
  pub here_got : {s : List ℕ} {at : ℕ} (w : A → List ℕ) {x y : A} {p next : ℕ} → got x p ≡ got y next → Here s at (w x) p
      → Here s at (w y) next
  here_got {s} {at} w {x} {y} {p} e h = subst (Here s at (w y)) (same_place_lem e) (subst (λ z. Here s at (w z) p) (same_value e) h)

-- which way a choice went
chosen : (b : Bool) (x y : Part ℕ) {z : Part ℕ} → cond b x y ≡ z → ((b ≡ true) × (x ≡ z)) ⊎ ((b ≡ false) × (y ≡ z))
chosen true x y e = inl (refl, e)
chosen false x y e = inr (refl, e)

pub number_forth : (s : List ℕ) → Bytes s → (at : ℕ) {v next : ℕ} → read_number s at ≡ got v next → Here s at (number v) next
unfolding read_number
number_forth s bytes at {v} {next} e =
    let f = provided_got (ltb at (length s)) 3 (length s) _ e in
    let h = byte_here s at (ltb-true at (length s) f.0) in
    elim (chosen (ltb (get_or s at 0) 128) _ _ f.1) [
      | inl c ↦ ends _ h (number_one (get_or s at 0) (ltb-true (get_or s at 0) 128 c.0)) c.1
      | inr c ↦
          let a = provided_got (ltb (at + 1) (length s)) 3 (length s) _ c.1 in
          let b = provided_got (ltb 0 (get_or s (at + 1) 0)) 4 at _ a.1 in
          let d = provided_got (ltb (get_or s (at + 1) 0) 128) 4 at _ b.1 in
          let two = here_then h (byte_here s (at + 1) (ltb-true (at + 1) (length s) a.0)) in
          let n : at + 1 + 1 ≡ at + 2 = omega arith in
          ends _ (subst (Here s at _) n two)
          (number_joined (get_or s at 0) (get_or s (at + 1) 0) (ltb-false (get_or s at 0) 128 c.0) (bytes.small at)
          (ltb-true 0 (get_or s (at + 1) 0) b.0))
          d.1
    ]
  where
    ends : (w : List ℕ) {x p : ℕ} → Here s at w p → number x ≡ w → got x p ≡ got v next → Here s at (number v) next
    ends w {x} {p} h n g = here_got number g (subst (λ u. Here s at u p) (sym n) h)

-- the byte that stands first
first_byte : {s w : List ℕ} {at next v : ℕ} → Here s at (v ∷ w) next → (at < length s) × (get_or s at 0 ≡ v)
first_byte {s} {w} {at} h =
    let a = here_byte h 0 (omega arith) in (omega (arith, a.0), ap (λ k. get_or s k 0) (sym (add-zero at)) ∙ a.1)

module _ (s : List ℕ) (at v : ℕ) {next : ℕ} where
  one_back : v < 128 → Here s at (v ∷ []) next → read_number s at ≡ got v next
  unfolding read_number
  one_back l h =
      let a = first_byte h in
      rw (lt-ltb at (length s) a.0, a.1, lt-ltb v 128 l, h.place)

  two_bytes_back : 128 ≤ v → v < 16384 → Here s at ((128 + v % 128) ∷ (v / 128) ∷ []) next → read_number s at ≡ got v next
  unfolding read_number
  two_bytes_back l m h =
      let a = first_byte h in
      let b = here_byte h 1 (omega arith) in
      let high : 0 < v / 128 = omega arith in
      let low : v / 128 < 128 = omega arith in
      let same : 128 + v % 128 - 128 + 128 * (v / 128) ≡ v = omega arith in
      rw (
        lt-ltb at (length s) a.0,
        a.1,
        le-ltb (128 + v % 128) 128 (omega arith),
        lt-ltb (at + 1) (length s) b.0,
        b.1,
        lt-ltb 0 (v / 128) high,
        lt-ltb (v / 128) 128 low,
        same,
        h.place,
      )

pub number_back : (s : List ℕ) (at v : ℕ) {next : ℕ} → v < 16384 → Here s at (number v) next → read_number s at ≡ got v next
number_back s at v {next} m h = go (ltb v 128) refl
  where
    go : (b : Bool) → ltb v 128 ≡ b → read_number s at ≡ got v next
    go true q =
        let l = ltb-true v 128 q in
        one_back s at v l (subst (λ w. Here s at w next) (number_one v l) h)
    go false q =
        let l = ltb-false v 128 q in
        two_bytes_back s at v l m (subst (λ w. Here s at w next) (number_two v l) h)

module _ (s : List ℕ) (bytes : Bytes s) where
  pub within_forth : (at least most : ℕ) {v next : ℕ} → read_within s at least most ≡ got v next → Here s at (number v) next
  within_forth at least most e = number_forth s bytes at (within_number s at least most e)

  pub below_forth : (at limit : ℕ) {v next : ℕ} → read_below s at limit ≡ got v next → Here s at (number v) next
  below_forth at limit e = number_forth s bytes at (below_number s at limit e)

  pub two_forth : (at a b : ℕ) {xy : ℕ × ℕ} {next : ℕ} → read_two s at a b ≡ got xy next
      → Here s at (number xy.0 ++ number xy.1) next
  unfolding read_two
  two_forth at a b e =
      let t = and_then_got (read_below s at a) e in
      let u = and_then_got (read_below s t.place b) t.then in
      here_got (λ z. number z.0 ++ number z.1) u.then
      (here_then (below_forth at a t.first) (below_forth t.place b u.first))

module _ (s : List ℕ) where
  pub within_back : (at least most v : ℕ) {next : ℕ} → least ≤ v → v ≤ most → most < 16384 → Here s at (number v) next
      → read_within s at least most ≡ got v next
  unfolding read_within
  within_back at least most v a b m h = rw (number_back s at v (omega arith) h, le-leb least v a, le-leb v most b)

  pub below_back : (at limit v : ℕ) {next : ℕ} → v < limit → limit ≤ 16384 → Here s at (number v) next
      → read_below s at limit ≡ got v next
  unfolding read_below
  below_back at limit v a m h = rw (number_back s at v (omega arith) h, lt-ltb v limit a)

  pub two_back : (at a b x y : ℕ) {next : ℕ} → x < a → y < b → a ≤ 16384 → b ≤ 16384 → Here s at (number x ++ number y) next
      → read_two s at a b ≡ got (x, y) next
  unfolding read_two
  two_back at a b x y f g m n h =
      let p = here_part (number x) h in
      rw (below_back at a x f m p.first, below_back p.middle b y g n p.second)
