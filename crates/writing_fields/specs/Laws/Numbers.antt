-- The one or two bytes of a number.
use Rattle.std.specs.Prelude.{ℕ, ◌+◌, ◌/◌, ◌%◌, ◌≤◌, ◌<◌, ◌≡◌, refl, true, List, [], ◌∷◌, ◌++◌, length, set, ltb}
use Rattle.std.proofs.Common.{sym, ap, ◌∙◌, arith, add-one, lt-ltb, le-ltb, ltb-true}
use Rattle.std.proofs.Math.Seq.{set_out}
use Rattle.numbers.specs.Put.{Put}
use Rattle.numbers.specs.Laws.Put.{put_then}
use Rattle.theory_model.specs.Laws.Basics.{and_is}
use Rattle.theory_format.specs.Spelled.{number}
use Rattle.writing_fields.specs.Parts.{both_short}
use Rattle.writing_fields.specs.Laws.Texts.{put_as}

-- past the end a store changes nothing
pub put_past : (s : List ℕ) (at b : ℕ) → length s ≤ at → Put s at 1 (b ∷ []) s (at + 1)
put_past s at b h = record { buffer = sym (set_out s at b h); next = refl; within = omega arith }

-- a byte from 128 on is its own first group, top bit and all
two_groups : (v : ℕ) → 128 ≤ v → v < 256 → number v ≡ v ∷ 1 ∷ []
unfolding number
two_groups v h g =
    let low : 128 + v % 128 ≡ v = omega arith in
    let high : v / 128 ≡ 1 = omega arith in
    rw (le-ltb v 128 h, low, high)

module _ {entry exit : List ℕ} {at v r : ℕ} where
  pub put_one : v < 128 → Put entry at 1 (v ∷ []) exit r → Put entry at 2 (number v) exit r
  unfolding number
  put_one h w =
      record { buffer = w.buffer ∙ rw (lt-ltb v 128 h); next = w.next ∙ rw (lt-ltb v 128 h); within = omega (arith, w.within) }

  pub put_two : {mid : List ℕ} {p : ℕ} → 128 ≤ v → v < 256 → Put entry at 1 (v ∷ []) mid p → Put mid p 1 (1 ∷ []) exit r
      → Put entry at 2 (number v) exit r
  put_two h g a b = put_as (sym (two_groups v h g)) (put_then a b (omega arith))

-- TWO NUMBERS of a byte each
both_bytes : (a b : ℕ) → a < 128 → b < 128 → number a ++ number b ≡ a ∷ b ∷ []
unfolding number
both_bytes a b h g = rw (lt-ltb a 128 h, lt-ltb b 128 g)

-- the later place is in the buffer too
pub both_room : (long at a b : ℕ) → both_short long at a b ≡ true → at + 1 < long
both_room long at a b e = ltb-true (at + 1) long (and_is (ltb b 128) (ltb (at + 1) long) (and_is (ltb a 128) _ e).1).1

pub put_both : (s : List ℕ) (at a b long : ℕ) → both_short long at a b ≡ true
    → Put s at 4 (number a ++ number b) (set (set s at a) (at + 1) b) (at + 2)
put_both s at a b long e =
    let x = and_is (ltb a 128) _ e in
    let y = and_is (ltb b 128) (ltb (at + 1) long) x.1 in
    put_as (sym (both_bytes a b (ltb-true a 128 x.0) (ltb-true b 128 y.0)))
    (record { buffer = ap (λ (k : ℕ). set (set s at a) k b) (add-one at); next = refl; within = omega arith })
