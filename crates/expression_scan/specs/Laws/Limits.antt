-- The pass over a text that looks for the leftmost byte that offends: one more byte, the first that offends, and the end.
use Rattle.std.specs.Prelude.{◌≡◌, refl, Bool, true, false, not, ◌&&◌, List, ◌∷◌, eqb, length, get_or, take, drop, Option, Some, None}
use Rattle.std.proofs.Common.{sym, ap, ◌∙◌, drop_of_length-le, arith}
use Prim.Native.Nat.{ℕ, zero, suc, ◌+◌, ◌-◌, ◌≤◌, ◌<◌}
use Rattle.theory_grammar.specs.Parse.{is_digit}
use Rattle.theory_grammar.specs.Offends.{kept, passed, offence, more, limits_from, limits}
use Rattle.expression_scan.specs.Said.{said_excess, said_offence}
use Rattle.expression_scan.specs.declared.limits.Excess.{Excess}
use Rattle.expression_scan.specs.declared.limits.Excess.TheVariants.{Large, Deep, Many}
use Rattle.expression_scan.specs.Laws.Runs.{drop_byte, rest_is}

-- the bytes before a place are kept: so many groups were opened and closed there, so many numbers have begun
pub record Checking (s : List ℕ) (inside : Bool) (opened closed count at : ℕ) : Type 0 where
  pub is : limits_from inside opened closed count at (drop at s) ≡ limits s
  pub opens : opened ≤ at
  pub closes : closed ≤ at
  pub counts : count ≤ at

more_most : (test : Bool) (n : ℕ) → more test n ≤ n + 1
more_most true n = omega arith
more_most false n = omega arith

-- the definition's steps
module _ (s : List ℕ) (inside : Bool) (opened closed count : ℕ) {at : ℕ} (h : at < length s) where
  on : offence inside opened closed count (get_or s at 0) (drop (at + 1) s) ≡ 0
      → limits_from inside opened closed count at (drop at s)
      ≡ limits_from (is_digit (get_or s at 0)) (more (eqb (get_or s at 0) 40) opened) (more (eqb (get_or s at 0) 41) closed)
      (more (is_digit (get_or s at 0) && not inside) count) (at + 1) (drop (at + 1) s)
  unfolding limits_from
  on e = rw (drop_byte s h, limits_from, e)

  stop : (n : ℕ) → offence inside opened closed count (get_or s at 0) (drop (at + 1) s) ≡ n → (n ≡ 0 → ⊥)
      → limits_from inside opened closed count at (drop at s) ≡ passed n at
  unfolding limits_from
  stop zero e z = absurd (z refl)
  stop (suc k) e z = rw (drop_byte s h, limits_from, e)

excess_some : (e : Excess) → (said_excess e ≡ 0 → ⊥)
excess_some Large z = cc
excess_some Deep z = cc
excess_some Many z = cc

module _ {s : List ℕ} {inside : Bool} {opened closed count at : ℕ} (C : Checking s inside opened closed count at) (h : at < length s) where
  abbrev pub Offers : Option Excess → Type 0
  Offers r =
      let u : List ℕ = take (length s - at) (drop at s) in
      said_offence r ≡ offence inside opened closed count (get_or u 0 0) (drop 1 u)

  -- the rest of the text, as a slice up to its end
  rest : take (length s - at) (drop at s) ≡ get_or s at 0 ∷ drop (at + 1) s
  rest = rest_is s at ∙ drop_byte s h

  here : (r : Option Excess) → Offers r → said_offence r ≡ offence inside opened closed count (get_or s at 0) (drop (at + 1) s)
  here r e = e ∙ ap (λ u. offence inside opened closed count (get_or u 0 0) (drop 1 u)) rest

  -- the first that offends
  pub checking_stops : {r : Option Excess} {e : Excess} → Offers r → r ≡ Some e → passed (said_excess e) at ≡ limits s
  checking_stops {r} {e} o some =
      sym (stop s inside opened closed count h (said_excess e) (sym (here r o) ∙ ap said_offence some) (excess_some e)) ∙ C.is

  pub checking_on : {r : Option Excess} → Offers r → r ≡ None → {digit : Bool} {o c m : ℕ} → digit ≡ is_digit (get_or s at 0) → o ≡ more (eqb (get_or s at 0) 40) opened
      → c ≡ more (eqb (get_or s at 0) 41) closed → m ≡ more (is_digit (get_or s at 0) && not inside) count
      → Checking s digit o c m (at + 1)
  checking_on {r} none is d o c m =
      record {
        is = rw (o, c, m, d) (sym (on s inside opened closed count h (sym (here r none) ∙ ap said_offence is)) ∙ C.is);
        opens = omega (arith, C.opens, o, more_most (eqb (get_or s at 0) 40) opened);
        closes = omega (arith, C.closes, c, more_most (eqb (get_or s at 0) 41) closed);
        counts = omega (arith, C.counts, m, more_most (is_digit (get_or s at 0) && not inside) count);
      }

pub checking_ends : {s : List ℕ} {inside : Bool} {opened closed count at : ℕ} → Checking s inside opened closed count at → length s ≤ at
    → kept ≡ limits s
unfolding limits_from
checking_ends {s} C h = rw (drop_of_length-le s h) at C.is
