-- Where reading is, and where it refuses: places only grow and stay within the input, and a part refuses by 3 to 8, or by 23 at the first number.
use Rattle.std.specs.Prelude.{ℕ, zero, suc, ◌+◌, ◌-◌, ◌*◌, ◌≤◌, ◌≡◌, refl, Bool, true, false, cond, ◌⊎◌, List, length, leb}
use Rattle.std.proofs.Common.{zero-le, sym, ap, subst, ◌∙◌, inl, inr}
use Rattle.std.proofs.Math.ListN.{get_or}
use Rattle.std.proofs.Math.Dec.{ltb}
use borrow.Author.Tests.{ltb-true}
use native.Mathlib.Omega.{arith}
use Rattle.numbers.specs.Part.{Part, got, refused, provided, and_then}
use Rattle.numbers.specs.Number.{read_number, read_within, read_below, read_two}
use Rattle.numbers.specs.Laws.Rounds.{Rounds}

-- What a refusal by 3 to 8 says of its place: the end of the input, a number in no allowed form, or a number that is refused for
-- what it says. 23 is said of the first number.
pub record RefusalPlace (s : List ℕ) (k p : ℕ) : Type 0 where
  pub ends : k ≡ 3 → p ≡ length s
  pub malformed : k ≡ 4 → read_number s p ≡ refused 4 p
  pub number : 5 ≤ k → k ≤ 8 → (v : ℕ) × (next : ℕ) × (read_number s p ≡ got v next)
  pub empty : k ≡ 23 → p ≡ 0

-- a refusal at place at or after it, by a number from 3 to top; or by 23
pub record Refuses (s : List ℕ) (top at k p : ℕ) : Type 0 where
  pub least : 3 ≤ k
  pub most : (k ≡ 23 → ⊥) → k ≤ top
  pub from : (k ≡ 23 → ⊥) → at ≤ p
  pub inside : p ≤ length s
  pub placed : RefusalPlace s k p

pub refuses_here : (s : List ℕ) (top at k : ℕ) → 3 ≤ k → k ≤ top → at ≤ length s → RefusalPlace s k at → Refuses s top at k at
refuses_here s top at k a b h placed = record { least = a; most = λ n. b; from = λ n. omega arith; inside = h; placed = placed }

-- a number that is well formed is refused for what it says
pub refuses_number : (s : List ℕ) (at k : ℕ) {v next : ℕ} → 5 ≤ k → k ≤ 8 → at ≤ length s → read_number s at ≡ got v next → Refuses s 8 at k at
refuses_number s at k {v} {next} a b h e =
    refuses_here s 8 at k (omega arith) b h
    (record { ends = λ n. absurd (omega arith); malformed = λ n. absurd (omega arith); number = λ _ _. (v, next, e); empty = λ n. absurd (omega arith) })

-- 9 and 10 are no part's
pub refuses_late : (s : List ℕ) (at k : ℕ) → 9 ≤ k → k ≤ 10 → at ≤ length s → Refuses s 10 at k at
refuses_late s at k a b h =
    refuses_here s 10 at k (omega arith) b h
    (record { ends = λ n. absurd (omega arith); malformed = λ n. absurd (omega arith); number = λ _ g. absurd (omega arith); empty = λ n. absurd (omega arith) })

-- 23 is at the first number, wherever reading is
pub refuses_empty : (s : List ℕ) (top at : ℕ) → Refuses s top at 23 0
refuses_empty s top at =
    record {
      least = omega arith;
      most = λ n. absurd (n refl);
      from = λ n. absurd (n refl);
      inside = zero-le;
      placed =
          record {
            ends = λ n. absurd (omega arith);
            malformed = λ n. absurd (omega arith);
            number = λ _ g. absurd (omega arith);
            empty = λ n. refl;
          };
    }

-- a part that begins at place at: it goes on from a place between at and the end, or it refuses there
module _ {A : Type 0} where
  abbrev pub Fair : List ℕ → ℕ → ℕ → Part A → Type 0
  Fair s top at (got v next) = (at ≤ next) × (next ≤ length s)
  Fair s top at (refused k p) = Refuses s top at k p

  pub fair_earlier : (s : List ℕ) (top at at' : ℕ) (x : Part A) → at ≤ at' → Fair s top at' x → Fair s top at x
  fair_earlier s top at at' (got v next) h f = (omega arith, f.1)
  fair_earlier s top at at' (refused k p) h f =
      record { least = f.least; most = f.most; from = λ n. omega (arith, f.from n); inside = f.inside; placed = f.placed }

  pub fair_more : (s : List ℕ) (top more at : ℕ) (x : Part A) → top ≤ more → Fair s top at x → Fair s more at x
  fair_more s top more at (got v next) h f = f
  fair_more s top more at (refused k p) h f =
      record { least = f.least; most = λ n. omega (arith, f.most n); from = f.from; inside = f.inside; placed = f.placed }

  pub fair_provided : (s : List ℕ) (top at : ℕ) (b : Bool) (k p : ℕ) (x : Part A) → Refuses s top at k p → Fair s top at x
      → Fair s top at (provided b k p x)
  fair_provided s top at true k p x h f = f
  fair_provided s top at false k p x h f = h

  pub fair_cond : (s : List ℕ) (top at : ℕ) (b : Bool) (x y : Part A) → Fair s top at x → Fair s top at y
      → Fair s top at (cond b x y)
  fair_cond s top at true x y f g = f
  fair_cond s top at false x y f g = g

module _ {A B : Type 0} where
  pub fair_then : (s : List ℕ) (top at : ℕ) (x : Part A) (f : A → ℕ → Part B) → Fair s top at x
      → ((v : A) (next : ℕ) → next ≤ length s → Fair s top next (f v next)) → Fair s top at (and_then x f)
  fair_then s top at (got v next) f h g = fair_earlier s top at next (f v next) h.0 (g v next h.1)
  fair_then s top at (refused k p) f h g = h

  -- what follows may refuse at the place of the part itself, where it tests what was read
  pub fair_tested : (s : List ℕ) (top at : ℕ) (x : Part A) (f : A → ℕ → Part B) → Fair s top at x
      → ((v : A) (next : ℕ) → x ≡ got v next → at ≤ next → next ≤ length s → Fair s top at (f v next)) → Fair s top at (and_then x f)
  fair_tested s top at (got v next) f h g = g v next refl h.0 h.1
  fair_tested s top at (refused k p) f h g = h

module _ {S B : Type 0} where
  pub rounds_fair : (s : List ℕ) (top : ℕ) {loop : ℕ → ℕ → ℕ → S → Part S} {read : ℕ → ℕ → S → Part B} {put : ℕ → B → S → S}
      → Rounds loop read put → ((i at : ℕ) (x : S) → at ≤ length s → Fair s top at (read i at x))
      → (left i at : ℕ) (x : S) → at ≤ length s → Fair s top at (loop left i at x)
  rounds_fair s top r f zero i at x h = subst (Fair s top at) (sym (r.stop i at x)) (omega arith, h)
  rounds_fair s top {loop} {read} {put} r f (suc left) i at x h =
      subst (Fair s top at) (sym (r.round left i at x))
      (fair_then s top at (read i at x) (λ v next. loop left (i + 1) next (put i v x)) (f i at x h)
      (λ v next h'. rounds_fair s top r f left (i + 1) next (put i v x) h'))

-- how a number is read or refused: 3 at the end of the input, 4 at its first byte
abbrev pub Told : List ℕ → ℕ → Part ℕ → Type 0
Told s at (got v next) = (at ≤ next) × (next ≤ length s)
Told s at (refused k p) = ((k ≡ 3) × (p ≡ length s)) ⊎ ((k ≡ 4) × (p ≡ at))

pub told_provided : (s : List ℕ) (at : ℕ) (b : Bool) (k p : ℕ) (x : Part ℕ) → ((k ≡ 3) × (p ≡ length s)) ⊎ ((k ≡ 4) × (p ≡ at))
    → (b ≡ true → Told s at x) → Told s at (provided b k p x)
told_provided s at true k p x h f = f refl
told_provided s at false k p x h f = h

pub told_cond : (s : List ℕ) (at : ℕ) (b : Bool) (x y : Part ℕ) → Told s at x → Told s at y → Told s at (cond b x y)
told_cond s at true x y f g = f
told_cond s at false x y f g = g

module _ (s : List ℕ) where
  pub number_told : (at : ℕ) → Told s at (read_number s at)
  unfolding read_number
  number_told at =
      told_provided s at (ltb at (length s)) 3 (length s) _ (inl (refl, refl)) (λ e₁.
      let h₁ = ltb-true at (length s) e₁ in
      told_cond s at (ltb (get_or s at 0) 128) (got (get_or s at 0) (at + 1)) _ (omega arith)
      (told_provided s at (ltb (at + 1) (length s)) 3 (length s) _ (inl (refl, refl)) (λ e₂.
      let h₂ = ltb-true (at + 1) (length s) e₂ in
      told_provided s at (ltb 0 (get_or s (at + 1) 0)) 4 at _ (inr (refl, refl)) (λ _.
      told_provided s at (ltb (get_or s (at + 1) 0) 128) 4 at (got (get_or s at 0 - 128 + 128 * get_or s (at + 1) 0) (at + 2))
      (inr (refl, refl)) (λ _. omega arith)))))

  pub number_fair : (at : ℕ) → at ≤ length s → Fair s 8 at (read_number s at)
  number_fair at h = go (read_number s at) refl (number_told at)
    where
      why : (k p : ℕ) → read_number s at ≡ refused k p → ((k ≡ 3) × (p ≡ length s)) ⊎ ((k ≡ 4) × (p ≡ at)) → RefusalPlace s k p
      why k p e (inl t) =
          record { ends = λ n. t.1; malformed = λ n. absurd (omega arith); number = λ a b. absurd (omega arith); empty = λ n. absurd (omega arith) }
      why k p e (inr t) =
          record {
            ends = λ n. absurd (omega arith);
            malformed = λ n. ap (read_number s) t.1 ∙ e ∙ ap (λ j. refused j p) n;
            number = λ a b. absurd (omega arith);
            empty = λ n. absurd (omega arith);
          }

      where_to : (k p : ℕ) → ((k ≡ 3) × (p ≡ length s)) ⊎ ((k ≡ 4) × (p ≡ at)) → (3 ≤ k) × (k ≤ 8) × (at ≤ p) × (p ≤ length s)
      where_to k p (inl t) = omega arith
      where_to k p (inr t) = omega arith

      go : (x : Part ℕ) → read_number s at ≡ x → Told s at x → Fair s 8 at x
      go (got v next) e t = t
      go (refused k p) e t =
          let b = where_to k p t in
          record { least = b.0; most = λ n. b.1; from = λ n. b.2; inside = b.3; placed = why k p e t }

  -- a number that was read and is then tested
  pub tested_fair : (at : ℕ) (x : Part ℕ) (test : ℕ → Bool) (k : ℕ) → 5 ≤ k → k ≤ 8 → at ≤ length s
      → ((v next : ℕ) → x ≡ got v next → read_number s at ≡ got v next) → Fair s 8 at x
      → Fair s 8 at (and_then x (λ v next. provided (test v) k at (got v next)))
  tested_fair at x test k a b h number f =
      fair_tested s 8 at x _ f (λ v next e l g.
      fair_provided s 8 at (test v) k at (got v next) (refuses_number s at k a b h (number v next e)) (l, g))

  pub within_fair : (at least most : ℕ) → at ≤ length s → Fair s 8 at (read_within s at least most)
  unfolding read_within
  within_fair at least most h =
      fair_tested s 8 at (read_number s at) _ (number_fair at h) (λ v next e l g.
      let r = refuses_number s at 5 (omega arith) (omega arith) h e in
      fair_provided s 8 at (leb least v) 5 at _ r (fair_provided s 8 at (leb v most) 5 at (got v next) r (l, g)))

  pub below_fair : (at limit : ℕ) → at ≤ length s → Fair s 8 at (read_below s at limit)
  unfolding read_below
  below_fair at limit h =
      tested_fair at (read_number s at) (λ v. ltb v limit) 5 (omega arith) (omega arith) h (λ v next e. e) (number_fair at h)

  pub two_fair : (at a b : ℕ) → at ≤ length s → Fair s 8 at (read_two s at a b)
  unfolding read_two
  two_fair at a b h =
      fair_then s 8 at (read_below s at a) _ (below_fair at a h) (λ x p h₁.
      fair_then s 8 p (read_below s p b) (λ y next. got (x, y) next) (below_fair p b h₁) (λ y next h₂. (omega arith, h₂)))
