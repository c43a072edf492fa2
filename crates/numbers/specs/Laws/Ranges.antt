-- The ranges of numbers that are read: a value lies where its reader says.
use Rattle.std.specs.Prelude.{ℕ, ◌≤◌, ◌<◌, ◌≡◌, List, Bool, true, leb}
use Rattle.std.proofs.Math.Path.{subst}
use Rattle.std.proofs.Common.{◌∙◌}
use Rattle.std.proofs.Math.Dec.{ltb}
use borrow.Author.Tests.{ltb-true, leb-true}
use Rattle.numbers.specs.Part.{Part, got, refused, provided, and_then}
use Rattle.numbers.specs.Laws.Parts.{not_refused, provided_got, and_then_got, same_value}
use Rattle.numbers.specs.Number.{read_number, read_within, read_below, read_two}

module _ (s : List ℕ) (at : ℕ) {v next : ℕ} where
  pub below_range : (limit : ℕ) → read_below s at limit ≡ got v next → v < limit
  unfolding read_below
  below_range limit e =
      let t = and_then_got (read_number s at) e in
      let g = provided_got (ltb t.value limit) 5 at (got t.value t.place) t.then in
      subst (λ x. x < limit) (same_value g.1) (ltb-true t.value limit g.0)

  pub within_range : (least most : ℕ) → read_within s at least most ≡ got v next → (least ≤ v) × (v ≤ most)
  unfolding read_within
  within_range least most e =
      let t = and_then_got (read_number s at) e in
      let g = provided_got (leb least t.value) 5 at _ t.then in
      let h = provided_got (leb t.value most) 5 at (got t.value t.place) g.1 in
      subst (λ x. (least ≤ x) × (x ≤ most)) (same_value h.1)
      (leb-true least t.value g.0, leb-true t.value most h.0)

-- what was read and then tested was read, and the test holds of it
pub tested_got : (x : Part ℕ) (b : ℕ → Bool) (k p : ℕ) {v next : ℕ} → and_then x (λ w n. provided (b w) k p (got w n)) ≡ got v next
    → (x ≡ got v next) × (b v ≡ true)
tested_got (got w n) b k p e =
    let g = provided_got (b w) k p (got w n) e in (g.1, subst (λ y. b y ≡ true) (same_value g.1) g.0)
tested_got (refused j q) b k p e = absurd (not_refused e)

module _ (s : List ℕ) (at : ℕ) {v next : ℕ} where
  -- what was read in range is the number that stands there
  pub below_number : (limit : ℕ) → read_below s at limit ≡ got v next → read_number s at ≡ got v next
  unfolding read_below
  below_number limit e = (tested_got (read_number s at) (λ w. ltb w limit) 5 at e).0

  pub within_number : (least most : ℕ) → read_within s at least most ≡ got v next → read_number s at ≡ got v next
  unfolding read_within
  within_number least most e =
      let t = and_then_got (read_number s at) e in
      let g = provided_got (leb least t.value) 5 at _ t.then in
      let h = provided_got (leb t.value most) 5 at (got t.value t.place) g.1 in
      t.first ∙ h.1

module _ (s : List ℕ) (at : ℕ) {xy : ℕ × ℕ} {next : ℕ} where
  pub two_range : (a b : ℕ) → read_two s at a b ≡ got xy next → (xy.0 < a) × (xy.1 < b)
  unfolding read_two
  two_range a b e =
      let t = and_then_got (read_below s at a) e in
      let u = and_then_got (read_below s t.place b) t.then in
      subst (λ z. (z.0 < a) × (z.1 < b)) (same_value u.then)
      (below_range s at a t.first, below_range s t.place b u.first)
