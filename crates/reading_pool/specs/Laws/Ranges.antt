-- The ranges of what is read of the pool: a value lies where its field says.
use Rattle.std.specs.Prelude.{ℕ, ◌≤◌, ◌<◌, ◌≡◌, List}
use Rattle.std.proofs.Common.{leb-true}
use Rattle.std.proofs.Math.Path.{subst}
use Rattle.std.proofs.Math.Dec.{leb}
use Rattle.numbers.specs.Part.{got}
use Rattle.numbers.specs.Laws.Parts.{and_then_got, same_value}
use Rattle.numbers.specs.Number.{read_number, read_below}
use Rattle.numbers.specs.Laws.Ranges.{below_range, tested_got, below_number}
use Rattle.reading_pool.specs.Pool.{read_ascending, read_arc}

module _ (s : List ℕ) (at : ℕ) {v next : ℕ} where
  -- an arc's message
  pub ascending_range : (sum least : ℕ) → read_ascending s at sum least ≡ got v next → (least ≤ v) × (v < sum)
  unfolding read_ascending
  ascending_range sum least e =
      let t = tested_got (read_below s at sum) (λ w. leb least w) 8 at e in
      (leb-true least v t.1, below_range s at sum t.0)

  pub ascending_number : (sum least : ℕ) → read_ascending s at sum least ≡ got v next → read_number s at ≡ got v next
  unfolding read_ascending
  ascending_number sum least e = below_number s at sum (tested_got (read_below s at sum) (λ w. leb least w) 8 at e).0

module _ (s : List ℕ) (at : ℕ) {xy : ℕ × ℕ} {next : ℕ} where
  -- an arc: message and target
  pub arc_range : (n sum least : ℕ) → read_arc s at n sum least ≡ got xy next → (least ≤ xy.0) × (xy.0 < sum) × (xy.1 < n)
  unfolding read_arc
  arc_range n sum least e =
      let t = and_then_got (read_ascending s at sum least) e in
      let u = and_then_got (read_below s t.place n) t.then in
      let r = ascending_range s at sum least t.first in
      subst (λ z. (least ≤ z.0) × (z.0 < sum) × (z.1 < n)) (same_value u.then)
      (r.0, r.1, below_range s t.place n u.first)
