-- The pairs of a walk as numbers: the side's first, then source · stride + target. All numbers below most_codes are of pairs: 32,512.
use Rattle.std.specs.Prelude.{◌≡◌, ◌⊎◌, true, false, ℕ, zero, suc, ◌+◌, ◌-◌, ◌*◌, ◌/◌, ◌%◌, ◌≤◌, ◌<◌, ltb}
use Rattle.std.proofs.Math.Option.{Option, none, some}
use Rattle.tables.specs.Limits.{most_pool}
use Rattle.tables.specs.Kinds.{reached_of}
use Rattle.theory_model.specs.Verdict.{Pair, before, after}
use Rattle.checking_pairs.specs.declared.pairs.Node.{Node}

-- nowhere has the number that no state has; a source has so many targets, every state and nowhere
abbrev pub nowhere : ℕ
nowhere = most_pool

abbrev pub stride : ℕ
stride = most_pool + 1

-- the first number of the after side, and how many numbers both sides have
abbrev pub after_side : ℕ
after_side = most_pool * stride

abbrev pub most_codes : ℕ
most_codes = 2 * after_side

abbrev pub side_of : ℕ → ℕ → Option ℕ → Pair
side_of zero s t = before s t
side_of (suc k) s t = after s t

unfoldable pub decode : ℕ → Pair
decode c =
    elim (ltb c after_side) [
      | true ↦ before (c / stride) (reached_of (c % stride))
      | false ↦ after ((c - after_side) / stride) (reached_of ((c - after_side) % stride))
    ]

abbrev pub reached_code : Option ℕ → ℕ
reached_code none = nowhere
reached_code (some t) = t

abbrev pub code : Pair → ℕ
code (before s t) = s * stride + reached_code t
code (after s t) = after_side + s * stride + reached_code t

-- the pair of a node of the code
abbrev pub pair_of : Node → Pair
pair_of x = side_of x.side x.source.0 (reached_of x.target.0)

pub record NodeFits (x : Node) : Type 0 where
  pub side : (x.side ≡ 0) ⊎ (x.side ≡ after_side)
  pub source : x.source.0 < most_pool
  pub target : x.target.0 ≤ most_pool

-- what stands for a node
pub record Coded (x : Node) (c : ℕ) : Type 0 where
  pub small : c < most_codes
  pub is : decode c ≡ pair_of x

pub record NodeOf (c : ℕ) (x : Node) : Type 0 where
  pub fits : NodeFits x
  pub is : decode c ≡ pair_of x
