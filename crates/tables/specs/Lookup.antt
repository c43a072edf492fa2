-- Lookup in the tables that all diagrams share: the root of a control state, one message more, final marks.
use Rattle.std.specs.Prelude.{ℕ, ◌-◌, ◌≤◌, ◌≡◌, Bool, true, false, List, length, get_or, eqb}
use Rattle.std.proofs.Math.Option.{Option, none, some}
use Rattle.tables.specs.Limits.{most_pool}
use Rattle.tables.specs.Kinds.{reached_of}
use Rattle.tables.specs.Pool.{pool_arcs, arc_at}

-- 0 is no root, else 1 is added to it
abbrev pub root_of : List ℕ → ℕ → Option ℕ
root_of roots c = elim (eqb (get_or roots c 0) 0) [ true ↦ none | false ↦ some (get_or roots c 0 - 1) ]

-- from nowhere there is nowhere to go
abbrev pub along_arc : List ℕ → Option ℕ → ℕ → Option ℕ
along_arc arcs none m = none
along_arc arcs (some s) m = arc_at arcs s m

-- a final state is marked by 1; nowhere is not final
abbrev pub final_at : List ℕ → Option ℕ → Bool
final_at finals none = false
final_at finals (some s) = eqb (get_or finals s 0) 1

-- WHAT IS ASKED of the table of arcs: each leads to a state, so that nowhere has a number of its own
pub record ArcsSmall (arcs : List ℕ) : Type 0 where
  pub long : length arcs ≡ pool_arcs
  pub each : (k : ℕ) → get_or arcs k 0 ≤ most_pool

-- WHAT IS FOUND: the number r stands for the root of a control state, and for where a message leads
pub record RootAt (roots : List ℕ) (c r : ℕ) : Type 0 where
  pub is : reached_of r ≡ root_of roots c
  pub most : r ≤ most_pool

pub record AlongTo (arcs : List ℕ) (t m r : ℕ) : Type 0 where
  pub is : reached_of r ≡ along_arc arcs (reached_of t) m
  pub most : r ≤ most_pool
