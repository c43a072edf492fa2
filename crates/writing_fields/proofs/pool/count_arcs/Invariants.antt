use Prim.Native.Nat.{ℕ, ◌≤◌, ◌+◌, ◌-◌}
use mathlib.Core.Path.{◌≡◌}
use lib.ListN.{length}
use Rattle.theory_format.specs.Spelled.{arcs_of}
use Rattle.writing_fields.specs.Parts.{arcs_in}
use Rattle.writing_fields.proofs.pool.count_arcs.Given as goal

abbrev pub invariant-loop-arc : goal.invariant-loop-arc
invariant-loop-arc l =
    (l.count + length {A = ℕ × ℕ} (arcs_of l.row 0 (length l.row - l.arc-index) l.arc-index) ≡ length {A = ℕ × ℕ} (arcs_in l.row))
    × (l.count ≤ l.arc-index)
