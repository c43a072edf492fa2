use Prim.Native.Nat.{◌≤◌}
use mathlib.Core.Path.{◌≡◌}
use lib.ListN.{drop}
use Rattle.theory_model.specs.Model.{sizes_product}
use Rattle.controls.specs.Controls.{sizes_of}
use Rattle.controls.proofs.parting.product_from.Given as goal

abbrev pub invariant-loop-j : goal.invariant-loop-j
invariant-loop-j l = (l.product ≡ sizes_product (drop l.j (sizes_of l.m))) × (l.i ≤ l.j)
