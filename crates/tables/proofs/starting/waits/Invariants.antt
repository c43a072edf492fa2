use mathlib.Core.Path.{◌≡◌}
use lib.ListN.{drop}
use Rattle.tables.specs.Starting.{waits}
use Rattle.tables.proofs.starting.waits.Given as goal

abbrev pub invariant-loop-length : goal.invariant-loop-length
invariant-loop-length l = waits (drop l.length-index l.length-items) ≡ waits l.length-items
