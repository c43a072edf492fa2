use native.Mathlib.Omega.{arith}
use mathlib.Core.Path.{ap}
use mathlib.Core.List.{◌++◌}
use lib.ListN.{drop}
use Rattle.checking_walk.specs.Laws.Shown.{laid_turned}
use Rattle.checking_walk.proofs.contents.show.Goals as goal

pub returns : goal.returns
returns c =
    laid_turned c.backwards-n.ensures (omega (arith, c.requires.contents_least_in_bounds))
    (ap (λ l. l ++ drop c.backwards-n.result c.backwards-n.new.contents) c.reverse.ensures.after)
