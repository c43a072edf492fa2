-- Whatever numbers the run of document 01's file R is fed, every configuration is inside.
use Rattle.std.specs.Prelude.{List, ℕ}
use Rattle.std.proofs.Common.{subst}
use Rattle.theory_exploration.specs.Mem.{Mem}
use Rattle.theory_model.specs.Model.{Configuration, run}
use Rattle.theory_model.specs.Session.{Inside}
use Rattle.theory_model.specs.TwoRuns.{Says}
use Rattle.theory_model.specs.Examples.{model_r, r_closed}
use Rattle.theory_model.specs.Laws.Witness.{R, r_well_formed}
use Rattle.theory_model.proofs.Verdicts.{two_runs}

pub r_never_leaves : (ts : List ℕ) (γ : Configuration) → Mem γ (run model_r ts) → Inside R γ
r_never_leaves ts γ m = (subst (Says R ts) r_closed (two_runs R r_well_formed ts).says γ m).0
