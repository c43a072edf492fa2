use mathlib.Core.List.{[], ◌∷◌}
use lib.Seq.{length-sets, lt-length-sets}
use native.Mathlib.Omega.{arith}
use Rattle.c_replies.specs.Laws.{record_stored}
use borrow.Author.Rules.{rules}
use Rattle.c_replies.proofs.replays.put_record.Goals as goal

pub bounds-run-1 : goal.bounds-run-1
bounds-run-1 c = lt-length-sets c.args.run.now 0 (_ ∷ []) (omega (arith, c.requires))

pub bounds-run-2 : goal.bounds-run-2
bounds-run-2 c = lt-length-sets c.args.run.now 0 (_ ∷ _ ∷ []) (omega (arith, c.requires))

pub bounds-run-3 : goal.bounds-run-3
bounds-run-3 c = lt-length-sets c.args.run.now 0 (_ ∷ _ ∷ _ ∷ []) (omega (arith, c.requires))

pub bounds-run-4 : goal.bounds-run-4
bounds-run-4 c = lt-length-sets c.args.run.now 0 (_ ∷ _ ∷ _ ∷ _ ∷ []) (omega (arith, c.requires))

pub bounds-run-5 : goal.bounds-run-5
bounds-run-5 c = lt-length-sets c.args.run.now 0 (_ ∷ _ ∷ _ ∷ _ ∷ _ ∷ []) (omega (arith, c.requires))

pub bounds-run-6 : goal.bounds-run-6
bounds-run-6 c = lt-length-sets c.args.run.now 0 (_ ∷ _ ∷ _ ∷ _ ∷ _ ∷ _ ∷ []) (omega (arith, c.requires))

pub bounds-run-7 : goal.bounds-run-7
bounds-run-7 c = lt-length-sets c.args.run.now 0 (_ ∷ _ ∷ _ ∷ _ ∷ _ ∷ _ ∷ _ ∷ []) (omega (arith, c.requires))

pub bounds-run-8 : goal.bounds-run-8
bounds-run-8 c = lt-length-sets c.args.run.now 0 (_ ∷ _ ∷ _ ∷ _ ∷ _ ∷ _ ∷ _ ∷ _ ∷ []) (omega (arith, c.requires))

pub bounds-run-9 : goal.bounds-run-9
bounds-run-9 c = lt-length-sets c.args.run.now 0 (_ ∷ _ ∷ _ ∷ _ ∷ _ ∷ _ ∷ _ ∷ _ ∷ _ ∷ []) (omega (arith, c.requires))

pub bounds-run-10 : goal.bounds-run-10
bounds-run-10 c = lt-length-sets c.args.run.now 0 (_ ∷ _ ∷ _ ∷ _ ∷ _ ∷ _ ∷ _ ∷ _ ∷ _ ∷ _ ∷ []) (omega (arith, c.requires))

pub bounds-run-11 : goal.bounds-run-11
bounds-run-11 c = lt-length-sets c.args.run.now 0 (_ ∷ _ ∷ _ ∷ _ ∷ _ ∷ _ ∷ _ ∷ _ ∷ _ ∷ _ ∷ _ ∷ []) (omega (arith, c.requires))

pub shape_of-run : goal.shape_of-run
shape_of-run c = length-sets c.args.run.now 0 (_ ∷ _ ∷ _ ∷ _ ∷ _ ∷ _ ∷ _ ∷ _ ∷ _ ∷ _ ∷ _ ∷ _ ∷ [])

pub returns : goal.returns
returns c = record_stored c.args.run.now c.args.r c.requires (search rules) (search rules) (search rules)
