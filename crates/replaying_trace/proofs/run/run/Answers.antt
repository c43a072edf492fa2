use mathlib.Core.Path.{refl}
use native.Mathlib.Omega.{arith}
use Rattle.replaying_trace.specs.Run.{state, opening}
use Rattle.replaying_trace.specs.Laws.Loop.{falls, reached_begin, reached_step, halted_settleable, reached_ran}
use Rattle.replaying_trace.proofs.run.run.Goals as goal

pub steps-init : goal.steps-init
steps-init c = reached_begin c.requires

pub steps-smaller : goal.steps-smaller
steps-smaller c =
    let a = falls (state c.steps.r c.steps.memory c.steps.p) c.in-Ok.ensures in
    omega (arith, a.0, a.1)

pub steps-preserved : goal.steps-preserved
steps-preserved c =
    reached_step (opening c.args.r.now c.args.memory.now) (state c.steps.r c.steps.memory c.steps.p) c.steps.invariant c.in-Ok.ensures

pub settle-requires : goal.settle-requires
settle-requires c =
    halted_settleable (opening c.args.r.now c.args.memory.now) (state c.steps.r c.steps.memory c.steps.p) c.steps.invariant c.in-Err.ensures

pub returns-in-Err : goal.returns-in-Err
returns-in-Err c =
    reached_ran (opening c.args.r.now c.args.memory.now) (state c.steps.r c.steps.memory c.steps.p) c.steps.invariant c.in-Err.ensures refl refl c.settle.ensures
