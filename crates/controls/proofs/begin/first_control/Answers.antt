use Rattle.controls.specs.Laws.Begin.{starts_are_states}
use Rattle.controls.proofs.begin.first_control.Goals as goal

pub control_of-requires : goal.control_of-requires
control_of-requires c = record { machines_valid = c.requires; states = starts_are_states c.args.m c.requires }
