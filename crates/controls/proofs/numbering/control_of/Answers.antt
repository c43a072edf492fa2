use native.Mathlib.Omega.{arith}
use Rattle.controls.specs.Laws.Begin.{read_numberable, number_is_control, numbering_first, numbering_end}
use Rattle.controls.proofs.numbering.control_of.Goals as goal

pub with_machine-two-requires : goal.with_machine-two-requires
with_machine-two-requires c =
    let n = read_numberable c.args.m c.requires.machines_valid _ c.requires.states in
    record { numberable = n; numbering = numbering_first n c.wide.ensures.same }

pub with_machine-three-requires : goal.with_machine-three-requires
with_machine-three-requires c = record { numberable = read_numberable c.args.m c.requires.machines_valid _ c.requires.states; numbering = c.with_machine-two.ensures }

pub with_machine-requires : goal.with_machine-requires
with_machine-requires c = record { numberable = read_numberable c.args.m c.requires.machines_valid _ c.requires.states; numbering = c.with_machine-three.ensures }

pub returns : goal.returns
returns c = numbering_end (read_numberable c.args.m c.requires.machines_valid _ c.requires.states) c.with_machine.ensures c.requires.machines_valid.most

pub overflow_cast-result : goal.overflow_cast-result
overflow_cast-result c =
    let e = numbering_end (read_numberable c.args.m c.requires.machines_valid _ c.requires.states) c.with_machine.ensures c.requires.machines_valid.most in
    omega (arith, e, number_is_control c.args.m c.requires.machines_valid _ c.requires.states, c.requires.machines_valid.product_most)
