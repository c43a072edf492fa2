use native.Mathlib.Omega.{arith}
use Rattle.controls.specs.Laws.Begin.{numbering_next}
use Rattle.controls.proofs.numbering.with_machine.Goals as goal

pub returns-then-i-wide : goal.returns-then-i-wide
returns-then-i-wide c = numbering_next c.requires.numberable c.requires.numbering (omega (arith, c.wide.ensures.same, c.if-i-wide.true)) c.wide-then-i-wide.ensures.same c.wide-then-i-wide-2.ensures.same
