use native.Mathlib.Omega.{arith}
use Rattle.reading_order.specs.Laws.Finding.{found_most, found_room, found_old, found_new}
use Rattle.reading_order.proofs.finding.FoundNodes.find.Goals as goal

pub returns-then-self-node-ne0 : goal.returns-then-self-node-ne0
returns-then-self-node-ne0 c = found_old c.args.self.now.found _ c.if-self-node-ne0.true

pub offset_bounds-self-self : goal.offset_bounds-self-self
offset_bounds-self-self c = omega (arith, found_most c.args.self.now.found)

pub bounds-self-self : goal.bounds-self-self
bounds-self-self c = found_room c.args.self.now.found _ c.requires c.if-self-node-ne0.false

pub overflow_add-self : goal.overflow_add-self
overflow_add-self c = omega (arith, found_most c.args.self.now.found)

pub invariant_of-self : goal.invariant_of-self
invariant_of-self c = record { found = (found_new c.args.self.now.found _ c.requires c.if-self-node-ne0.false).holds }

pub returns : goal.returns
returns c = found_new c.args.self.now.found _ c.requires c.if-self-node-ne0.false
