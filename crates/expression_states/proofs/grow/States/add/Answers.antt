use Rattle.std.proofs.Common.{rules, sym, ◌∙◌, ◌≡◌, length, eqb-true, arith}
use Rattle.std.proofs.lemmas.Bool.{eqb-false}
use Rattle.expression_states.specs.Laws.Places.{listed}
use Rattle.expression_states.specs.Laws.Growing.{adds_empty, adds_old, adds_new}
use Rattle.expression_states.proofs.grow.States.add.Goals as goal

pub returns-then-is_empty : goal.returns-then-is_empty
returns-then-is_empty c = adds_empty _ _ (eqb-true _ 0 (sym c.is_empty.ensures ∙ c.if-is_empty.true))

pub returns-then-is_some : goal.returns-then-is_some
returns-then-is_some c =
    adds_old _ _ (eqb-false _ 0 (sym c.is_empty.ensures ∙ c.if-is_empty.false))
    (sym (listed _ c.found.ensures c.place_of.ensures c.is_some.ensures) ∙ c.if-is_some.true)

pub returns : goal.returns
returns c =
    adds_new _ _ (eqb-false _ 0 (sym c.is_empty.ensures ∙ c.if-is_empty.false))
    (sym (listed _ c.found.ensures c.place_of.ensures c.is_some.ensures) ∙ c.if-is_some.false)
    (let long : length c.args.self.now.sets ≡ 159 = search (rules, c.well_formed) in omega (arith, long, c.requires))
