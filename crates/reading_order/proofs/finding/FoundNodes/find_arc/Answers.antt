use mathlib.Core.Path.{sym, ap, ◌∙◌}
use native.Mathlib.Omega.{arith}
use Rattle.tables.specs.Said.{said_arc}
use Rattle.tables.specs.Laws.Lookup.{arc_small}
use Rattle.reading_order.specs.Laws.Finding.{adds_node, adds_none, grows_as, grows_none}
use Rattle.reading_order.proofs.finding.FoundNodes.find_arc.Goals as goal

pub returns-in_default : goal.returns-in_default
returns-in_default c =
    let a = c.args in
    let arc = sym c.arc_from.ensures ∙ ap said_arc c.in_default.is in
    grows_as (adds_none a.arcs.now a.row a.rank a.m.0 arc) (grows_none a.self.now.found)

pub overflow_add-s : goal.overflow_add-s
overflow_add-s c = omega (arith, arc_small _ _ c.requires.arcs_small (sym c.arc_from.ensures ∙ ap said_arc c.in-Some.is))

pub find-requires : goal.find-requires
find-requires c =
    let below = arc_small _ _ c.requires.arcs_small (sym c.arc_from.ensures ∙ ap said_arc c.in-Some.is) in
    omega (arith, below, c.wide.ensures.same, c.requires.rank_lt_ranks)

pub returns : goal.returns
returns c =
    let a = c.args in
    let arc = sym c.arc_from.ensures ∙ ap said_arc c.in-Some.is in
    grows_as (adds_node a.arcs.now a.row a.rank a.m.0 arc (omega (arith, c.wide.ensures.same))) c.find.ensures
