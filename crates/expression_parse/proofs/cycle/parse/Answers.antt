use Rattle.std.proofs.lemmas.Result.{err_from_is_err_and}
use Rattle.expression_parse.specs.Steps.{whole, outside}
use Rattle.expression_parse.specs.Laws.Cycle.{did, halted}
use Rattle.expression_parse.specs.Laws.Groups.{text_ready, text_halts, text_closed, text_parses}
use Rattle.expression_parse.proofs.cycle.parse.Goals as goal

pub alternatives-requires : goal.alternatives-requires
alternatives-requires c = text_ready c.args.s.now c.skip-from.ensures

pub returns-in_err-part : goal.returns-in_err-part
returns-in_err-part c =
    let h = halted c.alternatives.ensures c.in_err-part.was in
    let p = err_from_is_err_and c.from_residual.result c.from_residual.ensures.1 in
    rw (p.1, p.2) (outside h.within (text_halts c.args.s.now c.skip-from.ensures h))

pub returns-then-end-s : goal.returns-then-end-s
returns-then-end-s c =
    let w = did c.alternatives.ensures c.in_ok-part.was in
    outside w.within (text_closed c.args.s.now c.skip-from.ensures w c.if-end-s.true)

pub returns : goal.returns
returns c =
    whole (text_parses c.args.s.now c.skip-from.ensures (did c.alternatives.ensures c.in_ok-part.was) c.if-end-s.false)
