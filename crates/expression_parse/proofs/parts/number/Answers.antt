use Rattle.std.proofs.Common.{arith, ◌≡◌, ◌≤◌, get_or}
use Rattle.expression_parse.specs.Steps.{went, stops}
use Rattle.expression_parse.specs.Laws.Factors.{run_value, run_behind, run_within, number_stops, number_went}
use Rattle.expression_parse.proofs.parts.number.Goals as goal
use Rattle.expression_parse.proofs.parts.number.Goals.{else-s-at-eq48-via-then-s-at-eq48+else-run-gt1, else-s-at-eq48-via-else-s-at-eq48}

pub returns-then-run-gt1 : goal.returns-then-run-gt1
returns-then-run-gt1 c =
    stops (number_stops c.requires (run_behind c.args.s.now c.args.at c.leading_run-run.ensures) c.if-s-at-eq48.true (omega (arith, c.if-run-gt1.true)))

pub overflow_add-next : goal.overflow_add-next
overflow_add-next c = omega (arith, c.requires.within, run_within c.args.s.now c.args.at c.leading_run-run.ensures)

pub returns : goal.returns
returns c =
    let last : get_or c.args.s.now c.args.at 0 ≡ 48 → c.leading_run-run.result.len ≤ 1 =
    elim c.else-s-at-eq48.branch [
      | else-s-at-eq48-via-then-s-at-eq48+else-run-gt1 w ↦ λ e. w.if-run-gt1.false
      | else-s-at-eq48-via-else-s-at-eq48 w ↦ λ e. absurd (w.if-s-at-eq48.false e)
    ] in
    let run = c.leading_run-run.ensures in
    rw c.starred.ensures.label
    (went
    (c.starred.ensures.part.becomes _ _ _ _ _
    (number_went c.requires (run_behind c.args.s.now c.args.at run) (λ e. omega (arith, last e)) (run_value c.args.s.now c.args.at run) c.only-set.ensures c.put.ensures.label c.put.ensures.follow)))
