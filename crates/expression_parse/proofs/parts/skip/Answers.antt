use Rattle.std.proofs.Common.{ap, sym, ◌∙◌, ◌≡◌, ◌+◌, ◌-◌, List, ℕ, length, take, drop, take_while, min, arith}
use Rattle.std.proofs.lemmas.List.{drop_min, take_rest}
use Rattle.expression_scan.specs.Runs.{leading}
use Rattle.expression_parse.specs.Steps.{is_space}
use Rattle.expression_parse.specs.Laws.Machine.{leading_is}
use Rattle.expression_parse.specs.Laws.Factors.{spaces_most}
use Rattle.expression_parse.proofs.parts.skip.Goals as goal

spaces_there : (s : List ℕ) (at : ℕ) {m n : ℕ} → m ≡ min at (length s) → n ≡ length (take_while is_space (take (length s - m) (drop m s))) → n ≡ leading is_space (drop at s)
spaces_there s at {m} {n} cut e =
    e ∙ ap (λ l. length (take_while is_space l)) (take_rest s m ∙ ap (λ i. drop i s) cut ∙ drop_min at s) ∙ sym (leading_is is_space (drop at s))

pub overflow_add-result : goal.overflow_add-result
overflow_add-result c =
    omega (arith, spaces_there c.args.s.now c.args.at c.min.ensures c.spaces.ensures, spaces_most c.args.s.now c.args.at, c.ranges.at)

pub returns : goal.returns
returns c = ap (λ n. c.args.at + n) (spaces_there c.args.s.now c.args.at c.min.ensures c.spaces.ensures)
