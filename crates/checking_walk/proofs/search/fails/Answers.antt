use mathlib.Core.Path.{sym, ap, ◌∙◌}
use mathlib.Core.Bool.{beq, not}
use Rattle.std.proofs.Common.{true≢false, eq-eqb}
use Rattle.checking_walk.specs.Laws.Exploring.{fails_before, fails_source, fails_target}
use Rattle.checking_walk.proofs.search.fails.Goals.{then-x-ne0, else-x-ne0}
use Rattle.checking_walk.proofs.search.fails.Goals as goal

pub returns-then-is_final : goal.returns-then-is_final
returns-then-is_final c =
    elim c.if-x-ne0.branch [
      | then-x-ne0 w ↦
          ap (λ b. beq b c.args.t.now.walk.entry) c.is_final-then-is_final.ensures
          ∙ fails_target _ _ _ c.requires w.if-x-ne0.true (sym (rw w.at.ensures at w.is_final.ensures) ∙ sym w.value-is ∙ c.if-is_final.true)
      | else-x-ne0 w ↦ absurd (true≢false (sym c.if-is_final.true ∙ w.value-is ∙ ap not (eq-eqb c.args.x.side 0 w.if-x-ne0.false)))
    ]

pub returns-else-is_final : goal.returns-else-is_final
returns-else-is_final c =
    elim c.if-x-ne0.branch [
      | then-x-ne0 w ↦
          c.if-is_final.false
          ∙ fails_source _ _ _ c.requires w.if-x-ne0.true (sym (rw w.at.ensures at w.is_final.ensures) ∙ sym w.value-is ∙ c.if-is_final.false)
      | else-x-ne0 w ↦ c.if-is_final.false ∙ fails_before _ _ _ w.if-x-ne0.false
    ]
