use mathlib.Core.Path.{refl, sym, ◌∙◌}
use Rattle.tables.specs.Laws.Lookup.{nowhere_true}
use Rattle.following.specs.Laws.Rows.{followed_at}
use Rattle.following.specs.Laws.Standing.{standing_length}
use Rattle.following.specs.Laws.Part.{goes_nowhere, goes_whole}
use Rattle.following.proofs.part.follow_part.Goals as goal

pub returns-then-is_nowhere : goal.returns-then-is_nowhere
returns-then-is_nowhere g c =
    let e = nowhere_true _ c.is_nowhere.ensures c.if-is_nowhere.true in
    goes_nowhere _ e e refl

pub returns-in-Ok : goal.returns-in-Ok
returns-in-Ok g c =
    let F = followed_at c.follow.ensures c.in-Ok.is in
    goes_whole (c.row_of.ensures.state ∙ c.state.ensures) F.1 F.0.below (c.at.ensures ∙ c.state_of.ensures) (sym (standing_length _ _ _ _ _))
