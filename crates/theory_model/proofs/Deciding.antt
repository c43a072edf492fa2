-- A judgement's pairs are within the bound of its item.
use Rattle.std.specs.Prelude.{◌≡◌, ℕ, ◌≤◌}
use Rattle.std.proofs.Common.{subst}
use Rattle.theory_exploration.specs.Mem.{Mem}
use Rattle.theory_model.specs.Session.{Session, WellFormed}
use Rattle.theory_model.specs.Verdict.{Item, items, most}
use Rattle.theory_model.specs.Judge.{passes, judge}
use Rattle.theory_model.specs.Laws.Items.{item_is}
use Rattle.theory_model.specs.Laws.Bounds.{item_bound}
use Rattle.theory_model.specs.Laws.Judging.{JudgedMeans}
use Rattle.theory_model.proofs.Verdicts.{judge_means}

module _ (S : Session) where
  pub judge_bound : WellFormed S → (i : Item) → Mem i (items S) → (k : ℕ) → judge S i ≡ passes k → k ≤ most S i
  judge_bound wf i m k e = item_bound S wf i m k (subst (JudgedMeans S i) e (judge_means S wf i (item_is S i m))).1
