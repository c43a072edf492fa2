-- What holds of every run of a proposal whose items pass, and what a reply therefore says of two runs. These stand here and not in specs/ because
-- a must-fail edit of where a run begins takes their ground away.
use Rattle.std.specs.Prelude.{ℕ, List}
use Rattle.std.proofs.Common.{subst}
use Rattle.theory_exploration.specs.Mem.{Mem}
use Rattle.theory_model.specs.Model.{begin}
use Rattle.theory_model.specs.Session.{Session, Outside, WellFormed}
use Rattle.theory_model.specs.Verdict.{Item, entry, items, Passes, Means, Closed, Reply, closed, outside, leaves, bad}
use Rattle.theory_model.specs.TwoRuns.{Says}
use Rattle.theory_model.specs.Laws.Items.{item_is}
use Rattle.theory_model.specs.Laws.Replies.{first_is_member}
use Rattle.theory_model.specs.Laws.Runs.{held_begin, held_taken, held_run, not_bad}

module _ (S : Session) (wf : WellFormed S) where
  pub passes_closed : ((i : Item) → Mem i (items S) → Passes S i) → Closed S
  passes_closed passes =
      record {
        start = (held_begin S wf passes).inside;
        steps = λ γ γ' t c i e. (held_taken S wf passes t γ γ' (record { control = c.0; contents = c.1; inside = i }) e).inside;
        bad = not_bad S wf passes;
      }

  pub means_says : (ts : List ℕ) (r : Reply) → Means S (items S) r → Says S ts r
  means_says ts (closed n) (p, s) = λ γ m. let H = held_run S wf p ts (begin S.model) γ (held_begin S wf p) m in (H.inside, not_bad S wf p γ H.contents H.inside)
  means_says ts outside F = subst (Outside S) F.fails.against.0 F.fails.against.1
  means_says ts (leaves c t w f) (τ, F, e) = (F.fails.shown, F.fails.against, F.fails.contents, e)
  means_says ts (bad b w) (e, F) =
      (e, item_is S (entry b e) (first_is_member S (items S) (entry b e) w F), F.fails.shown, F.fails.against, F.fails.contents)
