-- The judgement of an item's walk is the model's judgement of the item, and its contents are not too long to be shown.
use Rattle.std.specs.Prelude.{◌≡◌, refl, List, ℕ, ◌+◌, ◌-◌, ◌*◌, ◌≤◌, length}
use Rattle.std.proofs.Common.{sym, ap, subst, ◌∙◌, arith, mul-le-mul}
use Rattle.std.proofs.Math.Option.{some, none-ne-some}
use Rattle.tables.specs.Limits.{most_pool, contents_least}
use Rattle.theory_model.specs.Session.{Session, WellFormed}
use Rattle.theory_model.specs.Verdict as Verdict
use Rattle.theory_model.specs.Verdict.{Item, start, step, entry, Pair}
use Rattle.theory_model.specs.Judge.{Begun, judge, walk_of}
use Rattle.theory_model.specs.Searched.{search_walk, judge_by_search}
use Rattle.theory_model.specs.Laws.Items.{IsItem}
use Rattle.theory_model.specs.Laws.Judging.{JudgedMeans}
use Rattle.theory_model.proofs.Verdicts.{judge_means}
use Rattle.theory_model.specs.Laws.Searches.{search_is}
use Rattle.theory_model.specs.Laws.Lengths.{taken, showing, shown_bound}
use Rattle.checking_pairs.specs.declared.pairs.Walk.{Walk}
use Rattle.std.specs.Prelude.{Result}
use Rattle.checking_walk.specs.declared.judge.Shown.{Shown}
use Rattle.checking_pairs.specs.Pairs.{stride, most_codes}
use Rattle.checking_pairs.specs.Over.{walk_over, Over}
use Rattle.checking_walk.specs.Judged.{judged_over, ShownFits, said_judged, WalkJudged, Counts}
use Rattle.checking_walk.specs.Laws.Judged.{judged_is}

-- so many states have no more pairs than there are numbers
pairs_fit : (n : ℕ) → n ≤ most_pool → Verdict.most_pairs n ≤ most_codes
pairs_fit n h =
    let g : n + 1 ≤ stride = omega arith in
    let z : n * (n + 1) ≤ most_pool * stride = mul-le-mul h g in
    omega arith

-- an item that has a walk is judged by it
walk_judges : (S : Session) (i : Item) (B : Begun) → walk_of S i ≡ some B → search_walk S most_codes (some B) ≡ judge_by_search S most_codes i
unfolding judge_by_search
walk_judges S start B e = absurd (none-ne-some B e)
walk_judges S (step c t τ) B e = ap (search_walk S most_codes) (sym e)
walk_judges S (entry b d) B e = ap (search_walk S most_codes) (sym e)

-- and shows what speaks against it
walk_shows : (S : Session) (i : Item) (B : Begun) → walk_of S i ≡ some B → (u : List ℕ) → showing i u ≡ u
walk_shows S start B e u = absurd (none-ne-some B e)
walk_shows S (step c t τ) B e u = refl
walk_shows S (entry b d) B e u = refl

module _ (arcs finals rows : List ℕ) (w : Walk) (root : Pair) (S : Session) (o : Over arcs finals w.sum S) (wf : WellFormed S)
    (few : S.pool.states ≤ most_pool) (i : Item) (item : IsItem S i) (at : walk_of S i ≡ some (record { walk = walk_over rows w; root = root })) where
  pub judged_item : judged_over arcs finals rows w root ≡ judge S i
  judged_item =
      judged_is arcs finals rows w S o root
      ∙ walk_judges S i (record { walk = walk_over rows w; root = root }) at
      ∙ search_is S wf most_codes (pairs_fit S.pool.states few) i item

  pub item_fits : length (taken i) ≤ contents_least - most_codes → ShownFits arcs finals rows w root
  item_fits short =
      record {
        most = λ u e. omega (arith, ap length (walk_shows S i (record { walk = walk_over rows w; root = root }) at u), shown_bound S wf i item u (sym judged_item ∙ e), pairs_fit S.pool.states few);
      }

  -- WHAT THE CODE'S ANSWER MEANS: it counts the different pairs of the item, or shows the least contents that speak against it
  pub answer_means : {contents seen' queue' contents' : List ℕ} {r : Result ℕ Shown} → WalkJudged arcs finals rows w root contents seen' queue' contents' r
      → JudgedMeans S i (said_judged r contents')
  answer_means j = subst (JudgedMeans S i) (sym (j.reply ∙ judged_item)) (judge_means S wf i item)

-- its number is the size of the item's set of pairs
pub judged_counts : {arcs finals rows : List ℕ} {w : Walk} {root : Pair} {contents seen' queue' contents' : List ℕ} {r : Result ℕ Shown}
    → WalkJudged arcs finals rows w root contents seen' queue' contents' r → Counts arcs finals rows w root r
judged_counts {arcs} {finals} {rows} {w} {root} {contents' = contents'} j =
    record {
      size = λ S i W n e.
          (subst (λ r. JudgedMeans S i (said_judged r contents')) e
          (answer_means arcs finals rows w root S W.over W.formed W.few i W.item W.begun j)).1;
    }
