-- What the verdict means: the judgement of an item, the verdict, when it is closed, and the two runs. These stand here and not in specs/ because
-- a must-fail edit of where a run begins takes their ground away.
use Rattle.std.specs.Prelude.{◌≡◌, false, ◌⊎◌, ◌↔◌, ℕ, ◌+◌, ◌≤◌}
use Rattle.std.proofs.Math.Path.{refl, subst}
use Rattle.std.proofs.Common.{sym, ap, ◌∙◌, inl, inr, ⊎_elim}
use Rattle.std.proofs.Math.Option.{none, some, map-eq-none_iff}
use mathlib.Core.List.Memᴰ
use mathlib.Core.List.{List, [], ◌∷◌, ◌++◌, append-nil}
use Rattle.std.proofs.Math.Seq.{append_snoc}
use Rattle.theory_exploration.specs.Mem.{Mem, here}
use Rattle.theory_exploration.specs.Size.{Size}
use Rattle.theory_model.specs.Model.{controls, moved, begin}
use Rattle.theory_model.specs.Diagram.{word}
use Rattle.theory_model.specs.Session.{Session, inside, Outside, WellFormed}
use Rattle.theory_model.specs.Verdict.{Item, start, step, entry, items, Visited, Passes, Sum, First, Means}
use Rattle.theory_model.specs.Verdict.{Reply, closed, outside, Closed, most_in_all, steps_from, entries_from}
use Rattle.theory_model.specs.Judge.{Judged, passes, fails, begin_step, begin_entry, walk_of, judge, reply, decide, verdict}
use Rattle.theory_model.specs.Laws.Items.{IsItem, item_is}
use Rattle.theory_model.specs.Laws.Bounds.{item_bound, Within, file_bound}
use Rattle.theory_model.specs.Laws.Judging.{JudgedMeans}
use Rattle.theory_model.specs.Laws.Replies.{one_reply, means_cases, Closing, Failing, failing_not_passing}
use Rattle.theory_model.specs.TwoRuns.{TwoRuns}
use Rattle.theory_model.specs.Laws.Runs.{closed_passes}
use Rattle.theory_model.specs.Laws.Verdicts.{size_none, not_inside, no_step_pair, no_bad_pair, start_means, walk_means, sum_snoc, reply_means}
use Rattle.theory_model.proofs.Runs.{passes_closed, means_says}

-- THE JUDGEMENT OF AN ITEM
module _ (S : Session) (wf : WellFormed S) where
  pub judge_means : (i : Item) → IsItem S i → JudgedMeans S i (judge S i)
  unfolding judge
  judge_means start item = start_means S wf (inside S (begin S.model)) refl
  judge_means (step c t τ) item = walk_means S wf (step c t τ) item without (walk_of S (step c t τ)) refl
    where
      without : walk_of S (step c t τ) ≡ none → JudgedMeans S (step c t τ) (passes 0)
      without e =
          let rootless : S.root c ≡ none = (map-eq-none_iff (begin_step S c τ) (S.root c)).0 e in (
            (λ γ l. not_inside S (S.root γ.control) (word γ.queues) (ap S.root l.control ∙ rootless) l.inside),
            size_none (Visited S (step c t τ)) (no_step_pair S (S.root c) (S.root (moved S.model c τ)) rootless τ.action),
          )
  judge_means (entry b e) item = walk_means S wf (entry b e) item without (walk_of S (entry b e)) refl
    where
      without : walk_of S (entry b e) ≡ none → JudgedMeans S (entry b e) (passes 0)
      without p =
          let rootless : S.root e.0 ≡ none = (map-eq-none_iff (begin_entry S e) (S.root e.0)).0 p in (
            (λ γ m. not_inside S (S.root γ.control) (word γ.queues) (ap S.root m.listed.0 ∙ rootless) m.inside),
            size_none (Visited S (entry b e)) (no_bad_pair S (S.root e.0) (some e.1) rootless),
          )

-- THE VERDICT
module _ (S : Session) (wf : WellFormed S) where
  module _ (done : List Item) (passed : (i : Item) → Mem i done → Passes S i) (i : Item) (todo : List Item) where
    pass_more : Passes S i → (j : Item) → Mem j (done ++ (i ∷ [])) → Passes S j
    pass_more p j m = ⊎_elim (passed j) (λ k. subst (Passes S) (sym (Memᴰ.eq_of_singleton k)) p) (Memᴰ.append_cases done m)

    judged_next : IsItem S i → (n : ℕ) (j : Judged) → JudgedMeans S i j → ((k : ℕ) → Passes S i → Size (Visited S i) k → Means S (done ++ (i ∷ todo)) (decide S todo (n + k)))
        → Means S (done ++ (i ∷ todo)) (elim j [ passes k ↦ decide S todo (n + k) | fails w ↦ reply S i w ])
    judged_next item n (passes k) (p, z) next = next k p z
    judged_next item n (fails w) f next = reply_means S wf (done ++ (i ∷ todo)) i w item (record { earlier = done; later = todo; place = refl; each = passed; fails = f })

  decide_means : (todo done : List Item) (n : ℕ) → ((i : Item) → Mem i (done ++ todo) → IsItem S i) → ((i : Item) → Mem i done → Passes S i) → Sum S done n
      → Means S (done ++ todo) (decide S todo n)
  unfolding decide
  decide_means [] done n items passed s = subst (λ l. Means S l (closed n)) (sym (append-nil done)) (passed, s)
  decide_means (i ∷ todo) done n items passed s =
      judged_next done passed i todo (items i (Memᴰ.append_right done (here refl))) n (judge S i)
      (judge_means S wf i (items i (Memᴰ.append_right done (here refl))))
      (λ k p z. subst (λ l. Means S l (decide S todo (n + k))) (append_snoc done i todo)
      (decide_means todo (done ++ (i ∷ [])) (n + k) (λ j m. items j (subst (Mem j) (append_snoc done i todo) m)) (pass_more done passed i todo p) (sum_snoc S wf done i n k s z)))

  pub verdict_means : Means S (items S) (verdict S)
  unfolding verdict
  verdict_means = decide_means (items S) [] 0 (item_is S) (λ i m. absurd (Memᴰ.not-nil m)) refl

  pub verdict_is : (r : Reply) → (r ≡ verdict S) ↔ Means S (items S) r
  verdict_is r = ((λ e. subst (Means S (items S)) (sym e) verdict_means), (λ m. one_reply S wf (items S) (item_is S) r (verdict S) m verdict_means))

  -- the verdict is closed exactly if every item passes
  pub closed_items : ((n : ℕ) × (verdict S ≡ closed n)) ↔ ((i : Item) → Mem i (items S) → Passes S i)
  closed_items = ((λ (n, e). ((verdict_is (closed n)).0 (sym e)).0), (λ p. by_meaning p (means_cases S wf (items S) (item_is S) (verdict S) verdict_means)))
    where
      by_meaning : ((i : Item) → Mem i (items S) → Passes S i) → Closing S (items S) (verdict S) ⊎ Failing S (items S) (verdict S) → (n : ℕ) × (verdict S ≡ closed n)
      by_meaning p (inl (n, e, c)) = (n, e)
      by_meaning p (inr F) = absurd (failing_not_passing S (items S) (verdict S) F p)

  -- what waits at the start is not in the set of the starting control state
  pub outside_is : (verdict S ≡ outside) ↔ Outside S (begin S.model)
  outside_is = ((λ e. let F = (verdict_is outside).0 (sym e) in subst (Outside S) F.fails.against.0 F.fails.against.1), (λ o. sym ((verdict_is outside).1 (fails_first o))))
    where
      fails_first : Outside S (begin S.model) → First S (items S) start (word S.model.starting)
      fails_first o =
          record {
            earlier = [];
            later = steps_from S.model 0 (controls S.model) ++ entries_from 0 S.bad;
            place = refl;
            each = λ j m. absurd (Memᴰ.not-nil m);
            fails = start_means S wf false o;
          }

  pub closed_bound : Within S → (n : ℕ) → verdict S ≡ closed n → n ≤ most_in_all
  closed_bound small n e = file_bound S wf small n ((verdict_is (closed n)).0 (sym e)).1

  pub closed_is : ((n : ℕ) × (verdict S ≡ closed n)) ↔ Closed S
  closed_is = ((λ c. passes_closed S wf (closed_items.0 c)), (λ C. closed_items.1 (λ i m. closed_passes S wf C i (item_is S i m))))

  pub two_runs : (ts : List ℕ) → TwoRuns S (verdict S) ts
  two_runs ts = record { defined = refl; says = means_says S wf ts (verdict S) verdict_means; means = verdict_means; bounds = item_bound S wf }
