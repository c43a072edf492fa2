-- The parts of what a judgement and the verdict mean; the theorems made of them are in proofs/Verdicts.antt.
use Rattle.std.specs.Prelude.{◌≡◌, Bool, true, false, ℕ, ◌+◌}
use Rattle.std.proofs.Math.Path.{refl, subst}
use Rattle.std.proofs.Common.{sym, ap, ◌∙◌, inr, arith}
use Rattle.std.proofs.Math.Option.{Option, none, some}
use mathlib.Core.List.Memᴰ
use mathlib.Core.List.{List, [], ◌∷◌, ◌++◌}
use Rattle.theory_exploration.specs.Size.{Size}
use Rattle.theory_model.specs.Model.{Action, local, send, receive, begin}
use Rattle.theory_model.specs.Diagram.{follow, is_final, accepts, word}
use Rattle.theory_model.specs.Session.{Session, inside, WellFormed}
use Rattle.theory_model.specs.Verdict.{Item, start, step, entry, Pair, before, after, StepPair, BadPair, Visited, Sum, First, Means}
use Rattle.theory_model.specs.Judge.{passes, fails, Begun, walk_of, judge_walk, reply}
use Rattle.theory_model.specs.Laws.Items.{IsItem}
use Rattle.theory_model.specs.Laws.Basics.{none_not_some, false_not_true}
use Rattle.theory_model.specs.Laws.Walks.{follow_none}
use Rattle.theory_model.specs.Laws.After.{far_after_lem}
use Rattle.theory_model.specs.Laws.Judging.{JudgedMeans, faithful_judges}
use Rattle.theory_model.specs.Laws.Faithful.{item_faithful}

-- WITHOUT A ROOT there is nothing to visit, and nothing inside
pub size_none : {A : Type 0} (P : A → Type 0) → ((x : A) → P x → ⊥) → Size P 0
size_none P h = record { members = []; distinct = tt; only = λ x m. absurd (Memᴰ.not-nil m); each = λ x p. absurd (h x p); count = refl }

module _ (S : Session) where
  nowhere : {X : Type 0} (o : Option ℕ) (u : List ℕ) (s : ℕ) → o ≡ none → follow S.pool o u ≡ some s → X
  nowhere o u s n e = none_not_some (ap (λ o. follow S.pool o u) n ∙ follow_none S.pool u) e

  pub not_inside : {X : Type 0} (o : Option ℕ) (u : List ℕ) → o ≡ none → accepts S.pool o u ≡ true → X
  not_inside o u n e = false_not_true (ap (is_final S.pool) (ap (λ o. follow S.pool o u) n ∙ follow_none S.pool u)) e

  pub no_step_pair : (o o' : Option ℕ) → o ≡ none → (a : Action) (x : Pair) → StepPair S o o' a x → ⊥
  no_step_pair o o' n local (before s t) k = k
  no_step_pair o o' n local (after s t) (u, b, (p, q)) = nowhere o u s n p
  no_step_pair o o' n (send i w) (before s t) (u, b, (p, q)) = nowhere o u s n p
  no_step_pair o o' n (send i w) (after s t) (u, v, b, c, (p, q)) = nowhere o (u ++ v) s n p
  no_step_pair o o' n (receive i w) (before s t) (u, b, (p, q)) = nowhere o u s n p
  no_step_pair o o' n (receive i w) (after s t) (u, v, b, c, (p, q)) = nowhere o (u ++ (w ++ v)) s n p

  pub no_bad_pair : (o o' : Option ℕ) → o ≡ none → (x : Pair) → BadPair S o o' x → ⊥
  no_bad_pair o o' n (before s t) k = k
  no_bad_pair o o' n (after s none) k = k
  no_bad_pair o o' n (after s (some t)) (u, b, (p, q)) = nowhere o u s n p

-- THE JUDGEMENT OF AN ITEM
module _ (S : Session) (wf : WellFormed S) where
  pub start_means : (b : Bool) → inside S (begin S.model) ≡ b → JudgedMeans S start (elim b [ true ↦ passes 0 | false ↦ fails (word S.model.starting) ])
  start_means true e = ((λ γ (p, q). false_not_true q (ap (inside S) p ∙ e)), size_none (Visited S start) (λ x v. v))
  start_means false e =
      record {
        shown = begin S.model;
        against = (refl, e);
        contents = refl;
        least = λ γ (p, q). inr (sym (ap (λ δ. word δ.queues) p));
      }

  -- a walk judges its item; without a walk nothing speaks against it, and nothing is visited
  pub walk_means : (i : Item) → IsItem S i → (walk_of S i ≡ none → JudgedMeans S i (passes 0)) → (o : Option Begun) → walk_of S i ≡ o → JudgedMeans S i (judge_walk S o)
  walk_means i item without none e = without e
  walk_means i item without (some B) e = faithful_judges S i B.walk B.root (item_faithful S wf i item B e)

-- what the verdict's theorems in proofs/Verdicts.antt rest on
module _ (S : Session) (wf : WellFormed S) where
  pub sum_snoc : (is : List Item) (i : Item) (n k : ℕ) → Sum S is n → Size (Visited S i) k → Sum S (is ++ (i ∷ [])) (n + k)
  sum_snoc [] i n k s z = (k, 0, z, refl, omega arith)
  sum_snoc (j ∷ is) i n k (a, b, y, s, e) z = (a, b + k, y, sum_snoc is i b k s z, omega arith)

  -- the start fails with the contents that it has
  pub reply_means : (is : List Item) (i : Item) (w : List ℕ) → IsItem S i → First S is i w → Means S is (reply S i w)
  reply_means is start w item F =
      let f = F.fails in
      let its : w ≡ word S.model.starting = sym f.contents ∙ ap (λ γ. word γ.queues) f.against.0 in
      subst (First S is start) its F
  reply_means is (step c t τ) w item F = (τ, F, sym (far_after_lem S wf c t τ item F.fails.shown F.fails.against F.fails.contents))
  reply_means is (entry b e) w item F = (e, F)
