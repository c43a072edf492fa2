-- The judgement in the form that code has is the judgement, for every item of a session that is well formed and any fuel that is enough.
use Rattle.std.specs.Prelude.{◌≡◌, List, [], ◌∷◌, reverse, ℕ, suc, ◌≤◌}
use Rattle.std.proofs.Math.Path.{refl, ap}
use Rattle.std.proofs.Common.{◌∙◌, le_refl}
use Rattle.std.proofs.Math.Option.{Option, none, some}
use Rattle.theory_exploration.specs.Explore.{Entry, explore}
use Rattle.theory_exploration.specs.Laws.Fuel.{more_fuel}
use Rattle.theory_exploration.specs.Search.{Outcome, found, finished, search_from}
use Rattle.theory_exploration.specs.Laws.Agree.{agree_length}
use Rattle.theory_exploration.specs.Laws.Search.{Answers, search_is as search-answers}
use Rattle.theory_model.specs.Model.{messages}
use Rattle.theory_model.specs.Session.{Session, WellFormed}
use Rattle.theory_model.specs.Verdict.{Item, start, step, entry, Pair, most_pairs}
use Rattle.theory_model.specs.Judge.{same, Walk, Begun, go, wrong, contents, walked, passes, fails, look, walk_of, judge_walk, judge}
use Rattle.theory_model.specs.Searched.{settled, searched, search_walk, judge_by_search}
use Rattle.theory_model.specs.Laws.Items.{IsItem}
use Rattle.theory_model.specs.Laws.Judging.{same_equality, Faithful, enough_fuel}
use Rattle.theory_model.specs.Laws.Faithful.{item_faithful}

module _ (S : Session) (W : Walk) where
  abbrev M : ℕ
  M = suc (messages S.model)

  answers_settle : (o : Outcome Pair) (Q : List (Entry Pair)) → Answers M (go S W) same (wrong S W) o Q → settled S W o ≡ look S W Q
  unfolding look
  answers_settle (found k L) Q A = rw (A.is_first, look) (ap (λ w. fails (contents S W (reverse w))) A.same_word)
  answers_settle (finished L) Q A = rw (A.none_has, look) (ap passes (agree_length M (go S W) same L Q A.agrees))

  module _ (i : Item) (r : Pair) (F : Faithful S i W r) where
    searched_is : (n : ℕ) → most_pairs S.pool.states ≤ n → searched S n W r ≡ look S W (walked S W r)
    unfolding searched walked
    searched_is n h =
        let fuel = most_pairs S.pool.states in
        answers_settle (search_from M (go S W) same (wrong S W) r n) (explore M (go S W) same (r ∷ []) n)
        (search-answers M (go S W) same same_equality (wrong S W) r n (enough_fuel S i W r F n h))
        ∙ ap (look S W) (more_fuel M (go S W) same (r ∷ []) fuel n (enough_fuel S i W r F fuel (le_refl fuel)) h)

module _ (S : Session) (wf : WellFormed S) (n : ℕ) (h : most_pairs S.pool.states ≤ n) where
  walk_searched : (i : Item) → IsItem S i → (o : Option Begun) → walk_of S i ≡ o → search_walk S n o ≡ judge_walk S o
  walk_searched i item none e = refl
  walk_searched i item (some B) e = searched_is S B.walk i B.root (item_faithful S wf i item B e) n h

  pub search_is : (i : Item) → IsItem S i → judge_by_search S n i ≡ judge S i
  unfolding judge_by_search judge
  search_is start item = refl
  search_is (step c t τ) item = walk_searched (step c t τ) item (walk_of S (step c t τ)) refl
  search_is (entry b e) item = walk_searched (entry b e) item (walk_of S (entry b e)) refl
