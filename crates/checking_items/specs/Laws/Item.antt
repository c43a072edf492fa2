-- The walk of an item is the model's, so judging it judges the item.
use Rattle.std.specs.Prelude.{ℕ, ◌≤◌, ◌<◌, ◌≡◌, refl, Bool, true, false, List, length, drop}
use Rattle.std.proofs.Common.{sym, ap₂, ◌∙◌, arith, length-take}
use Rattle.std.proofs.Math.Path.{ap}
use Rattle.std.proofs.Math.Option
use Rattle.std.proofs.Math.Option.{some}
use Rattle.reading_file.specs.Valid.{Valid}
use Rattle.tables.specs.declared.tables.Tables.{Tables}
use Rattle.theory_model.specs.Model.{Action, local, send, receive, messages, moved}
use Rattle.theory_model.specs.Session.{Session}
use Rattle.theory_model.specs.Verdict as Model
use Rattle.theory_model.specs.Verdict.{step, entry}
use Rattle.theory_model.specs.Judge as Judge
use Rattle.theory_model.specs.Judge.{cut, step_walk, entry_walk, begin_step, begin_entry, root_pair, passes, walk_of}
use Rattle.theory_model.specs.Searched.{search_walk, judge_by_search}
use Rattle.theory_model.specs.Laws.Items.{IsItem}
use Rattle.theory_files.specs.Tables.{session_of, transition_at}
use Rattle.tables.specs.Limits.{most_pool, most_word}
use Rattle.tables.specs.Kinds.{reached_of}
use Rattle.tables.specs.Lookup.{root_of, RootAt}
use Rattle.tables.specs.Laws.Lookup.{reached_nowhere, reached_state, reached_small}
use Rattle.tables.specs.declared.kinds.DiagramState.{DiagramState}
use Rattle.tables.specs.declared.kinds.Reached.{Reached}
use Rattle.theory_files.specs.Laws.Sessions.{well_formed}
use Rattle.theory_tables.specs.Laws.Queues.{messages_are}
use Rattle.checking_pairs.specs.Pairs.{most_codes, after_side, pair_of}
use Rattle.checking_pairs.specs.Over.{walk_over}
use Rattle.checking_walk.specs.Judged.{judged_over, ShownFits}
use Rattle.checking_walk.specs.Laws.Judged.{judged_is}
use Rattle.checking_walk.specs.Laws.Items.{item_fits}
use Rattle.checking_walk.specs.Laws.Valid.{over_session}
use Rattle.checking_pairs.specs.declared.pairs.Walk.{Walk}
use Rattle.checking_pairs.specs.declared.pairs.Node.{Node}
use Rattle.checking_items.specs.Cut.{action_at, cut_of, Cuts}
use Rattle.controls.specs.Controls.{Moved}
use Rattle.checking_items.specs.declared.cut.Cut.{Cut}
use Rattle.tables.specs.Rows.{word_entry, length_at}

pub cut_is : (S : Session) (a : Action) → cut_of S.model.queues a ≡ cut S a
cut_is S local = refl
cut_is S (send q w) = refl
cut_is S (receive q w) = refl

walk_same : {c d : ℕ} {o p i j : List ℕ} (e : Bool) → c ≡ d → o ≡ p → i ≡ j
    → ◌≡◌ {A = Judge.Walk} (record { cut = c; out = o; into = i; entry = e }) (record { cut = d; out = p; into = j; entry = e })
walk_same e x y z = λ t. record { cut = x t; out = y t; into = z t; entry = e }

module _ (T : Tables) (v : Valid T) where
  abbrev S : Session
  S = session_of T

  abbrev rows : List ℕ
  rows = T.transitions.rows

  sum_is : messages S.model ≡ T.queues.sum
  sum_is = messages_are v.queues

  -- without a root nothing is visited
  pub step_nothing : (c row source t : ℕ) → RootAt T.map.roots c source → source ≡ most_pool
      → judge_by_search S most_codes (step c t (transition_at rows row)) ≡ passes 0
  unfolding judge_by_search
  step_nothing c row source t here e =
      ap (λ o. search_walk S most_codes (Option.map (begin_step S c (transition_at rows row)) o)) (sym here.is ∙ reached_nowhere e)

  module _ (c row : ℕ) (source : DiagramState) (target : Reached) (to : ℕ) (k : Cut) (here : RootAt T.map.roots c source.0)
      (goes : Moved T.machines rows row c to) (there : RootAt T.map.roots to target.0) (cuts : Cuts T.queues rows row k) where
    abbrev w : Walk
    w = record { cut = k.cut; sum = T.queues.sum; word = word_entry row; out = k.out; into = k.into; entry = false }

    abbrev x : Node
    x = record { side = k.side; source = source; target = target }

    walk_is : walk_over rows w ≡ step_walk S (action_at rows row)
    walk_is = walk_same false (cuts.cut ∙ cut_is S (action_at rows row)) cuts.out cuts.into

    pair_is : pair_of x ≡ root_pair (action_at rows row) source.0 (S.root (moved S.model c (transition_at rows row)))
    pair_is =
        cuts.side source.0 (reached_of target.0)
        ∙ ap (root_pair (action_at rows row) source.0) there.is
        ∙ ap (λ n. root_pair (action_at rows row) source.0 (root_of T.map.roots n)) goes

    -- the walk that the model begins is the code's
    begun : (t : ℕ) → (source.0 ≡ most_pool → ⊥) → walk_of S (step c t (transition_at rows row)) ≡ some (record { walk = walk_over rows w; root = pair_of x })
    begun t e =
        ap (Option.map (begin_step S c (transition_at rows row))) (sym here.is ∙ reached_state e)
        ∙ ap₂ (λ W r. some (record { walk = W; root = r })) (sym walk_is) (sym pair_is)

    pub step_judged : (t : ℕ) → (source.0 ≡ most_pool → ⊥)
        → judged_over T.pool.arcs T.pool.finals rows w (pair_of x) ≡ judge_by_search S most_codes (step c t (transition_at rows row))
    unfolding judge_by_search
    step_judged t e =
        judged_is T.pool.arcs T.pool.finals rows w S (over_session T sum_is) (pair_of x)
        ∙ ap (search_walk S most_codes) (sym (begun t e))

    pub step_fits : (t : ℕ) → (source.0 ≡ most_pool → ⊥) → IsItem S (step c t (transition_at rows row)) → length_at rows row ≤ most_word
        → ShownFits T.pool.arcs T.pool.finals rows w (pair_of x)
    step_fits t e item l =
        item_fits T.pool.arcs T.pool.finals rows w (pair_of x) S (over_session T sum_is) (well_formed T v) v.pool.most
        (step c t (transition_at rows row)) item (begun t e)
        (omega (arith, ap length cuts.out, length-take k.out (drop (word_entry row) rows), cuts.small.1))

  -- A BAD ENTRY
  pub entry_nothing : (control root source b : ℕ) → RootAt T.map.roots control source → source ≡ most_pool
      → judge_by_search S most_codes (entry b (control, root)) ≡ passes 0
  unfolding judge_by_search
  entry_nothing control root source b here e =
      ap (λ o. search_walk S most_codes (Option.map (begin_entry S (control, root)) o)) (sym here.is ∙ reached_nowhere e)

  module _ (control root : ℕ) (source : DiagramState) (target : Reached) (same : target.0 ≡ root)
      (here : RootAt T.map.roots control source.0) where
    abbrev entry_walk_lem : Walk
    entry_walk_lem = record { cut = 0; sum = T.queues.sum; word = 0; out = 0; into = 0; entry = true }

    abbrev entry_pair : Node
    entry_pair = record { side = after_side; source = source; target = target }

    entry_begun : (b : ℕ) → (source.0 ≡ most_pool → ⊥) → root < most_pool
        → walk_of S (entry b (control, root)) ≡ some (record { walk = walk_over rows entry_walk_lem; root = pair_of entry_pair })
    entry_begun b e h =
        ap (Option.map (begin_entry S (control, root))) (sym here.is ∙ reached_state e)
        ∙ ap (λ t. some (record { walk = entry_walk S; root = Model.after source.0 t })) (sym (ap reached_of same ∙ reached_small h))

    pub entry_judged : (b : ℕ) → (source.0 ≡ most_pool → ⊥) → root < most_pool
        → judged_over T.pool.arcs T.pool.finals rows entry_walk_lem (pair_of entry_pair) ≡ judge_by_search S most_codes (entry b (control, root))
    unfolding judge_by_search
    entry_judged b e h =
        judged_is T.pool.arcs T.pool.finals rows entry_walk_lem S (over_session T sum_is) (pair_of entry_pair)
        ∙ ap (search_walk S most_codes) (sym (entry_begun b e h))

    pub entry_fits : (b : ℕ) → (source.0 ≡ most_pool → ⊥) → root < most_pool → IsItem S (entry b (control, root))
        → ShownFits T.pool.arcs T.pool.finals rows entry_walk_lem (pair_of entry_pair)
    entry_fits b e h item =
        item_fits T.pool.arcs T.pool.finals rows entry_walk_lem (pair_of entry_pair) S (over_session T sum_is) (well_formed T v) v.pool.most
        (entry b (control, root)) item (entry_begun b e h) (omega arith)
