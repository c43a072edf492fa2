-- The start's judgement.
use Rattle.std.specs.Prelude.{ℕ, ◌≡◌, Bool, List}
use Rattle.std.proofs.Common.{sym, ap, ◌∙◌}
use Rattle.std.proofs.Math.Option.{Option, some}
use Rattle.tables.specs.Kinds.{reached_of}
use Rattle.tables.specs.Lookup.{root_of, final_at, RootAt}
use Rattle.tables.specs.Starting.{starting_of}
use Rattle.tables.specs.declared.tables.Tables.{Tables}
use Rattle.reading_file.specs.Valid.{Valid}
use Rattle.theory_tables.specs.Pool.{pool_of}
use Rattle.theory_model.specs.Model.{number}
use Rattle.theory_model.specs.Diagram.{is_final, word}
use Rattle.theory_files.specs.Laws.Lookup.{along_is, final_is}
use Rattle.controls.specs.Controls.{sizes_of, starts_of}
use Rattle.following.specs.Follow.{follow_arcs, FollowsTo}
use Rattle.following.specs.Laws.Follow.{follow_is}
use Rattle.following.specs.Laws.Starting.{starting_small}
use Rattle.checking_items.specs.Begin.{begins_inside, start_at}

module _ (T : Tables) (v : Valid T) where
  abbrev root : Option ℕ
  root = root_of T.map.roots (number (sizes_of T.machines) (starts_of T.machines))

  abbrev waiting : List ℕ
  waiting = word (starting_of T.queues)

  -- the start is inside if what waits then leads to a final state
  begin_inside : begins_inside T ≡ final_at T.pool.finals (start_at T)
  begin_inside =
      ap (is_final (pool_of T.pool)) (sym (follow_is (pool_of T.pool) T.pool.arcs (λ s. along_is T.pool (some s)) root waiting (starting_small v.queues)))
      ∙ final_is T.pool (follow_arcs T.pool.arcs root waiting)

  -- the final test of where the code came to is that of where the start leads
  pub start_final : {c t at : ℕ} {r : Bool} → r ≡ final_at T.pool.finals (reached_of at)
      → FollowsTo T.pool.arcs t (word (starting_of T.queues)) at → RootAt T.map.roots c t
      → c ≡ number (sizes_of T.machines) (starts_of T.machines) → r ≡ begins_inside T
  start_final f leads p e =
      f
      ∙ ap (final_at T.pool.finals) (leads.is ∙ ap (λ x. follow_arcs T.pool.arcs x waiting) (p.is ∙ ap (root_of T.map.roots) e))
      ∙ sym begin_inside
