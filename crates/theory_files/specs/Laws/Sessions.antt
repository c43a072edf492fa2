-- The session of every file that was read is well formed and within document 01's limits: all theorems of the model hold of it.
use Rattle.std.specs.Prelude.{ℕ, ◌≡◌, refl, true, List}
use Rattle.std.proofs.Common.{ap, arith}
use Rattle.std.proofs.Math.Option.{Option, none, some}
use Rattle.reading_file.specs.Valid.{Valid}
use Rattle.tables.specs.declared.tables.Tables.{Tables}
use Rattle.theory_model.specs.Model.{total, Between}
use Rattle.theory_model.specs.Diagram.{accepts, is_final, OutOfOrder}
use Rattle.theory_model.specs.Session.{WellFormed}
use Rattle.theory_model.specs.Laws.Basics.{false_not_true}
use Rattle.theory_model.specs.Laws.Walks.{follow_none}
use Rattle.theory_model.specs.Laws.Ordered.{in_order, accepted_between}
use Rattle.theory_model.specs.Laws.Bounds.{Within}
use Rattle.theory_tables.specs.Pool.{pool_of}
use Rattle.reading_order.specs.Order.{of_control}
use Rattle.theory_tables.specs.Laws.Arcs.{arc_within}
use Rattle.theory_tables.specs.Laws.Queues.{messages_are}
use Rattle.theory_files.specs.Tables.{session_of}
use Rattle.tables.specs.Lookup.{root_of}
use Rattle.tables.specs.Laws.Lookup.{root_entry}
use Rattle.theory_files.specs.Laws.Counts.{product_is, states_are}
use Rattle.theory_files.specs.Laws.Starting.{starting_own}
use Rattle.theory_files.specs.Laws.Rows.{transitions_length, entries_length, words_own, moves_within, entries_within}

module _ (T : Tables) (ok : Valid T) where
  messages_within : (o : Option ℕ) (u : List ℕ) → accepts (pool_of T.pool) o u ≡ true → Between 0 (total (session_of T).model.queues) u
  messages_within =
      accepted_between (pool_of T.pool) (total (session_of T).model.queues) (λ s m s' e.
      let a = arc_within T.pool ok.pool s m s' e in
      omega (arith, a.message, messages_are ok.queues))

  -- what the root of a control state accepts is not out of order
  root_ordered : (c : ℕ) (u : List ℕ) → accepts (pool_of T.pool) (root_of T.map.roots c) u ≡ true
      → OutOfOrder (session_of T).model.queues u → ⊥
  root_ordered c u e back = go (root_of T.map.roots c) refl e
    where
      go : (o : Option ℕ) → root_of T.map.roots c ≡ o → accepts (pool_of T.pool) o u ≡ true → ⊥
      go none f t = false_not_true (ap (is_final (pool_of T.pool)) (follow_none (pool_of T.pool) u)) t
      go (some s) f t = ok.ordered (record { root = s; listed = of_control c f; word = u; accepted = t; back = back })

  pub well_formed : WellFormed (session_of T)
  well_formed =
      let M = ok.machines in
      let Q = ok.queues in
      record {
        starts =
            states_are T.machines.count T.machines.states T.machines.starts (omega (arith, M.most, M.states_long))
            (omega (arith, M.most, M.starts_long)) M.starts;
        starting = starting_own T.queues Q;
        moves = moves_within T.machines T.queues T.transitions Q (omega (arith, M.most, M.states_long)) ok.transitions;
        words = words_own T.machines T.queues T.transitions Q ok.transitions;
        arcs = λ s m s' e. (arc_within T.pool ok.pool s m s' e).to;
        roots = λ c s e. omega (arith, root_entry T.map.roots c e, ok.map.roots c);
        entries = λ c s m. entries_within T.machines.product T.pool.count T.bad ok.bad (c, s) m;
        ordered =
            λ c u e. in_order (session_of T).model.queues u (messages_within (root_of T.map.roots c) u e) (root_ordered c u e);
      }

  pub within : Within (session_of T)
  within =
      let M = ok.machines in
      record {
        states = ok.pool.most;
        controlled =
            let same = product_is T.machines.states T.machines.count (omega (arith, M.most, M.states_long)) in
            omega (arith, M.product, M.product_most);
        transitions = omega (arith, transitions_length T.transitions.rows T.transitions.count 0, ok.transitions.most);
        entries = omega (arith, entries_length T.bad.rows T.bad.count 0, ok.bad.most);
      }
