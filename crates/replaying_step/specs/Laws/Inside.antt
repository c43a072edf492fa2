-- Whether the configuration of a record is inside, and how far it is followed if not, by what the code finds in the tables.
use Rattle.std.specs.Prelude.{ℕ, ◌≤◌, ◌<◌, ◌≡◌, Bool, true, false, List, get_or, take, Result, Ok, Err}
use Rattle.std.proofs.Common.{sym, ap, ◌∙◌, arith}
use Rattle.std.proofs.Math.Option.{Option, some}
use Rattle.tables.specs.Limits.{most_messages, most_pool}
use Rattle.tables.specs.Kinds.{reached_of}
use Rattle.tables.specs.Lookup.{root_of, final_at, RootAt, ArcsSmall}
use Rattle.tables.specs.Pool.{arc_at}
use Rattle.tables.specs.Laws.Lookup.{arcs_small, reached_small}
use Rattle.tables.specs.declared.kinds.DiagramState.{DiagramState}
use Rattle.theory_model.specs.Model.{Between, Own, Configuration, number, total}
use Rattle.theory_model.specs.Laws.Queues.{between_wide, word_between}
use Rattle.theory_model.specs.Diagram.{Pool, follow, how_far, is_final, accepts, word}
use Rattle.theory_model.specs.Laws.Far.{far_whole}
use Rattle.theory_tables.specs.Pool.{pool_of}
use Rattle.theory_files.specs.Laws.Lookup.{along_is, final_is}
use Rattle.theory_tables.specs.Laws.Queues.{messages_are}
use Rattle.controls.specs.Controls.{sizes_of}
use Rattle.following.specs.Follow.{follow_arcs, far_arcs}
use Rattle.following.specs.Laws.Follow.{follow_is}
use Rattle.following.specs.Laws.Far.{far_is_arcs}
use Rattle.replaying_queues.specs.Ring.{rings}
use Rattle.replaying_queues.specs.Lent.{Rings}
use Rattle.replaying_queues.specs.Led.{Leads, Waits}
use Rattle.replaying_queues.specs.Laws.Led.{led_to_lem, led_nowhere}
use Rattle.following.specs.declared.messages.Lost.{Lost}
use Rattle.replaying_step.specs.Parts.{pool_in}
use Rattle.replaying_step.specs.Configurations.{config_of}
use Rattle.replaying_step.specs.Inside.{Mapped, Located}
use Rattle.replaying_step.specs.Laws.Shifting.{ringed_rings}
use Rattle.tables.specs.declared.view.TablesView.{TablesView}
use Rattle.replaying_step.specs.declared.inside.Outside.{Outside}
use Rattle.replaying_step.specs.declared.runs.RunRecord.{RunRecord}

-- the messages of queues that have messages of their own
own_small : {ns : List ℕ} {qs : List (List ℕ)} → total ns ≤ most_messages → Own 0 ns qs → Between 0 most_messages (word qs)
own_small {ns} h own = between_wide (omega arith) (omega arith) (word_between own)

module _ {v : TablesView} {r : RunRecord} {mem : List ℕ} (A : Mapped v r mem) where
  pub root_small : (c : ℕ) → get_or v.roots.now c 0 ≤ most_pool
  root_small c = omega (arith, A.map.roots c, A.pool.most)

  pub small_arcs : ArcsSmall v.arcs.now
  small_arcs = arcs_small A.pool

  pub in_rings : Rings mem r.heads r.lengths v.head.queues.count
  in_rings = ringed_rings A.queues A.holds.ringed A.holds.enough

  pub messages_small : Between 0 most_messages (word (rings mem r.heads r.lengths v.head.queues.count))
  messages_small = own_small (omega (arith, messages_are A.queues, A.queues.sum_most)) A.holds.contents

  -- WHAT THE CODE FINDS from the root of the control state, t: c is its number
  module _ {c t : ℕ} (e : c ≡ number (sizes_of v.head.machines) (take v.head.machines.count r.states)) (root : RootAt v.roots.now c t) where
    abbrev pool : Pool
    pool = pool_of (pool_in v.head v.finals.now v.arcs.now)

    abbrev start : Option ℕ
    start = root_of v.roots.now (number (sizes_of v.head.machines) (take v.head.machines.count r.states))

    abbrev waiting : List ℕ
    waiting = word (rings mem r.heads r.lengths v.head.queues.count)

    abbrev γ : Configuration
    γ = config_of v.head.machines v.head.queues r mem

    same_arcs : (s m : ℕ) → m < most_messages → pool.arc s m ≡ arc_at v.arcs.now s m
    same_arcs s = along_is (pool_in v.head v.finals.now v.arcs.now) (some s)

    from_root : reached_of t ≡ start
    from_root = root.is ∙ ap (root_of v.roots.now) e

    follow_table : {x : Option ℕ} → follow_arcs v.arcs.now (reached_of t) waiting ≡ x → follow pool start waiting ≡ x
    follow_table g = sym (ap (λ y. follow_arcs v.arcs.now y waiting) from_root ∙ follow_is pool v.arcs.now same_arcs start waiting messages_small) ∙ g

    far_table : far_arcs v.arcs.now (reached_of t) waiting ≡ how_far pool start waiting
    far_table = ap (λ y. far_arcs v.arcs.now y waiting) from_root ∙ far_is_arcs pool v.arcs.now same_arcs start waiting messages_small

    inside_table : {x : Option ℕ} → follow_arcs v.arcs.now (reached_of t) waiting ≡ x → accepts pool start waiting ≡ final_at v.finals.now x
    inside_table {x} g = ap (is_final pool) (follow_table g) ∙ final_is (pool_in v.head v.finals.now v.arcs.now) x

    -- nowhere to go; a final state; another, and then all that waits is followed
    pub located_lost : {a : Result DiagramState Lost} {l : Lost} {o : Outside} → Leads v.arcs.now t waiting a → a ≡ Err l → o.0 ≡ l.0 → Located v γ (Err o)
    located_lost l z n =
        let (g, far) = led_nowhere l z in
        record { is = (inside_table g, n ∙ far ∙ far_table) }

    module _ {a : Result DiagramState Lost} {s : DiagramState} (l : Leads v.arcs.now t waiting a) (z : a ≡ Ok s) {b : Bool} {k : ℕ} (h : k ≡ s.0)
        (d : b ≡ final_at v.finals.now (reached_of k)) where
      state_final : accepts pool start waiting ≡ b
      state_final =
          let (g, below) = led_to_lem l z in
          inside_table g ∙ ap (final_at v.finals.now) (sym (ap reached_of h ∙ reached_small below)) ∙ sym d

      pub located_final : b ≡ true → Located v γ (Ok tt)
      located_final i = record { is = state_final ∙ i }

      pub located_other : {n : ℕ} {o : Outside} → b ≡ false → Waits r.lengths v.head.queues.count n → o.0 ≡ n → Located v γ (Err o)
      located_other i W n =
          record { is = (state_final ∙ i, n ∙ W.is mem r.heads ∙ sym (far_whole pool start waiting (follow_table (led_to_lem l z).0))) }
