-- Tables less their bad entries can be replayed, and no replay tells them from the same tables with their own bad entries or any others.
use Rattle.std.specs.Prelude.{ℕ, ◌*◌, ◌≡◌, List}
use Rattle.std.proofs.Common.{sym, arith}
use Rattle.std.proofs.lemmas.List.{length-replicate}
use Rattle.numbers.specs.Laws.Written.{zeros_hold}
use Rattle.tables.specs.Limits.{most_bad}
use Rattle.tables.specs.Valid.{BadValid}
use Rattle.tables.specs.View.{viewed}
use Rattle.reading_order.specs.Order.{Root, of_control, of_entry}
use Rattle.reading_file.specs.File.{set_tables}
use Rattle.reading_file.specs.Valid.{Valid}
use Rattle.tables.specs.declared.tables.BadList.{BadList}
use Rattle.tables.specs.declared.tables.Tables.{Tables}
use Rattle.tables.specs.declared.view.TablesView.{TablesView}
use Rattle.theory_model.specs.Model.{Configuration}
use Rattle.theory_files.specs.Tables.{session_of}
use Rattle.theory_replay.specs.Replay.{turn, replayed}
use Rattle.theory_replay.specs.Laws.Turns.{turn_without_bad, replayed_without_bad}
use Rattle.replaying_trace.specs.Tables.{without_bad}
use Rattle.replaying_trace.specs.Run.{State, Ready}

-- the same tables with these bad entries: T itself is with_bad T T.bad, and without_bad T is with_bad T (without_bad T).bad
abbrev pub with_bad : Tables → BadList → Tables
with_bad T B =
    record {
      machines = T.machines;
      queues = T.queues;
      transitions = T.transitions;
      pool = T.pool;
      map = T.map;
      bad = B;
    }

abbrev pub view_with_bad : TablesView → BadList → Tables
view_with_bad v B = with_bad (viewed v) B

module _ (T : Tables) (v : Valid T) where
  none_bad : BadValid T.machines.product T.pool.count (without_bad T).bad
  none_bad =
      record {
        most = omega arith;
        long = length-replicate {A = ℕ} (most_bad * 2) 0;
        control = λ b h. absurd (omega arith);
        root = λ b h. absurd (omega arith);
        rest = λ k _. zeros_hold (most_bad * 2) k;
      }

  pub without_bad_valid : Valid (without_bad T)
  without_bad_valid =
      record {
        machines = v.machines;
        queues = v.queues;
        transitions = v.transitions;
        pool = v.pool;
        map = v.map;
        bad = none_bad;
        ordered = λ d. v.ordered (record { root = d.root; listed = listed d.root d.listed; word = d.word; accepted = d.accepted; back = d.back });
      }
    where
      listed : (s : ℕ) → Root (set_tables (without_bad T)) s → Root (set_tables T) s
      listed s (of_control c e) = of_control c e
      listed s (of_entry b l e) = absurd (omega arith)

pub ready_without_bad : {T : Tables} {s : List ℕ} {x : State} → Ready T s x → Ready (without_bad T) s x
ready_without_bad {T} R =
    record { valid = without_bad_valid T R.valid; holds = R.holds; most = R.most; within = R.within; counted = R.counted }

-- no replay looks at bad entries
module _ (T : Tables) (B : BadList) (s : List ℕ) where
  pub with_bad_turn : (at : ℕ) (γ : Configuration) → turn (session_of (with_bad T B)) s at γ ≡ turn (session_of (without_bad T)) s at γ
  with_bad_turn =
      turn_without_bad (session_of T).model (session_of T).pool (session_of T).root (session_of (with_bad T B)).bad (session_of (without_bad T)).bad s

  pub with_bad_replayed : replayed (session_of (with_bad T B)) s ≡ replayed (session_of (without_bad T)) s
  with_bad_replayed =
      replayed_without_bad (session_of T).model (session_of T).pool (session_of T).root (session_of (with_bad T B)).bad (session_of (without_bad T)).bad s

pub without_bad_replayed : (T : Tables) (s : List ℕ) → replayed (session_of (without_bad T)) s ≡ replayed (session_of T) s
without_bad_replayed T s = sym (with_bad_replayed T T.bad s)
