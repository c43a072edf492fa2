-- The loop over steps, one step at a time.
use Rattle.std.specs.Prelude.{ℕ, ◌-◌, ◌*◌, ◌≤◌, ◌<◌, ◌≡◌, refl, List, ◌++◌, length, drop, Ok, Err}
use Rattle.std.proofs.Common.{sym, ap, subst, ◌∙◌, arith}
use Rattle.theory_replay.specs.Rules.{room}
use Rattle.theory_replay.specs.Rules as Rules
use Rattle.replaying_trace.specs.Reply.{said_stop}
use Rattle.theory_replay.specs.Replay.{replay_from}
use Rattle.theory_replay.specs.Laws.Turns.{turn_goes, step_advances, replay_stops, replay_goes}
use Rattle.replaying_queues.specs.Laid.{laid_all, memory_after}
use Rattle.replaying_queues.specs.Laws.Rings.{rings_length}
use Rattle.tables.specs.declared.tables.BadList.{BadList}
use Rattle.tables.specs.declared.tables.Tables.{Tables}
use Rattle.tables.specs.declared.view.TablesView.{TablesView}
use Rattle.tables.specs.declared.head.Head.{Head}
use Rattle.tables.specs.Head.{head_of}
use Rattle.tables.specs.View.{viewed}
use Rattle.theory_files.specs.Tables.{session_of}
use Rattle.replaying_step.specs.Configurations.{Settleable, Settles}
use Rattle.replaying_step.specs.Laws.Settling.{record_is}
use Rattle.replaying_step.specs.declared.runs.RunRecord.{RunRecord}
use Rattle.replaying_trace.specs.Run.{State, state, stands, Ready, Kept, Final, Stepped, rest, Reached}
use Rattle.replaying_trace.specs.Laws.Tables.{view_with_bad, with_bad_turn}
use Rattle.replaying_trace.specs.declared.progress.Progress.{Progress}
use Rattle.replaying_trace.specs.declared.progress.Stop.{Stop}
use Rattle.replaying_trace.specs.declared.progress.Ended as Code

kept_then : {f : Head} {a b c : List ℕ} → Kept f a b → Kept f b c → Kept f a c
kept_then k l = record { past = l.past ∙ k.past; long = l.long ∙ k.long }

-- the form of the end asks of the memory only what lies past the queues
memory_kept : (f : Head) (x : State) {mem : List ℕ} → Kept f mem x.memory
    → memory_after (stands f x).queues x.memory ≡ memory_after (stands f x).queues mem
memory_kept f x {mem} k =
    ap (λ l. laid_all (stands f x).queues ++ l)
    (subst (λ n. drop (n * room) x.memory ≡ drop (n * room) mem)
    (sym (rings_length x.memory x.lent.heads x.lent.lengths f.queues.count)) k.past)

-- THE LOOP'S INVARIANT
pub reached_begin : {T : Tables} {s : List ℕ} {x : State} → Ready T s x → Reached T s x x
reached_begin r = record { ready = r; same = refl; kept = record { past = refl; long = refl } }

module _ {v : TablesView} {s : List ℕ} where
  -- each step takes a byte at least
  pub falls : (y : State) {p : Progress} {r : RunRecord} {mem : List ℕ} → Stepped v s y (Ok p) r mem → (y.progress.at < p.at) × (p.at ≤ length s)
  falls y S = step_advances (turn_goes S.turned.turns).1

-- IN THE VIEW'S TABLES, WITH ANY BAD ENTRIES: a replay looks at none
module _ {v : TablesView} {s : List ℕ} {B : BadList} where
  -- ONE STEP MORE
  pub reached_step : (x y : State) {p : Progress} {r : RunRecord} {mem : List ℕ} → Reached (view_with_bad v B) s x y → Stepped v s y (Ok p) r mem
      → Reached (view_with_bad v B) s x (state r mem p)
  reached_step x y {p} {r} {mem} R S =
      let G = S.turned in
      let a = falls y S in
      let few : y.progress.steps < length s = omega (arith, R.ready.counted, a.0, a.1) in
      record {
        ready =
            record {
              valid = R.ready.valid;
              holds = G.holds;
              most = R.ready.most;
              within = a.1;
              counted = omega (arith, G.steps, R.ready.counted, a.0);
            };
        same =
            ap (λ n. replay_from (session_of (view_with_bad v B)) s (length s - n) n p.at (stands v.head (state r mem p))) G.steps
            ∙ sym
            (replay_goes (session_of (view_with_bad v B)) s y.progress.at (stands v.head y) y.progress.steps few
            (with_bad_turn (viewed v) B s y.progress.at (stands v.head y) ∙ G.turns))
            ∙ R.same;
        -- the same of another head: only the count of bad entries differs
        kept = kept_then R.kept (record { past = G.kept.past; long = G.kept.long });
      }

  -- THE END: record and memory stay, and are brought into the form of the end
  module _ (x y : State) {why : Stop} {r : RunRecord} {mem : List ℕ} (R : Reached (view_with_bad v B) s x y) (S : Stepped v s y (Err why) r mem) where
    pub halted_settleable : Settleable v.head.queues r mem
    halted_settleable =
        let stays = S.turned.stays in
        subst (λ m. Settleable v.head.queues r m) (sym stays.kept)
        (subst (λ z. Settleable v.head.queues z y.memory) (sym stays.same)
        (record { queues = R.ready.valid.queues; ringed = R.ready.holds.ringed; enough = R.ready.holds.enough }))

    pub reached_ran : {a : Code.Ended} {r' : RunRecord} {mem' : List ℕ} → a.why ≡ why → a.steps ≡ y.progress.steps → Settles v.head.queues r mem r' mem'
        → Final (head_of (view_with_bad v B)) (rest (view_with_bad v B) s x) x.memory a r' mem'
    reached_ran {a} {r'} {mem'} w n E = subst (λ e. Final (head_of (view_with_bad v B)) e x.memory a r' mem') (ended ∙ R.same) here
      where
        ended : Rules.ended (said_stop why) y.progress.steps (stands v.head y) ≡ rest (view_with_bad v B) s y
        ended =
            sym
            (replay_stops (session_of (view_with_bad v B)) s y.progress.at (stands v.head y) (length s - y.progress.steps) y.progress.steps
            (with_bad_turn (viewed v) B s y.progress.at (stands v.head y) ∙ S.turned.turns))

        at_stop : Settles v.head.queues y.lent y.memory r' mem'
        at_stop =
            let stays = S.turned.stays in
            subst (λ m. Settles v.head.queues y.lent m r' mem') stays.kept (subst (λ z. Settles v.head.queues z mem r' mem') stays.same E)

        here : Final (head_of (view_with_bad v B)) (Rules.ended (said_stop why) y.progress.steps (stands v.head y)) x.memory a r' mem'
        here =
            record {
              why = ap said_stop w;
              steps = n;
              lent = at_stop.lent ∙ record_is v.head.machines v.head.queues y.lent y.memory R.ready.valid.machines R.ready.valid.queues R.ready.holds;
              memory = at_stop.memory ∙ memory_kept (head_of (view_with_bad v B)) y R.kept;
            }
