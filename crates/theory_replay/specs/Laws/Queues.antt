-- No step changes how many queues there are.
use Rattle.std.specs.Prelude.{ℕ, ◌≡◌, refl, List, [], ◌++◌, length, get_or}
use Rattle.std.proofs.Common.{sym, ap, ◌∙◌, length-set}
use Rattle.std.proofs.Math.Option.{some}
use Rattle.theory_model.specs.Model.{Action, local, send, receive, Configuration, act, begin}
use Rattle.theory_model.specs.Session.{Session}
use Rattle.theory_model.specs.Laws.Steps.{taken_is, receive_is}
use Rattle.theory_replay.specs.Rules.{Ended, ReplaysFrom, stop, step}
use Rattle.theory_replay.specs.Replay.{replayed}
use Rattle.theory_replay.specs.Laws.Rules.{replay_rules}

some_one : {qs qs' : List (List ℕ)} → some qs ≡ some qs' → qs ≡ qs'
some_one e = cc

act_queues : (a : Action) (qs qs' : List (List ℕ)) → act a qs ≡ some qs' → length qs' ≡ length qs
act_queues local qs qs' e = sym (ap length (some_one e))
act_queues (send q w) qs qs' e = sym (ap length (some_one e)) ∙ length-set qs q (get_or qs q [] ++ w)
act_queues (receive q w) qs qs' e = let (r, _, is) = (receive_is q w qs qs').0 e in sym (ap length is) ∙ length-set qs q r

replay_queues : {S : Session} {s : List ℕ} {n at : ℕ} {γ : Configuration} {e : Ended} → ReplaysFrom S s n at γ e
    → length e.last.queues ≡ length γ.queues
replay_queues (stop p) = refl
replay_queues {S} (step {t = t} {γ = γ} {γ' = γ'} p r) =
    let T = taken_is S.model t γ γ' p.taken in
    replay_queues r ∙ act_queues T.transition.action γ.queues γ'.queues T.acted

pub replayed_queues : (S : Session) (s : List ℕ) → length (replayed S s).last.queues ≡ length (begin S.model).queues
replayed_queues S s = replay_queues (replay_rules S s)
