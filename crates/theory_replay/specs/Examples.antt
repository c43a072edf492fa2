-- Replays by computing: one machine sends message 0, another receives it, and the map holds up to two that wait.
use Rattle.std.specs.Prelude.{ℕ, ◌+◌, ◌≡◌, refl, true, false, not, List, [], ◌∷◌, replicate, ltb}
use Rattle.std.proofs.Math.Option.{none, some}
use Rattle.numbers.specs.Number.{read_number, read_below}
use Rattle.theory_model.specs.Model.{Configuration, send}
use Rattle.theory_model.specs.Diagram.{Pool}
use Rattle.theory_model.specs.Session.{Session}
use Rattle.theory_model.specs.Examples.{model_r, session_r}
use Rattle.theory_replay.specs.Rules.{end, outside, refusal, ended}
use Rattle.theory_replay.specs.Replay.{turn, replay_from, replayed}

-- a state is the number of messages so far, and is final from least on
abbrev two_at_most : ℕ → Pool
two_at_most least = record { states = 3; final = λ s. not (ltb s least); arc = λ s m. elim (ltb (s + m) 2) [ true ↦ some (s + 1) | false ↦ none ] }

abbrev S : Session
S = session_r (two_at_most 0) []

abbrev waiting : List ℕ → Configuration
waiting q = record { control = 0; queues = q ∷ [] }

ends : (replayed S [] ≡ ended end 0 (waiting [])) × (replayed S (0 ∷ 1 ∷ 0 ∷ 0 ∷ []) ≡ ended end 4 (waiting (0 ∷ 0 ∷ [])))
unfolding replay_from turn read_below read_number
ends = (refl, refl)

-- three are too many, and two are followed; what is left of the trace is not read; a map that does not hold the start, where nothing waits
leaves : (replayed S (0 ∷ 0 ∷ 0 ∷ 99 ∷ []) ≡ ended (outside 2) 3 (waiting (0 ∷ 0 ∷ 0 ∷ []))) × (replayed (session_r (two_at_most 1) []) (0 ∷ []) ≡ ended (outside 0) 0 (waiting []))
unfolding replay_from turn read_below read_number
leaves = (refl, refl)

-- the queue starts with these messages: one is received; three are outside at the start, and no step is taken
abbrev resumed : List ℕ → Session
resumed q =
    record {
      model = record { sizes = model_r.sizes; starts = model_r.starts; queues = model_r.queues; starting = q ∷ []; transitions = model_r.transitions };
      pool = two_at_most 0;
      root = λ c. some 0;
      bad = [];
    }

resumes : (replayed (resumed (0 ∷ [])) (1 ∷ []) ≡ ended end 1 (waiting []))
    × (replayed (resumed (0 ∷ [])) (1 ∷ 1 ∷ []) ≡ ended (refusal 14 1) 1 (waiting []))
    × (replayed (resumed (0 ∷ 0 ∷ 0 ∷ [])) (1 ∷ []) ≡ ended (outside 2) 0 (waiting (0 ∷ 0 ∷ 0 ∷ [])))
unfolding replay_from turn read_below read_number
resumes = (refl, refl, refl)

-- nothing is left to receive; 2 is no transition; 128 0 is no form of a number; the bytes end inside a number
refuses : (replayed S (0 ∷ 1 ∷ 1 ∷ []) ≡ ended (refusal 14 2) 2 (waiting []))
    × (replayed S (0 ∷ 2 ∷ []) ≡ ended (refusal 5 1) 1 (waiting (0 ∷ [])))
    × (replayed S (0 ∷ 128 ∷ 0 ∷ []) ≡ ended (refusal 4 1) 1 (waiting (0 ∷ [])))
    × (replayed S (0 ∷ 128 ∷ []) ≡ ended (refusal 3 2) 1 (waiting (0 ∷ [])))
unfolding replay_from turn read_below read_number
refuses = (refl, refl, refl, refl)

-- 1,024 messages have room in the queue, and leave the map; 1,025 have none, and the step is not taken
abbrev sends : ℕ → Session
sends n =
    record {
      model = record { sizes = 1 ∷ []; starts = 0 ∷ []; queues = 1 ∷ []; starting = [] ∷ []; transitions = record { machine = 0; from = 0; to = 0; action = send 0 (replicate n 0) } ∷ [] };
      pool = two_at_most 0;
      root = λ c. some 0;
      bad = [];
    }

has_room : ((replayed (sends 1024) (0 ∷ [])).why ≡ outside 2) × (replayed (sends 1025) (0 ∷ []) ≡ ended (refusal 15 0) 0 (waiting []))
unfolding replay_from turn read_below read_number
has_room = (refl, refl)
