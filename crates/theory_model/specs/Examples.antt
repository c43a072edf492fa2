-- Document 01's numbering, its files R and S and some of their variants as sessions, judged by computing, a run, and two lines as printed.
use Rattle.std.specs.Prelude.{◌≡◌, refl, true, false, List, [], ◌∷◌, map, ℕ, ◌+◌, eqb}
use Rattle.std.proofs.Math.Option.{none, some}
use Rattle.theory_exploration.specs.Explore.{explore, rounds, expand, fresh, starts, children_from}
use Rattle.theory_model.specs.Model.{Action, Transition, send, receive, Model, number, places, run}
use Rattle.theory_model.specs.Diagram.{Pool}
use Rattle.theory_model.specs.Session.{Session}
use Rattle.theory_model.specs.Verdict.{closed, outside, leaves, bad}
use Rattle.theory_model.specs.Judge.{verdict, decide, judge, far_after, look, walked}
use Rattle.theory_model.specs.Line.{line, digits, spaced_all, refused_line}

-- for machines of 2 and 3 states, the pair (1, 2) is control state 5
pair_number : number (2 ∷ 3 ∷ []) (1 ∷ 2 ∷ []) ≡ 5
pair_number = refl

number_pair : places (2 ∷ 3 ∷ []) 5 ≡ 1 ∷ 2 ∷ []
number_pair = refl

-- one machine sends message 0, another receives it
abbrev pub sender : Transition
sender = record { machine = 0; from = 0; to = 0; action = send 0 (0 ∷ []) }

abbrev pub receiver : Transition
receiver = record { machine = 1; from = 0; to = 0; action = receive 0 (0 ∷ []) }

abbrev pub model_r : Model
model_r = record { sizes = 1 ∷ 1 ∷ []; starts = 0 ∷ 0 ∷ []; queues = 1 ∷ []; starting = [] ∷ []; transitions = sender ∷ receiver ∷ [] }

abbrev pub session_r : Pool → List (ℕ × ℕ) → Session
session_r P bads = record { model = model_r; pool = P; root = λ c. some 0; bad = bads }

-- any number of messages may wait; none; at most one; and nothing is accepted
abbrev pub any_number : Pool
any_number = record { states = 1; final = λ s. true; arc = λ s m. elim (eqb m 0) [ true ↦ some 0 | false ↦ none ] }

abbrev no_message : Pool
no_message = record { states = 1; final = λ s. true; arc = λ s m. none }

abbrev one_at_most : Pool
one_at_most = record { states = 2; final = λ s. true; arc = λ s m. elim (eqb (s + m) 0) [ true ↦ some 1 | false ↦ none ] }

abbrev nothing_accepted : Pool
nothing_accepted = record { states = 1; final = λ s. false; arc = λ s m. elim (eqb m 0) [ true ↦ some 0 | false ↦ none ] }

-- one machine and two queues; the set is any 0s, then any 1s
abbrev session_s : Action → Session
session_s a =
    record {
      model = record { sizes = 1 ∷ []; starts = 0 ∷ []; queues = 1 ∷ 1 ∷ []; starting = [] ∷ [] ∷ []; transitions = record { machine = 0; from = 0; to = 0; action = a } ∷ [] };
      pool = record { states = 2; final = λ s. true; arc = λ s m. elim (eqb m 1) [ true ↦ some 1 | false ↦ elim (eqb (s + m) 0) [ true ↦ some 0 | false ↦ none ] ] };
      root = λ c. some 0;
      bad = [];
    }

pub r_closed : verdict (session_r any_number []) ≡ closed 4
unfolding verdict decide judge far_after look walked explore rounds expand fresh starts children_from
r_closed = refl

r_leaves_empty : verdict (session_r no_message []) ≡ leaves 0 0 [] 0
unfolding verdict decide judge far_after look walked explore rounds expand fresh starts children_from
r_leaves_empty = refl

r_leaves_one : verdict (session_r one_at_most []) ≡ leaves 0 0 (0 ∷ []) 1
unfolding verdict decide judge far_after look walked explore rounds expand fresh starts children_from
r_leaves_one = refl

r_outside : verdict (session_r nothing_accepted []) ≡ outside
unfolding verdict decide judge far_after look walked explore rounds expand fresh starts children_from
r_outside = refl

r_bad : verdict (session_r any_number ((0, 0) ∷ [])) ≡ bad 0 []
unfolding verdict decide judge far_after look walked explore rounds expand fresh starts children_from
r_bad = refl

-- a send to queue 0, and a receive from queue 1
s_closed : verdict (session_s (send 0 (0 ∷ []))) ≡ closed 3
unfolding verdict decide judge far_after look walked explore rounds expand fresh starts children_from
s_closed = refl

s_receives : verdict (session_s (receive 1 (1 ∷ []))) ≡ closed 3
unfolding verdict decide judge far_after look walked explore rounds expand fresh starts children_from
s_receives = refl

-- sent and received; 7 is no transition, and nothing is left to receive
r_run : map (λ γ. γ.queues) (run model_r (0 ∷ 1 ∷ 7 ∷ 1 ∷ [])) ≡ ([] ∷ []) ∷ ((0 ∷ []) ∷ []) ∷ ([] ∷ []) ∷ ([] ∷ []) ∷ ([] ∷ []) ∷ []
r_run = refl

-- leaves 0 0 1 1: 0
leaves_line : line (leaves 0 0 (0 ∷ []) 1) ≡ 108 ∷ 101 ∷ 97 ∷ 118 ∷ 101 ∷ 115 ∷ 32 ∷ 48 ∷ 32 ∷ 48 ∷ 32 ∷ 49 ∷ 32 ∷ 49 ∷ 58 ∷ 32 ∷ 48 ∷ 10 ∷ []
unfolding line digits spaced_all
leaves_line = refl

-- refused 10 at 29
refused_line_lem : refused_line 10 29 ≡ 114 ∷ 101 ∷ 102 ∷ 117 ∷ 115 ∷ 101 ∷ 100 ∷ 32 ∷ 49 ∷ 48 ∷ 32 ∷ 97 ∷ 116 ∷ 32 ∷ 50 ∷ 57 ∷ 10 ∷ []
unfolding refused_line digits
refused_line_lem = refl
