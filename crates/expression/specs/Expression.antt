-- WHAT COMES OF A TEXT: a pool and its root, or a refusal with its place (document 02, change 6).
use Rattle.std.specs.Prelude.{Bool, true, false, List, ℕ, ◌-◌, ltb, length, replicate}
use Rattle.tables.specs.Limits.{most_pool}
use Rattle.tables.specs.Pool.{pool_arcs}
use Rattle.tables.specs.declared.tables.Pool.{Pool}
use Rattle.theory_grammar.specs.Tree.{Tree}
use Rattle.theory_grammar.specs.Parse.{Parsed, parsed, stuck, parse}
use Rattle.theory_grammar.specs.Offends.{Limit, kept, passed, limits}
use Rattle.theory_occurrences.specs.Positions.{Automaton, automaton}
use Rattle.expression_states.specs.States.{states_from}
use Rattle.expression_pool.specs.Filled.{pool_for}
use Rattle.numbers.specs.Refusals.{text_too_long, outside_grammar, too_many_states}

-- bytes of a text
abbrev pub most_text : ℕ
most_text = 256

pub data Reply : Type 0 where
  root : ℕ → Reply
  refused : ℕ → ℕ → Reply

pub record Drawn : Type 0 where
  pub reply : Reply
  pub pool : Pool

-- a pool that is all 0
abbrev pub empty_pool : Pool
empty_pool = record { count = 0; finals = replicate most_pool 0; arcs = replicate pool_arcs 0 }

-- beside a refusal the pool is all 0
abbrev pub turned_away : ℕ → ℕ → Drawn
turned_away k p = record { reply = refused k p; pool = empty_pool }

abbrev pub states : Automaton → List ℕ
states A = states_from A.first A.follow A.label

-- are there more states than a diagram may have?
abbrev pub numbered : Bool → Automaton → Drawn
numbered true A = turned_away too_many_states 0
numbered false A = record { reply = root 0; pool = pool_for A (states A) }

abbrev pub draw : Automaton → Drawn
draw A = numbered (ltb most_pool (length (states A))) A

abbrev pub limited : Tree → Limit → Drawn
limited t kept = draw (automaton t)
limited t (passed k p) = turned_away k p

abbrev pub read : List ℕ → Parsed → Drawn
read s (parsed t) = limited t (limits s)
read s (stuck left) = turned_away outside_grammar (length s - left)

-- is it longer than a text may be?
abbrev pub measured : Bool → List ℕ → Drawn
measured true s = turned_away text_too_long most_text
measured false s = read s (parse s)

unfoldable pub expression : List ℕ → Drawn
expression s = measured (ltb most_text (length s)) s
