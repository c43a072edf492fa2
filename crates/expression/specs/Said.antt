-- What the code answers, in the words of the definition: for each case the number and the values of document 02.
use Rattle.std.specs.Prelude.{List, ℕ, Result, Ok, Err}
use Rattle.theory_occurrences.specs.Positions.{Automaton}
use Rattle.tables.specs.declared.kinds.DiagramState.{DiagramState}
use Rattle.tables.specs.declared.tables.Pool.{Pool}
use Rattle.expression_parse.specs.declared.parts.Part.{Part}
use Rattle.expression_scan.specs.Said.{said_excess}
use Rattle.expression.specs.Expression.{Reply, Drawn, root, refused, turned_away, most_text}
use Rattle.expression.specs.declared.draw.ExpressionRefusal.{ExpressionRefusal}
use Rattle.expression.specs.declared.draw.ExpressionRefusal.TheVariants.{TooLong, Outside, Offender, TooManyStates}
use Rattle.expression.specs.declared.draw.Drawing.{Drawing}
use Rattle.numbers.specs.Refusals.{text_too_long, outside_grammar, too_many_states}

-- the number of a refusal, and its place; of a text that is too long, how long one may be
abbrev pub refusal_number : ExpressionRefusal → ℕ
refusal_number TooLong = text_too_long
refusal_number (Outside p) = outside_grammar
refusal_number (Offender o p) = said_excess o
refusal_number TooManyStates = too_many_states

abbrev pub refusal_place : ExpressionRefusal → ℕ
refusal_place TooLong = most_text
refusal_place (Outside p) = p
refusal_place (Offender o p) = p
refusal_place TooManyStates = 0

abbrev pub said_reply : Result Drawing ExpressionRefusal → Reply
said_reply (Ok d) = root d.root.0
said_reply (Err e) = refused (refusal_number e) (refusal_place e)

-- beside a refusal the pool is all 0
abbrev pub said_drawing : Result Drawing ExpressionRefusal → Drawn
said_drawing (Ok d) = record { reply = root d.root.0; pool = d.pool }
said_drawing (Err e) = turned_away (refusal_number e) (refusal_place e)

-- a root and the pool that it stands in; a refusal speaks of no pool
abbrev pub drawn : Result DiagramState ExpressionRefusal → Pool → Result Drawing ExpressionRefusal
drawn (Ok r) P = Ok (record { root = r; pool = P })
drawn (Err e) P = Err e

-- the automaton that the parse leaves in a part and two tables
abbrev pub automaton_of : Part → List ℕ → List ℕ → Automaton
automaton_of p F L = record { skips = p.skips; first = p.first; last = p.last; follow = F; label = L }
