-- Where the start leads.
use Rattle.std.specs.Prelude.{Bool, ℕ}
use Rattle.std.proofs.Math.Option.{Option}
use Rattle.tables.specs.Lookup.{root_of}
use Rattle.tables.specs.Starting.{starting_of}
use Rattle.tables.specs.declared.tables.Tables.{Tables}
use Rattle.theory_model.specs.Model.{number, begin}
use Rattle.theory_model.specs.Diagram.{word}
use Rattle.theory_model.specs.Session.{inside}
use Rattle.theory_files.specs.Tables.{session_of}
use Rattle.controls.specs.Controls.{sizes_of, starts_of}
use Rattle.following.specs.Follow.{follow_arcs}

-- is what waits at the start in the set of the starting control state?
abbrev pub begins_inside : Tables → Bool
begins_inside T = inside (session_of T) (begin (session_of T).model)

-- where what waits at the start leads from the root of the starting control state
abbrev pub start_at : Tables → Option ℕ
start_at T =
    follow_arcs T.pool.arcs (root_of T.map.roots (number (sizes_of T.machines) (starts_of T.machines))) (word (starting_of T.queues))
