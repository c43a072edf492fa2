-- Are two tables the same, entry by entry? `Laws.same_tables_lem` says that this is equality.
use Rattle.std.specs.Prelude.{ℕ, Bool, true, false, ◌&&◌, List, [], ◌∷◌, eqb}
use Rattle.tables.specs.declared.tables.Machines.{Machines}
use Rattle.tables.specs.declared.tables.Queues.{Queues}
use Rattle.tables.specs.declared.tables.Tables.{Tables}
use Rattle.tables.specs.declared.head.Head.{Head}
use Rattle.tables.specs.Head.{head_of}

unfoldable pub same : List ℕ → List ℕ → Bool
same [] [] = true
same [] (b ∷ m) = false
same (a ∷ l) [] = false
same (a ∷ l) (b ∷ m) = eqb a b && same l m

abbrev pub same_machines : Machines → Machines → Bool
same_machines m n =
    eqb m.count n.count && (eqb m.product n.product && (same m.states n.states && same m.starts n.starts))

abbrev pub same_queues : Queues → Queues → Bool
same_queues q p =
    eqb q.count p.count
    && (eqb q.sum p.sum
    && (same q.messages p.messages && (same q.lengths p.lengths && same q.contents p.contents)))

-- all but the large tables
abbrev pub same_heads : Head → Head → Bool
same_heads h g =
    same_machines h.machines g.machines
    && (same_queues h.queues g.queues
    && (eqb h.transitions g.transitions && (eqb h.states g.states && eqb h.bad g.bad)))

-- the large tables
abbrev pub same_large : Tables → Tables → Bool
same_large T U =
    same T.transitions.rows U.transitions.rows
    && (same T.pool.finals U.pool.finals
    && (same T.pool.arcs U.pool.arcs && (same T.map.roots U.map.roots && same T.bad.rows U.bad.rows)))

abbrev pub same_tables : Tables → Tables → Bool
same_tables T U = same_heads (head_of T) (head_of U) && same_large T U
