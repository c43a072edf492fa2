-- What is known at a place of the queue: its pair is marked, and its parent stands earlier.
use Rattle.std.proofs.Common.{sym, ◌∙◌, arith}
use Rattle.std.specs.Prelude.{List, ℕ, ◌≤◌, ◌<◌, eqb, length, get_or}
use Rattle.std.proofs.lemmas.Bool.{eqb-false, not-true}
use Rattle.theory_exploration.specs.Laws.Marks.{mem_at}
use Rattle.checking_pairs.specs.Laws.Marks.{tables_most}
use Rattle.checking_walk.specs.Shown.{parent_of, Placed}

module _ {seen queue : List ℕ} {k : ℕ} (P : Placed seen queue k) where
  pub placed_long : k < length queue
  placed_long = omega (arith, P.within, tables_most P.tables, P.tables.queue_long)

  pub placed_code : get_or queue k 0 < length seen
  placed_code = omega (arith, P.tables.codes k, P.tables.seen_long)

  -- a pair that was found is marked
  pub placed_marked : 1 ≤ get_or seen (get_or queue k 0) 0
  placed_marked =
      let found = mem_at queue P.tail k P.within placed_long in
      let unmarked = not-true (eqb (get_or seen (get_or queue k 0) 0) 0) (sym (P.tables.known (get_or queue k 0)) ∙ found) in
      let apart = eqb-false (get_or seen (get_or queue k 0) 0) 0 unmarked in
      omega arith

  pub parent_earlier : 0 < k → parent_of seen queue k < k
  parent_earlier h = omega (arith, P.tables.earlier k h P.within, placed_marked)

  pub placed_before : {j : ℕ} → j < k → Placed seen queue j
  placed_before h = record { tail = P.tail; tables = P.tables; within = omega (arith, P.within) }
