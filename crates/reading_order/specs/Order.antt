-- Queue order (source document 000, section 4; document 02, change 4): it is asked of the words that are accepted from a root, of no others.
use Rattle.std.specs.Prelude.{ℕ, ◌+◌, ◌*◌, ◌<◌, ◌≡◌, true, List, get_or, take}
use Rattle.std.proofs.Math.Option.{some}
use Rattle.tables.specs.Lookup.{root_of}
use Rattle.tables.specs.declared.tables.Queues.{Queues}
use Rattle.tables.specs.declared.tables.Pool as Declared
use Rattle.tables.specs.declared.tables.SetTables.{SetTables}
use Rattle.theory_model.specs.Diagram.{accepts, OutOfOrder}
use Rattle.theory_tables.specs.Pool.{pool_of}

-- a root of the map, or of the bad list, where it counts also if its control state has no root
pub data Root (D : SetTables) (s : ℕ) : Type 0 where
  of_control : (c : ℕ) → root_of D.map.roots c ≡ some s → Root D s
  of_entry : (b : ℕ) → b < D.bad.count → get_or D.bad.rows (b * 2 + 1) 0 ≡ s → Root D s

-- OUT OF ORDER: a word accepted from a root has a message of an earlier queue after one of a later queue
pub record Disordered (q : Queues) (P : Declared.Pool) (D : SetTables) : Type 0 where
  pub root : ℕ
  pub listed : Root D root
  pub word : List ℕ
  pub accepted : accepts (pool_of P) (some root) word ≡ true
  pub back : OutOfOrder (take q.count q.messages) word
