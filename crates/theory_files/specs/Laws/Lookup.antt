-- The session of a file, asked by its tables: how many control states, where an arc leads, what is final.
use Rattle.std.specs.Prelude.{ℕ, ◌<◌, ◌≡◌, refl, take}
use Rattle.std.proofs.Common.{sym, ◌∙◌, lt-ltb, arith}
use Rattle.std.proofs.Math.Option.{Option, none, some}
use Rattle.tables.specs.Limits.{most_messages}
use Rattle.tables.specs.Valid.{MachinesValid}
use Rattle.tables.specs.declared.tables.Machines.{Machines}
use Rattle.tables.specs.declared.tables.Pool.{Pool}
use Rattle.theory_model.specs.Model.{sizes_product}
use Rattle.theory_model.specs.Diagram.{along, is_final}
use Rattle.theory_tables.specs.Pool.{arc_of, pool_of}
use Rattle.tables.specs.Lookup.{along_arc, final_at}
use Rattle.theory_files.specs.Laws.Counts.{product_is}

pub controls_are : {m : Machines} → MachinesValid m → sizes_product (take m.count m.states) ≡ m.product
controls_are {m} v = product_is m.states m.count (omega (arith, v.most, v.states_long)) ∙ sym v.product

pub along_is : (P : Pool) (s : Option ℕ) (m : ℕ) → m < most_messages → along (pool_of P) s m ≡ along_arc P.arcs s m
along_is P none m h = refl
along_is P (some s) m h = rw (lt-ltb m most_messages h, arc_of)

pub final_is : (P : Pool) (s : Option ℕ) → is_final (pool_of P) s ≡ final_at P.finals s
final_is P none = refl
final_is P (some s) = refl
