-- What holds of the tables of every file that was read.
use Rattle.std.specs.Prelude.{ℕ, ◌≤◌, ◌≡◌, ◌↔◌, true, false, List, length}
use Rattle.std.proofs.Common.{subst, arith}
use Rattle.numbers.specs.Part.{got}
use Rattle.numbers.specs.Laws.Parts.{and_then_got, same_value}
use Rattle.tables.specs.Limits.{most_controls, most_pool}
use Rattle.reading_file.specs.Map.{read_map}
use Rattle.reading_file.specs.Bad.{read_bad}
use Rattle.reading_file.specs.Sets.{read_sets}
use Rattle.reading_file.specs.File.{read_file, model_tables, set_tables}
use Rattle.tables.specs.Valid.{PoolValid, ModelValid, SetsValid}
use Rattle.reading_file.specs.Valid.{Valid}
use Rattle.reading_pool.specs.Laws.Pool.{pool_valid}
use Rattle.reading_order.specs.Order.{Disordered}
use Rattle.reading_order.specs.Found.{RootsSmall, BadSmall}
use Rattle.reading_order.specs.Laws.Order.{ordered_is, disordered_is}
use Rattle.reading_file.specs.Laws.Map.{map_valid}
use Rattle.reading_file.specs.Laws.Bad.{bad_valid}
use Rattle.reading_file.specs.Laws.Fields.{Fields, is_ordered, read_is}
use Rattle.tables.specs.declared.tables.SetTables.{SetTables}
use Rattle.tables.specs.declared.tables.Tables.{Tables}
use Rattle.reading_model.specs.Laws.Model.{model_valid}

pub sets_valid : (s : List ℕ) (product n at : ℕ) {D : SetTables} {next : ℕ} → product ≤ most_controls
    → read_sets s at product n ≡ got D next → SetsValid product n D
unfolding read_sets
sets_valid s product n at h e =
    let R = and_then_got (read_map s at product n) e in
    let B = and_then_got (read_bad s R.place product n) R.then in
    subst (SetsValid product n) (same_value B.then)
    (record { map = map_valid s n product at h R.first; bad = bad_valid s product n R.place B.first })

-- so their roots are states of the pool, as the test of queue order asks
pub roots_small : {product n : ℕ} {D : SetTables} → SetsValid product n D → n ≤ most_pool → RootsSmall D.map.roots
roots_small v h = record { each = λ c. omega (arith, v.map.roots c) }

pub bad_small : {product n : ℕ} {D : SetTables} → SetsValid product n D → n ≤ most_pool → BadSmall D.bad.rows D.bad.count
bad_small v h = record { each = λ b l. omega (arith, v.bad.root b l) }

-- what holds of the tables as soon as all fields are read
pub record FieldsValid (T : Tables) : Type 0 where
  pub model : ModelValid (model_tables T)
  pub pool : PoolValid T.queues.sum T.pool
  pub sets : SetsValid T.machines.product T.pool.count (set_tables T)

pub fields_valid : {s : List ℕ} {T : Tables} {next : ℕ} → Fields s T next → FieldsValid T
fields_valid {s} {T} r =
    let model = model_valid s 0 r.to_pool.model in
    record {
      model = model;
      pool = pool_valid s T.queues.sum r.to_pool.after_model model.queues.sum_most r.to_pool.pool;
      sets = sets_valid s T.machines.product T.pool.count r.after_pool model.machines.product_most r.sets;
    }

-- what the test of queue order says of them
module _ {s : List ℕ} {T : Tables} {next : ℕ} (r : Fields s T next) where
  pub fields_ordered : (is_ordered T ≡ true) ↔ (Disordered T.queues T.pool (set_tables T) → ⊥)
  fields_ordered =
      let v = fields_valid r in
      ordered_is T.queues T.pool T.machines.product (set_tables T) v.model.queues v.pool v.sets

  pub fields_disordered : (is_ordered T ≡ false) ↔ Disordered T.queues T.pool (set_tables T)
  fields_disordered =
      let v = fields_valid r in
      disordered_is T.queues T.pool T.machines.product (set_tables T) v.model.queues v.pool v.sets

-- A FILE IS READ exactly if its fields are, up to its end, and no word accepted from a root is out of order.
pub read_exactly : (s : List ℕ) (T : Tables) (next : ℕ)
    → (read_file s ≡ got T next) ↔ (Fields s T next × (Disordered T.queues T.pool (set_tables T) → ⊥) × (next ≡ length s))
read_exactly s T next = (
  λ e. let (f, o, end) = (read_is s T next).0 e in (f, (fields_ordered f).0 o, end),
  λ r. (read_is s T next).1 (r.0, (fields_ordered r.0).1 r.1, r.2),
)

-- THE TABLES OF A FILE THAT WAS READ
pub valid : (s : List ℕ) {T : Tables} {next : ℕ} → read_file s ≡ got T next → Valid T
valid s {T} {next} e =
    let (f, o, end) = (read_is s T next).0 e in
    let v = fields_valid f in
    record {
      machines = v.model.machines;
      queues = v.model.queues;
      transitions = v.model.transitions;
      pool = v.pool;
      map = v.sets.map;
      bad = v.sets.bad;
      ordered = (fields_ordered f).0 o;
    }
