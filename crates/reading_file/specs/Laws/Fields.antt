-- The parts of a file one after another: where each was read, and what reading the whole comes to.
use Rattle.std.specs.Prelude.{ℕ, ◌≤◌, ◌<◌, ◌≡◌, refl, ◌↔◌, Bool, true, false, List, length, leb}
use Rattle.std.proofs.Common.{sym, ap, subst, subst₂, ◌∙◌, leb-true, le-leb, arith}
use Rattle.numbers.specs.Limits.{most_bytes}
use Rattle.numbers.specs.Part.{Part, got, refused, provided, and_then}
use Rattle.numbers.specs.Laws.Parts.{provided_got, same_value, same_place_lem, and_then_assoc, and_then_same}
use Rattle.reading_pool.specs.Pool.{read_pool}
use Rattle.reading_order.specs.Search.{in_queue_order}
use Rattle.reading_model.specs.Model.{read_model}
use Rattle.reading_file.specs.Sets.{read_sets}
use Rattle.reading_file.specs.Ends.{read_ends}
use Rattle.reading_file.specs.File.{read_with, read_file, joined, model_tables, set_tables}
use Rattle.numbers.specs.Laws.Places.{Fair}
use Rattle.reading_model.specs.Laws.Places.{model_fair}
use Rattle.reading_pool.specs.Laws.Places.{pool_fair}
use Rattle.reading_file.specs.Laws.Places.{sets_fair}
use Rattle.tables.specs.declared.tables.ModelTables.{ModelTables}
use Rattle.tables.specs.declared.tables.Pool.{Pool}
use Rattle.tables.specs.declared.tables.Tables.{Tables}

-- the file is not too long, and its model and its pool are read, up to place at
pub record ToPool (s : List ℕ) (M : ModelTables) (P : Pool) (at : ℕ) : Type 0 where
  pub short : length s ≤ most_bytes
  pub after_model : ℕ
  pub model : read_model s 0 ≡ got M after_model
  pub pool : read_pool s after_model M.queues.sum ≡ got P at

-- and so are its sets, up to place next: all its fields
pub record Fields (s : List ℕ) (T : Tables) (next : ℕ) : Type 0 where
  pub after_pool : ℕ
  pub to_pool : ToPool s (model_tables T) T.pool after_pool
  pub sets : read_sets s after_pool T.machines.product T.pool.count ≡ got (set_tables T) next

-- the test of queue order, of whole tables
abbrev pub is_ordered : Tables → Bool
is_ordered T = in_queue_order T.queues T.pool T.machines.product (set_tables T)

-- what follows queue order: the end of the file
abbrev pub at_end : List ℕ → Tables → ℕ → Part Tables
at_end s T next = provided (leb (length s) next) 10 next (got T next)

-- what follows the sets: queue order, and the end
abbrev pub from_order : List ℕ → Tables → ℕ → Part Tables
from_order s T next = provided (is_ordered T) 9 next (at_end s T next)

-- what follows the pool
abbrev pub from_sets : List ℕ → ℕ → ModelTables → Pool → Part Tables
from_sets s at M P = and_then (read_sets s at M.machines.product P.count) (λ D next. from_order s (joined M P D) next)

-- what follows the model
abbrev pub from_pool : List ℕ → ℕ → ModelTables → Part Tables
from_pool s at M = and_then (read_pool s at M.queues.sum) (λ P next. from_sets s next M P)

-- the whole, where the file is not too long
abbrev pub parts : List ℕ → Part Tables
parts s = and_then (read_model s 0) (λ M next. from_pool s next M)

-- what follows two tests may stand behind them
module _ {A B : Type 0} where
  tests_then : (b c : Bool) (v : A) (next : ℕ) (f : A → ℕ → Part B)
      → and_then (provided b 9 next (provided c 10 next (got v next))) f ≡ provided b 9 next (provided c 10 next (f v next))
  tests_then true true v next f = refl
  tests_then true false v next f = refl
  tests_then false c v next f = refl

-- the ends, and the tables of what was read before them
ends_then : (s : List ℕ) (at : ℕ) (M : ModelTables) (P : Pool)
    → and_then (read_ends s at M.machines.product M.queues P) (λ D next. got (joined M P D) next) ≡ from_sets s at M P
unfolding read_ends
ends_then s at M P =
    and_then_assoc (read_sets s at M.machines.product P.count) _ _
    ∙ and_then_same (read_sets s at M.machines.product P.count) _ _
    (λ D next. tests_then (in_queue_order M.queues P M.machines.product D) (leb (length s) next) D next _)

pub file_is : (s : List ℕ) → read_file s ≡ provided (leb (length s) most_bytes) 1 most_bytes (parts s)
unfolding read_file read_with
file_is s =
    ap (provided (leb (length s) most_bytes) 1 most_bytes)
    (and_then_same (read_model s 0) _ _
    (λ M p₁. and_then_same (read_pool s p₁ M.queues.sum) _ _ (λ P p₂. ends_then s p₂ M P)))

-- once the pool is read, the sets come next
to_pool_lem : {s : List ℕ} {M : ModelTables} {P : Pool} {at : ℕ} → ToPool s M P at → read_file s ≡ from_sets s at M P
to_pool_lem {s} {M} {P} {at} r =
    file_is s
    ∙ ap (λ b. provided b 1 most_bytes (parts s)) (le-leb (length s) most_bytes r.short)
    ∙ ap (λ x. and_then x (λ M' next. from_pool s next M')) r.model
    ∙ ap (λ x. and_then x (λ P' next. from_sets s next M P')) r.pool

-- once all is read, the test of queue order
pub to_order : {s : List ℕ} {T : Tables} {next : ℕ} → Fields s T next → read_file s ≡ from_order s T next
to_order {s} {T} {next} r =
    to_pool_lem r.to_pool
    ∙ ap (λ x. and_then x (λ D n. from_order s (joined (model_tables T) T.pool D) n)) r.sets

-- and where that is passed the file must be at its end
pub to_end : {s : List ℕ} {T : Tables} {next : ℕ} → Fields s T next → is_ordered T ≡ true → read_file s ≡ at_end s T next
to_end {s} {T} {next} r ordered = to_order r ∙ ap (λ b. provided b 9 next (at_end s T next)) ordered

-- What comes of a file is late where it is no refusal of a part: tables, or a refusal by 9 or 10.
abbrev pub Late : Part Tables → Type 0
Late (got T next) = Unit {0}
Late (refused k p) = (8 < k) × (k ≤ 10)

-- the first part was read, and what follows it gives y
record Past {A : Type 0} (s : List ℕ) (x : Part A) (f : A → ℕ → Part Tables) (y : Part Tables) : Type 0 where
  value : A
  place : ℕ
  inside : place ≤ length s
  first : x ≡ got value place
  then : f value place ≡ y

past : {A : Type 0} (s : List ℕ) (at : ℕ) (x : Part A) {f : A → ℕ → Part Tables} {y : Part Tables} → Fair s 8 at x → Late y
    → and_then x f ≡ y → Past s x f y
past s at (got v next) h late e = record { value = v; place = next; inside = h.1; first = refl; then = e }
past s at (refused k p) h late e = let l = subst Late (sym e) late in absurd (omega (arith, l.0, h.most (λ n. omega (arith, l.1))))

-- all fields were read, and what follows them gives y
pub record Ended (s : List ℕ) (y : Part Tables) : Type 0 where
  pub tables : Tables
  pub place : ℕ
  pub inside : place ≤ length s
  pub read : Fields s tables place
  pub then : from_order s tables place ≡ y

pub ended : (s : List ℕ) → length s ≤ most_bytes → {y : Part Tables} → Late y → parts s ≡ y → Ended s y
ended s short late e =
    let M = past s 0 (read_model s 0) {f = λ M' next. from_pool s next M'} (model_fair s 0 (omega arith)) late e in
    let P =
    past s M.place (read_pool s M.place M.value.queues.sum) {f = λ P' next. from_sets s next M.value P'}
    (pool_fair s M.value.queues.sum M.place M.inside) late M.then
    in
    let D =
    past s P.place (read_sets s P.place M.value.machines.product P.value.count)
    {f = λ D' next. from_order s (joined M.value P.value D') next}
    (sets_fair s M.value.machines.product P.value.count P.place P.inside) late P.then
    in
    record {
      tables = joined M.value P.value D.value;
      place = D.place;
      inside = D.inside;
      read =
          record {
            after_pool = P.place;
            to_pool = record { short = short; after_model = M.place; model = M.first; pool = P.first };
            sets = D.first;
          };
      then = D.then;
    }

-- A FILE IS READ exactly if its fields are, one after another, up to its end, and it passes the test of queue order.
pub read_is : (s : List ℕ) (T : Tables) (next : ℕ) → (read_file s ≡ got T next) ↔ (Fields s T next × (is_ordered T ≡ true) × (next ≡ length s))
read_is s T next = (forth, λ r. to_end r.0 r.1 ∙ ap (λ b. provided b 10 next (got T next)) (le-leb (length s) next (omega (arith, r.2))))
  where
    forth : read_file s ≡ got T next → Fields s T next × (is_ordered T ≡ true) × (next ≡ length s)
    forth e =
        let g = provided_got (leb (length s) most_bytes) 1 most_bytes (parts s) (sym (file_is s) ∙ e) in
        let z = ended s (leb-true (length s) most_bytes g.0) {y = got T next} tt g.1 in
        let o = provided_got (is_ordered z.tables) 9 z.place (at_end s z.tables z.place) z.then in
        let w = provided_got (leb (length s) z.place) 10 z.place (got z.tables z.place) o.1 in
        let l = leb-true (length s) z.place w.0 in
        let n = same_place_lem w.1 in
        let t = same_value w.1 in
        (subst₂ (λ t' k. Fields s t' k) t n z.read, subst (λ t'. is_ordered t' ≡ true) t o.0, omega (arith, z.inside))
