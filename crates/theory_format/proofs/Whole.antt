-- READING AND SPELLING UNDO EACH OTHER, for the whole file.
-- These stand here and not in specs/ because a must-fail edit of what is spelled takes their ground away.
use Rattle.std.specs.Prelude.{ℕ, ◌≤◌, ◌≡◌, refl, ◌↔◌, true, List, ◌++◌, length}
use Rattle.std.proofs.Common.{sym, ap, subst, ◌∙◌, append_assoc, arith}
use Rattle.numbers.specs.Limits.{most_bytes}
use Rattle.numbers.specs.Part.{got}
use Rattle.tables.specs.Starting.{waits}
use Rattle.tables.specs.declared.tables.Tables.{Tables}
use Rattle.reading_order.specs.Laws.Order.{ordered_is}
use Rattle.reading_file.specs.File.{read_file, model_tables, set_tables}
use Rattle.reading_file.specs.Valid.{Valid}
use Rattle.reading_file.specs.Laws.Fields.{Fields, is_ordered, read_is}
use Rattle.reading_file.specs.Laws.Valid.{FieldsValid, fields_valid, valid}
use Rattle.theory_format.specs.Spelled.{machines, queues, transitions, pool, mapped, bad, spelled}
use Rattle.theory_format.specs.Readable.{Bytes, Readable}
use Rattle.theory_format.specs.Laws.Here.{Here, here_then, here_part, whole_here, here_whole}
use Rattle.theory_format.proofs.Model.{model_text, model_forth, model_back}
use Rattle.theory_format.specs.Laws.Pool.{pool_forth, pool_back}
use Rattle.theory_format.proofs.Sets.{sets_forth, sets_back}
use Rattle.theory_format.proofs.Fits.{fits_spelled}

-- the three parts that are read one after the other
abbrev model_bytes : Tables → List ℕ
model_bytes T = model_text (model_tables T)

abbrev sets_bytes : Tables → List ℕ
sets_bytes T = mapped T.machines.product T.map ++ bad T.bad

spelled_parts : (T : Tables) → spelled T ≡ model_bytes T ++ (pool T.queues.sum T.pool ++ sets_bytes T)
unfolding spelled
spelled_parts T =
    let m = machines (waits T.queues.lengths) T.machines in
    let q = queues T.queues in
    let rest = pool T.queues.sum T.pool ++ sets_bytes T in
    ap (λ l. m ++ l) (sym (append_assoc q (transitions T.transitions) rest))
    ∙ sym (append_assoc m (q ++ transitions T.transitions) rest)

-- all fields that were read stand there as they are spelled
fields_forth : (s : List ℕ) → Bytes s → {T : Tables} {next : ℕ} → Fields s T next → Here s 0 (spelled T) next
fields_forth s b {T} {next} f =
    let v = fields_valid f in
    subst (λ w. Here s 0 w next) (sym (spelled_parts T))
    (here_then (model_forth s b 0 f.to_pool.model)
    (here_then (pool_forth s b T.queues.sum f.to_pool.after_model v.model.queues.sum_most f.to_pool.pool)
    (sets_forth s b T.machines.product T.pool.count f.after_pool v.model.machines.product_most f.sets)))

-- and what stands there as it is spelled is read, field by field
fields_back : (s : List ℕ) (T : Tables) {next : ℕ} → length s ≤ most_bytes → FieldsValid T → Here s 0 (spelled T) next → Fields s T next
fields_back s T {next} short v h =
    let a = here_part (model_bytes T) (subst (λ w. Here s 0 w next) (spelled_parts T) h) in
    let b = here_part (pool T.queues.sum T.pool) a.second in
    record {
      after_pool = b.middle;
      to_pool =
          record {
            short = short;
            after_model = a.middle;
            model = model_back s 0 (model_tables T) v.model a.first;
            pool = pool_back s T.queues.sum a.middle T.pool v.model.queues.sum_most v.pool b.first;
          };
      sets =
          sets_back s T.machines.product T.pool.count b.middle (set_tables T) v.model.machines.product_most v.pool.most
          v.sets b.second;
    }

valid_fields : {T : Tables} → Valid T → FieldsValid T
valid_fields v =
    record {
      model = record { machines = v.machines; queues = v.queues; transitions = v.transitions };
      pool = v.pool;
      sets = record { map = v.map; bad = v.bad };
    }

valid_ordered : (T : Tables) → Valid T → is_ordered T ≡ true
valid_ordered T v =
    let f = valid_fields v in
    (ordered_is T.queues T.pool T.machines.product (set_tables T) v.queues v.pool f.sets).1 v.ordered

-- READING, THEN WRITING, restores the bytes
pub read_then_written : (s : List ℕ) → Bytes s → {T : Tables} {next : ℕ} → read_file s ≡ got T next → s ≡ spelled T
read_then_written s b {T} {next} e =
    let (f, o, end) = (read_is s T next).0 e in here_whole (subst (Here s 0 (spelled T)) end (fields_forth s b f))

-- WRITING, THEN READING, restores the tables
pub written_then_read : (T : Tables) → Valid T → read_file (spelled T) ≡ got T (length (spelled T))
written_then_read T v =
    (read_is (spelled T) T (length (spelled T))).1
    (fields_back (spelled T) T (omega (arith, (fits_spelled T v).short)) (valid_fields v) (whole_here (spelled T)), valid_ordered T v, refl)

-- A FILE IS READ INTO TABLES exactly if they are valid and it is the bytes that they spell.
pub read_exactly : (s : List ℕ) → Bytes s → (T : Tables) (next : ℕ) → (read_file s ≡ got T next) ↔ (Valid T × (s ≡ spelled T) × (next ≡ length s))
read_exactly s b T next = (
  λ e. (valid s e, read_then_written s b e, ((read_is s T next).0 e).2),
  λ r.
      ap read_file r.1 ∙ written_then_read T r.0 ∙ ap (got T) (sym (ap length r.1) ∙ sym r.2),
)

-- SOME FILE IS READ INTO TABLES exactly if they are valid.
pub readable_exactly : (T : Tables) → Readable T ↔ Valid T
readable_exactly T = (
  λ r. valid r.file r.read,
  λ v. record { file = spelled T; bytes = (fits_spelled T v).bytes; end = length (spelled T); read = written_then_read T v },
)

-- No file that is read has more than 11,700 bytes.
pub read_short : (s : List ℕ) → Bytes s → {T : Tables} {next : ℕ} → read_file s ≡ got T next → length s ≤ 11700
read_short s b {T} e = subst (λ u. length u ≤ 11700) (sym (read_then_written s b e)) (fits_spelled T (valid s e)).short

-- Two files with the same tables are the same bytes.
pub same_tables_same_bytes : (s u : List ℕ) → Bytes s → Bytes u → {T : Tables} {p q : ℕ} → read_file s ≡ got T p → read_file u ≡ got T q → s ≡ u
same_tables_same_bytes s u b c e f = read_then_written s b e ∙ sym (read_then_written u c f)
