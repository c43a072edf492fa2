-- THE SERVICES RESTORE what was read and what was written, by what each promises.
use Rattle.std.specs.Prelude.{ℕ, ◌≤◌, ◌≡◌, refl, Bool, true, false, cond, Result, List, ◌++◌, length, take, drop, leb}
use Rattle.std.proofs.Common.{sym, ap, ◌∙◌, le-leb, arith}
use Rattle.std.proofs.Math.Seq.{take-append_seam}
use Rattle.numbers.specs.Part.{got}
use Rattle.tables.specs.Valid.{StartingValid}
use Rattle.tables.specs.declared.tables.Tables.{Tables}
use Rattle.reading_file.specs.File.{read_file}
use Rattle.theory_format.specs.Spelled.{spelled}
use Rattle.theory_format.specs.Readable.{Bytes}
use Rattle.theory_format.proofs.Whole.{read_then_written, readable_exactly, written_then_read}
use Rattle.writing_file.specs.Write.{WriteReply, wrote, refusal, restored, write_reply, buffer_after, said_written, Writes}
use Rattle.writing_file.specs.Laws.Restored.{restored_exactly}
use Rattle.writing_file.specs.declared.write.WriteRefusal.{WriteRefusal}

-- the length that was written, 0 after a refusal
abbrev length_of : WriteReply → ℕ
length_of (wrote n) = n
length_of (refusal k p) = 0

-- READING, THEN WRITING: where the buffer has room for the file, its front is the file, and the bytes past it are kept
pub read_written : (s buffer : List ℕ) → Bytes s → {T : Tables} {next : ℕ} → read_file s ≡ got T next → length s ≤ length buffer
    → {r : Result ℕ WriteRefusal} {exit : List ℕ} → Writes T buffer r exit → (said_written r ≡ wrote (length s)) × (exit ≡ s ++ drop (length s) buffer)
read_written s buffer bytes {T} {next} e room w =
    let same = read_then_written s bytes e in
    let again = (restored_exactly T).1 (record { file = s; bytes = bytes; end = next; read = e }) in
    let whole : write_reply (restored T) (spelled T) buffer ≡ wrote (length s) =
    ap (λ b. write_reply b (spelled T) buffer) again ∙ ap (λ u. write_reply true u buffer) (sym same)
    ∙ ap (λ b. cond b (wrote (length s)) (refusal 17 0)) (le-leb (length s) (length buffer) room)
    in
    (w.reply ∙ whole, w.buffer ∙ ap (λ x. buffer_after x (spelled T) buffer) whole ∙ ap (λ u. u ++ drop (length s) buffer) (sym same))

-- a length is replied to tables that are read again, and it is that of what they spell
written_is : (b c : Bool) (w : List ℕ) (n : ℕ) → cond b (cond c (wrote (length w)) (refusal 17 0)) (refusal 16 0) ≡ wrote n
    → (b ≡ true) × (length w ≡ n)
written_is true true w n e = (refl, ap length_of e)
written_is true false w n e = absurd (let z : ◌≡◌ {A = ℕ} 0 1 = cc in omega arith)
written_is false c w n e = absurd (let z : ◌≡◌ {A = ℕ} 0 1 = cc in omega arith)

-- WRITING, THEN READING: where a length was replied, so many bytes of the buffer are read into the tables
pub written_read : (T : Tables) (buffer : List ℕ) {r : Result ℕ WriteRefusal} {exit : List ℕ} {n : ℕ} → Writes T buffer r exit → said_written r ≡ wrote n
    → read_file (take n exit) ≡ got T n
written_read T buffer {exit = exit} {n} w e =
    let whole = sym w.reply ∙ e in
    let (again, long) = written_is (restored T) (leb (length (spelled T)) (length buffer)) (spelled T) n whole in
    let front : take n exit ≡ spelled T =
    ap (take n) (w.buffer ∙ ap (λ x. buffer_after x (spelled T) buffer) whole) ∙ ap (λ (k : ℕ). take k (spelled T ++ drop n buffer)) (sym long)
    ∙ take-append_seam (spelled T) (drop n buffer)
    in
    ap read_file front ∙ written_then_read T ((readable_exactly T).0 ((restored_exactly T).0 again)) ∙ ap (got T) long

-- 16 FOR STARTING CONTENTS THAT NO FILE HAS
pub starting_refused : (T : Tables) (buffer : List ℕ) {r : Result ℕ WriteRefusal} {exit : List ℕ} → Writes T buffer r exit → (StartingValid T.queues → ⊥)
    → said_written r ≡ refusal 16 0
starting_refused T buffer w h = w.unread.1 (λ x. h ((readable_exactly T).0 x).queues.starting)
