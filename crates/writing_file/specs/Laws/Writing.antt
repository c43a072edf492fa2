-- Why tables are not read again, and the bytes that they are put into.
use Rattle.std.specs.Prelude.{ℕ, ◌≤◌, ◌<◌, ◌≡◌, refl, Bool, true, false, Result, List, length, take, drop, replicate}
use Rattle.std.proofs.Common.{sym, ◌∙◌, arith}
use Rattle.std.proofs.Math.Path.{ap}
use Rattle.std.proofs.lemmas.List.{length-replicate}
use Rattle.std.proofs.Math.Seq.{take-append_seam}
use Rattle.std.proofs.lemmas.Bool.{lt-leb}
use Rattle.numbers.specs.Limits.{most_bytes}
use Rattle.numbers.specs.Part.{Part, got, refused, provided}
use Rattle.numbers.specs.Put.{Put}
use Rattle.numbers.specs.Laws.Put.{put_front}
use Rattle.tables.specs.Limits.{most_machines, most_controls}
use Rattle.tables.specs.declared.tables.Tables.{Tables}
use Rattle.theory_model.specs.Laws.Basics.{by_test, false_not_true}
use Rattle.reading_file.specs.Said.{read, refusal, said_answer}
use Rattle.reading_file.specs.File.{read_file, handed, Reads}
use Rattle.reading_file.specs.Laws.Fields.{file_is, parts}
use Rattle.reading_file.specs.Laws.Valid.{valid}
use Rattle.reading_file.specs.Laws.Reading.{answer_refused, answer_read}
use Rattle.numbers.specs.declared.refusal.Refusal.{Refusal}
use Rattle.theory_format.specs.Spelled.{spelled}
use Rattle.comparison.specs.Same.{same_tables}
use Rattle.comparison.specs.Laws.{same_tables_lem}
use Rattle.writing_file.specs.Write.{gives, restored}

-- what reading answered of some bytes says whether it gave the tables
module _ (x : Part Tables) (r : Result Tables Refusal) (h : Reads x r) (T : Tables) where
  pub gives_refused : (k p : ℕ) → said_answer r ≡ refusal k p → false ≡ gives x T
  gives_refused k p e = sym (ap (λ y. gives y T) (answer_refused x r h k p e))

  pub gives_read : said_answer r ≡ read → {b : Bool} → b ≡ same_tables T (handed r) → b ≡ gives x T
  gives_read e f = f ∙ sym (ap (λ y. gives y T) (answer_read x r h e).1)

-- what gave the tables was read into them
pub gives_got : (x : Part Tables) (T : Tables) → gives x T ≡ true → (next : ℕ) × (x ≡ got T next)
gives_got (got U next) T e = (next, ap (λ t. got t next) (sym (same_tables_lem T U e)))
gives_got (refused k p) T e = false_not_true refl e

pub restored_read : (T : Tables) → restored T ≡ true → (next : ℕ) × (read_file (spelled T) ≡ got T next)
unfolding restored
restored_read T e = gives_got (read_file (spelled T)) T e

module _ (T : Tables) where
  not_restored : (restored T ≡ true → ⊥) → restored T ≡ false
  not_restored h = by_test (restored T) (λ e. absurd (h e)) (λ e. e)

  -- more machines than a file has
  pub unread_machines : most_machines < T.machines.count → restored T ≡ false
  unread_machines h = not_restored (λ e. absurd (omega (arith, (valid (spelled T) (restored_read T e).1).machines.most)))

  -- a product that passes its limit
  pub unread_product : most_controls < T.machines.product → restored T ≡ false
  unread_product h = not_restored (λ e. absurd (omega (arith, (valid (spelled T) (restored_read T e).1).machines.product_most)))

  -- more bytes than a file has
  pub unread_long : most_bytes < length (spelled T) → restored T ≡ false
  unfolding restored
  unread_long h =
      ap (λ x. gives x T)
      (file_is (spelled T) ∙ ap (λ b. provided b 1 most_bytes (parts (spelled T))) (lt-leb (length (spelled T)) most_bytes h))

-- THE FRONT of the bytes that tables were put into
pub record Fronted (T : Tables) (n : ℕ) (front : List ℕ) : Type 0 where
  pub is : front ≡ spelled T
  pub long : n ≡ length front
  pub size : n ≡ length (spelled T)

pub fronted : (T : Tables) {bytes : List ℕ} {most n : ℕ} → Put (replicate most_bytes 0) 0 most (spelled T) bytes n → n ≤ most_bytes
    → Fronted T n (take n bytes)
fronted T {bytes} {most} {n} w h = made (replicate most_bytes 0) (length-replicate {A = ℕ} most_bytes 0) w
  where
    made : (entry : List ℕ) → length entry ≡ most_bytes → Put entry 0 most (spelled T) bytes n → Fronted T n (take n bytes)
    made entry e p =
        let size : n ≡ length (spelled T) = omega (arith, p.next) in
        let is : take n bytes ≡ spelled T =
        ap (λ (k : ℕ). take k bytes) size ∙ ap (take (length (spelled T))) (put_front p (omega arith))
        ∙ take-append_seam (spelled T) (drop (length (spelled T)) entry) in
        record { is = is; long = size ∙ sym (ap length is); size = size }

-- whether they are read into the tables again
pub restored_by : (T : Tables) {n : ℕ} {front : List ℕ} {b c : Bool} → Fronted T n front → b ≡ gives (read_file front) T → b ≡ c → restored T ≡ c
unfolding restored
restored_by T f e g = sym (e ∙ ap (λ (u : List ℕ). gives (read_file u) T) f.is) ∙ g
