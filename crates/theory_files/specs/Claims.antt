-- What is claimed of the reply to every byte string: what it means, with no search in it (demand 2), and what it says of the run of any
-- list of numbers (demand 3).
use Rattle.std.specs.Prelude.{ℕ, ◌≤◌, ◌≡◌, ◌↔◌, List}
use Rattle.numbers.specs.Part as Part
use Rattle.reading_file.specs.File.{read_file}
use Rattle.tables.specs.declared.tables.Tables.{Tables}
use Rattle.theory_model.specs.Verdict.{Reply, closed, items, Means, Closed, most_in_all}
use Rattle.theory_model.specs.TwoRuns.{TwoRuns}
use Rattle.theory_files.specs.Tables.{session_of}
use Rattle.theory_files.specs.Reply.{FileReply, refused, verdict, reply_to}

-- DEMAND 2: what a reply means where reading gave x
pub record Meant (x : Part.Part Tables) (r : FileReply) : Type 0 where
  -- what is turned away has its refusal, number and place
  pub refuses : (k p : ℕ) → x ≡ Part.refused k p → r ≡ refused k p
  -- what is read has a verdict: the first failing item of its session with the contents shown, or closed with the number of pairs
  pub judges : (T : Tables) (next : ℕ) → x ≡ Part.got T next
      → (v : Reply) × (r ≡ verdict v) × Means (session_of T) (items (session_of T)) v
  -- and it is closed exactly if the start is inside, no step that can be taken leads out, and no listed bad contents are inside
  pub closes : (T : Tables) (next : ℕ) → x ≡ Part.got T next → ((n : ℕ) × (r ≡ verdict (closed n))) ↔ Closed (session_of T)
  pub few : (n : ℕ) → r ≡ verdict (closed n) → n ≤ most_in_all

-- DEMAND 3: what a reply says of the run fed the list ts where reading gave x
pub record TwoRunsTo (x : Part.Part Tables) (r : FileReply) (ts : List ℕ) : Type 0 where
  pub defined : r ≡ reply_to x
  pub refuses : (k p : ℕ) → x ≡ Part.refused k p → r ≡ refused k p
  -- closed accepts the run, leaves rejects its step, and the number of pairs is fixed
  pub runs : (T : Tables) (next : ℕ) → x ≡ Part.got T next → (v : Reply) × (r ≡ verdict v) × TwoRuns (session_of T) v ts
  pub few : (n : ℕ) → r ≡ verdict (closed n) → n ≤ most_in_all

-- OF EVERY BYTE STRING
abbrev pub MeansOf : List ℕ → FileReply → Type 0
MeansOf s r = Meant (read_file s) r

abbrev pub TwoRunsOf : List ℕ → FileReply → List ℕ → Type 0
TwoRunsOf s r ts = TwoRunsTo (read_file s) r ts
