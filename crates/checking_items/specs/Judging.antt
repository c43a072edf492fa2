-- What judging says of an item, and of the memory that is lent for it.
use Rattle.std.specs.Prelude.{ℕ, ◌*◌, ◌≤◌, ◌<◌, ◌≡◌, List, length, drop, Result, Ok, Err}
use Rattle.tables.specs.Rows.{row_length}
use Rattle.tables.specs.declared.tables.Tables.{Tables}
use Rattle.reading_file.specs.Valid.{Valid}
use Rattle.theory_model.specs.Verdict.{step, entry}
use Rattle.theory_model.specs.Judge as Model
use Rattle.theory_model.specs.Laws.Items.{IsItem}
use Rattle.theory_files.specs.Tables.{session_of, transition_at}
use Rattle.tables.specs.Limits.{contents_least}
use Rattle.checking_pairs.specs.Pairs.{most_codes}
use Rattle.checking_pairs.specs.Marks.{Blank}
use Rattle.checking_walk.specs.Judged.{said_judged, shown_by}
use Rattle.checking_walk.specs.declared.judge.Shown.{Shown}

abbrev pub pairs_of : Result ℕ Shown → ℕ
pairs_of (Ok pairs) = pairs
pairs_of (Err shown) = 0

-- only the first n entries of the buffer were written
pub record Kept (n : ℕ) (contents₀ contents₁ : List ℕ) : Type 0 where
  pub long : length contents₁ ≡ length contents₀
  pub within : n ≤ length contents₀
  pub rest : drop n contents₁ ≡ drop n contents₀

-- scratch tables as a walk wants them and leaves them
pub record Scratch (seen queue : List ℕ) : Type 0 where
  pub seen_long : length seen ≡ most_codes
  pub queue_long : length queue ≡ most_codes
  pub blank : Blank seen queue

-- ONE ITEM: the judgement, the buffer and the scratch tables
pub record Judging (o : Model.Judged) (contents₀ : List ℕ) (r : Result ℕ Shown) (contents₁ seen₁ queue₁ : List ℕ) : Type 0 where
  pub is : said_judged r contents₁ ≡ o
  pub few : pairs_of r ≤ most_codes
  pub most : shown_by r ≤ contents_least
  pub kept : Kept (shown_by r) contents₀ contents₁
  pub scratch : Scratch seen₁ queue₁

-- WHAT IS ASKED for a step: an item of the tables, whose row begins here
pub record StepOf (T : Tables) (c row : ℕ) : Type 0 where
  pub number : ℕ
  pub within : number < T.transitions.count
  pub place : row ≡ number * row_length
  pub control : c < T.machines.product
  pub item : IsItem (session_of T) (step c number (transition_at T.transitions.rows row))

-- for a bad entry
pub record EntryOf (T : Tables) (control root : ℕ) : Type 0 where
  pub number : ℕ
  pub item : IsItem (session_of T) (entry number (control, root))

-- with tables that were read
pub record StepAsked (T : Tables) (c row : ℕ) : Type 0 where
  pub number : ℕ
  pub valid : Valid T
  pub within : number < T.transitions.count
  pub place : row ≡ number * row_length
  pub control : c < T.machines.product
  pub item : IsItem (session_of T) (step c number (transition_at T.transitions.rows row))

pub record EntryAsked (T : Tables) (control root : ℕ) : Type 0 where
  pub number : ℕ
  pub valid : Valid T
  pub item : IsItem (session_of T) (entry number (control, root))

pub step_asked : {T : Tables} {c row : ℕ} → Valid T → StepOf T c row → StepAsked T c row
step_asked v s =
    record { number = s.number; valid = v; within = s.within; place = s.place; control = s.control; item = s.item }

pub entry_asked : {T : Tables} {control root : ℕ} → Valid T → EntryOf T control root → EntryAsked T control root
entry_asked v e = record { number = e.number; valid = v; item = e.item }
