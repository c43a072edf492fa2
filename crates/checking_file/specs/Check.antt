-- What the verdict on tables asks of the memory that is lent, and says.
use Rattle.std.specs.Prelude.{ℕ, ◌≤◌, ◌≡◌, List, length, replicate, Ok}
use Rattle.tables.specs.declared.tables.Tables.{Tables}
use Rattle.theory_model.specs.Judge as Model
use Rattle.theory_files.specs.Tables.{session_of}
use Rattle.tables.specs.Limits.{contents_least}
use Rattle.checking_pairs.specs.Pairs.{most_codes}
use Rattle.checking_items.specs.Judging.{Kept}
use Rattle.checking_items.specs.Promises.{Memory}
use Rattle.verdicts.specs.Said.{said, shown_in}
use Rattle.verdicts.specs.declared.verdict.Verdict.{Verdict}

-- memory enough is lent, and the scratch tables are 0
pub record Room (n : ℕ) (seen queue contents : List ℕ) : Type 0 where
  pub front : n ≡ most_codes
  pub seen_long : n ≤ length seen
  pub queue_long : n ≤ length queue
  pub contents_long : contents_least ≤ length contents
  pub seen_blank : seen ≡ replicate (length seen) 0
  pub queue_blank : queue ≡ replicate (length queue) 0

-- the memory that is lent
abbrev pub lent : List ℕ → List ℕ → List ℕ → Memory
lent contents seen queue = record { contents = contents; seen = seen; queue = queue }

-- THE VERDICT on tables; the scratch tables are as before, and so is the rest of the buffer
pub record Concludes (T : Tables) (M₀ : Memory) (r : Verdict) (M₁ : Memory) : Type 0 where
  pub is : said r M₁.contents ≡ Model.verdict (session_of T)
  pub seen : M₁.seen ≡ M₀.seen
  pub queue : M₁.queue ≡ M₀.queue
  pub kept : Kept (shown_in (Ok r)) M₀.contents M₁.contents
