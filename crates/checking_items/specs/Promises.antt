-- What each function over an item promises, of the tables and the memory that it is lent.
use Rattle.std.specs.Prelude.{ℕ, ◌≤◌, ◌≡◌, List, length, Result}
use Rattle.tables.specs.declared.tables.Tables.{Tables}
use Rattle.tables.specs.Limits.{contents_least}
use Rattle.theory_model.specs.Verdict.{step, entry}
use Rattle.theory_model.specs.Searched.{judge_by_search}
use Rattle.theory_files.specs.Tables.{session_of, transition_at}
use Rattle.checking_pairs.specs.Pairs.{most_codes}
use Rattle.checking_walk.specs.declared.judge.Shown.{Shown}
use Rattle.checking_items.specs.Judging.{Judging, Scratch}
use Rattle.checking_items.specs.declared.scratch.Scratch.{Scratch as Lent}

-- the contents buffer and the scratch tables
pub record Memory : Type 0 where
  pub contents : List ℕ
  pub seen : List ℕ
  pub queue : List ℕ

abbrev pub memory : Lent → Memory
memory m = record { contents = m.contents.now; seen = m.seen.now; queue = m.queue.now }

-- what a walk wants of it
pub record Ready (M : Memory) : Type 0 where
  pub scratch : Scratch M.seen M.queue
  pub room : contents_least ≤ length M.contents

-- the memory at exit is that which was lent
pub record SameLent (m₀ m₁ : Lent) : Type 0 where
  pub seen : m₁.seen.ghost_name ≡ m₀.seen.ghost_name
  pub queue : m₁.queue.ghost_name ≡ m₀.queue.ghost_name
  pub contents : m₁.contents.ghost_name ≡ m₀.contents.ghost_name

-- THE STEP of control state c whose row begins here; its number has no part in the judgement
abbrev pub StepJudged : Tables → ℕ → ℕ → List ℕ → Result ℕ Shown → Memory → Type 0
StepJudged T c row contents r M =
    Judging (judge_by_search (session_of T) most_codes (step c 0 (transition_at T.transitions.rows row))) contents r M.contents M.seen
    M.queue

-- THE BAD ENTRY with this control state and root
abbrev pub EntryJudged : Tables → ℕ → ℕ → List ℕ → Result ℕ Shown → Memory → Type 0
EntryJudged T control root contents r M =
    Judging (judge_by_search (session_of T) most_codes (entry 0 (control, root))) contents r M.contents M.seen M.queue
