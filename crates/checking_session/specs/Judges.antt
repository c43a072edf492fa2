-- What judging items one after the other says and asks.
use Rattle.std.specs.Prelude.{ℕ, ◌+◌, ◌*◌, ◌≤◌, ◌<◌, ◌≡◌, List, Result, Ok, Err}
use Rattle.tables.specs.Limits.{most_transitions}
use Rattle.tables.specs.declared.tables.Tables.{Tables}
use Rattle.reading_file.specs.Valid.{Valid}
use Rattle.theory_model.specs.Verdict.{Reply}
use Rattle.checking_pairs.specs.Pairs.{most_codes}
use Rattle.checking_cursor.specs.Left.{most_steps}
use Rattle.checking_items.specs.Judging.{Kept, Scratch}
use Rattle.verdicts.specs.Said.{said_items, shown_items}
use Rattle.verdicts.specs.declared.verdict.Failing.{Failing}

-- more pairs than any session has (document 01: at most 1,066,385,472), so that every sum on the way stays within a machine number
abbrev pub ample_pairs : ℕ
ample_pairs = 1100000000

-- the most pairs of the items before a step, and before a bad entry
abbrev pub pairs_before : ℕ → ℕ → ℕ
pairs_before c i = most_codes * (1 + (c * most_transitions + i))

abbrev pub pairs_to_entry : ℕ → ℕ
pairs_to_entry b = most_codes * (1 + most_steps + b)

-- the pairs of all items till now; none is told where one has failed
abbrev pub pairs_in : Result ℕ Failing → ℕ
pairs_in (Ok pairs) = pairs
pairs_in (Err failing) = 0

-- SEVERAL ITEMS: all passed, with so many pairs till now; or the first that failed
pub record Judges (most : ℕ) (o : Reply) (contents₀ : List ℕ) (r : Result ℕ Failing) (contents₁ seen₁ queue₁ : List ℕ) : Type 0 where
  pub is : said_items r contents₁ ≡ o
  pub few : pairs_in r ≤ most
  pub kept : Kept (shown_items r) contents₀ contents₁
  pub scratch : Scratch seen₁ queue₁

-- WHAT IS ASKED for transition i at control state c: tables that were read have both
pub record TurnAsked (T : Tables) (c i : ℕ) : Type 0 where
  pub valid : Valid T
  pub control : c < T.machines.product
  pub within : i < T.transitions.count

pub turn_of : {T : Tables} {c i : ℕ} → Valid T → (c < T.machines.product) × (i < T.transitions.count) → TurnAsked T c i
turn_of v w = record { valid = v; control = w.0; within = w.1 }

-- for the steps from there on, where all transitions may be behind
pub record StepsAsked (T : Tables) (c i : ℕ) : Type 0 where
  pub valid : Valid T
  pub control : c < T.machines.product
  pub within : i ≤ T.transitions.count
