-- What the benchmark's calls answer.
use Rattle.std.specs.Prelude.{cond, ℕ, ◌+◌, ◌%◌, ◌≡◌, List, Result, Ok, Err, get_or, ltb}
use Rattle.tables.specs.Limits.{most_pool}
use Rattle.tables.specs.declared.tables.Tables.{Tables}
use Rattle.theory_files.specs.Checking.{Checks}
use Rattle.verdicts.specs.Said.{said_verdict}
use Rattle.verdicts.specs.declared.verdict.Verdict.{Verdict}
use Rattle.verdicts.specs.declared.verdict.Verdict.TheVariants.{Closed, Fails}
use Rattle.verdicts.specs.declared.verdict.Failing.TheVariants.{Outside, Leaves, Bad}
use Rattle.verdicts.specs.declared.verdict.CheckRefusal.{CheckRefusal}

abbrev pub together : List ℕ → List ℕ → List ℕ → List ℕ → ℕ → ℕ
together rows finals arcs roots i = cond (ltb i most_pool) (get_or rows i 0 + get_or finals i 0 + get_or arcs i 0 + get_or roots i 0) 0

abbrev pub sampled : Tables → ℕ → ℕ
sampled T i = together T.transitions.rows T.pool.finals T.pool.arcs T.map.roots i

abbrev pub told_of : Result Verdict CheckRefusal → ℕ
told_of (Ok (Closed pairs)) = pairs
told_of (Ok (Fails Outside)) = 3000000000
told_of (Ok (Fails (Leaves control transition shown far))) = 2000000000 + shown % 1000000
told_of (Ok (Fails (Bad number shown))) = 2000000000 + shown % 1000000
told_of (Err why) = 3000000000

-- the number told is of the answer that checking gives
pub record Told (file seen queue contents : List ℕ) (r : ℕ) (seen₁ queue₁ contents₁ : List ℕ) : Type 0 where
  pub answer : Result Verdict CheckRefusal
  pub checks : Checks file seen queue contents (said_verdict answer contents₁) seen₁ queue₁ contents₁
  pub number : r ≡ told_of answer
