-- Where a letter leads, as the code answers it.
use Rattle.std.specs.Prelude.{◌≡◌, ℕ, ◌<◌}
use Rattle.std.specs.Prelude as Code
use Rattle.std.proofs.Math.Option.{Option, none, some}
use Rattle.theory_model.specs.Verdict.{Pair}
use Rattle.checking_pairs.specs.Pairs.{most_codes, decode}

-- the pair of a number that the code answers, or nowhere
abbrev pub said_next : Code.Option ℕ → Option Pair
said_next (Code.Some c) = some (decode c)
said_next Code.None = none

abbrev pub Small : Code.Option ℕ → Type 0
Small (Code.Some c) = c < most_codes
Small Code.None = Unit {0}

pub record LeadsTo (r : Code.Option ℕ) (o : Option Pair) : Type 0 where
  pub is : said_next r ≡ o
  pub small : Small r
