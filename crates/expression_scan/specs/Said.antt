-- What checking the limits answers, in the words of the definition.
use Rattle.std.specs.Prelude.{ℕ, Option, Some, None, Result, Ok, Err}
use Rattle.theory_grammar.specs.Offends.{Limit, kept, passed}
use Rattle.expression_scan.specs.declared.limits.Excess.{Excess}
use Rattle.expression_scan.specs.declared.limits.Excess.TheVariants.{Large, Deep, Many}
use Rattle.expression_scan.specs.declared.limits.Offence.{Offence}
use Rattle.numbers.specs.Refusals.{out_of_range, too_deep, too_many_numbers}

-- the number of its refusal
abbrev pub said_excess : Excess → ℕ
said_excess Large = out_of_range
said_excess Deep = too_deep
said_excess Many = too_many_numbers

-- 0 where no limit is passed
abbrev pub said_offence : Option Excess → ℕ
said_offence None = 0
said_offence (Some e) = said_excess e

abbrev pub said_limit : Result Unit Offence → Limit
said_limit (Ok u) = kept
said_limit (Err o) = passed (said_excess o.excess) o.place
