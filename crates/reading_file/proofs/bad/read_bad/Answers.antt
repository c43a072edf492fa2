use mathlib.Core.Path.{sym}
use native.Mathlib.Omega.{arith}
use Rattle.numbers.specs.Laws.Ranges.{within_range}
use Rattle.reading_file.proofs.bad.read_bad.Goals as goal

pub read_entries-requires-clause-count_le_most_bad : goal.read_entries-requires-clause-count_le_most_bad
read_entries-requires-clause-count_le_most_bad c =
    let h = within_range _ _ 0 64 (sym c.in_ok-count.ensures.read) in omega (arith, c.from.ensures, h.1)
