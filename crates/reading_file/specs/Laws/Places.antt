-- The sets are fair: places only grow and stay within the file, and each refuses by 3 to 8.
use Rattle.std.specs.Prelude.{ℕ, ◌*◌, ◌≤◌, List, length, replicate}
use native.Mathlib.Omega.{arith}
use Rattle.tables.specs.Limits.{most_controls, most_bad}
use Rattle.numbers.specs.Part.{got}
use Rattle.numbers.specs.Number.{read_within}
use Rattle.reading_file.specs.Map.{read_roots, read_map}
use Rattle.reading_file.specs.Bad.{read_entries, read_bad}
use Rattle.reading_file.specs.Sets.{read_sets}
use Rattle.reading_file.specs.Laws.Map.{roots_rounds}
use Rattle.reading_file.specs.Laws.Bad.{entries_rounds}
use Rattle.numbers.specs.Laws.Places.{Fair, fair_then, rounds_fair, within_fair, two_fair}

module _ (s : List ℕ) where
  pub map_fair : (product n at : ℕ) → at ≤ length s → Fair s 8 at (read_map s at product n)
  unfolding read_map
  map_fair product n at h =
      fair_then s 8 at (read_roots s at n product 0 (replicate most_controls 0)) (λ roots next. got (record { roots = roots }) next)
      (rounds_fair s 8 (roots_rounds s n) (λ i at' x h'. within_fair s at' 0 n h') product 0 at (replicate most_controls 0) h)
      (λ roots next h₁. (omega arith, h₁))

  pub bad_fair : (product n at : ℕ) → at ≤ length s → Fair s 8 at (read_bad s at product n)
  unfolding read_bad
  bad_fair product n at h =
      fair_then s 8 at (read_within s at 0 most_bad) _ (within_fair s at 0 most_bad h) (λ count p₁ h₁.
      fair_then s 8 p₁ (read_entries s p₁ product n count 0 (replicate (most_bad * 2) 0))
      (λ rows p₂. got (record { count = count; rows = rows }) p₂)
      (rounds_fair s 8 (entries_rounds s product n) (λ b at' x h'. two_fair s at' product n h') count 0 p₁ (replicate (most_bad * 2) 0) h₁)
      (λ rows p₂ h₂. (omega arith, h₂)))

  pub sets_fair : (product n at : ℕ) → at ≤ length s → Fair s 8 at (read_sets s at product n)
  unfolding read_sets
  sets_fair product n at h =
      fair_then s 8 at (read_map s at product n) _ (map_fair product n at h) (λ R p₁ h₁.
      fair_then s 8 p₁ (read_bad s p₁ product n) (λ B p₂. got (record { map = R; bad = B }) p₂) (bad_fair product n p₁ h₁)
      (λ B p₂ h₂. (omega arith, h₂)))
