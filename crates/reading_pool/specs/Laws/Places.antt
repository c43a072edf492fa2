-- The pool is fair: places only grow and stay within the file, and it refuses by 3 to 8.
use Prim.Native.Nat.{ℕ, zero, suc, ◌+◌, ◌*◌, ◌≤◌}
use Rattle.std.specs.Prelude.{List, length, set}
use Rattle.std.proofs.Math.ListN.{replicate}
use Rattle.std.proofs.Math.Dec.{leb}
use native.Mathlib.Omega.{arith}
use Rattle.tables.specs.Limits.{most_messages, most_pool}
use Rattle.numbers.specs.Part.{got}
use Rattle.numbers.specs.Number.{read_within, read_below}
use Rattle.reading_pool.specs.Pool.{read_ascending, read_arc, read_arcs, read_state, read_states, read_pool}
use Rattle.numbers.specs.Laws.Ranges.{below_number}
use Rattle.reading_pool.specs.Laws.Pool.{states_rounds}
use Rattle.numbers.specs.Laws.Places.{Fair, fair_then, rounds_fair, tested_fair, within_fair, below_fair}

module _ (s : List ℕ) where
  pub ascending_fair : (at sum least : ℕ) → at ≤ length s → Fair s 8 at (read_ascending s at sum least)
  unfolding read_ascending
  ascending_fair at sum least h =
      tested_fair s at (read_below s at sum) (λ m. leb least m) 8 (omega arith) (omega arith) h (λ v next e. below_number s at sum e)
      (below_fair s at sum h)

  pub arc_fair : (at n sum least : ℕ) → at ≤ length s → Fair s 8 at (read_arc s at n sum least)
  unfolding read_arc
  arc_fair at n sum least h =
      fair_then s 8 at (read_ascending s at sum least) _ (ascending_fair at sum least h) (λ m p h₁.
      fair_then s 8 p (read_below s p n) (λ t next. got (m, t) next) (below_fair s p n h₁) (λ t next h₂. (omega arith, h₂)))

  pub arcs_fair : (n sum row left at least : ℕ) (arcs : List ℕ) → at ≤ length s → Fair s 8 at (read_arcs s at n sum least row left arcs)
  unfolding read_arcs
  arcs_fair n sum row zero at least arcs h = (omega arith, h)
  arcs_fair n sum row (suc left) at least arcs h =
      fair_then s 8 at (read_arc s at n sum least) _ (arc_fair at n sum least h) (λ arc next h₁.
      arcs_fair n sum row left next (arc.0 + 1) (set arcs (row + arc.0) (arc.1 + 1)) h₁)

  pub state_fair : (n sum row at : ℕ) (arcs : List ℕ) → at ≤ length s → Fair s 8 at (read_state s at n sum row arcs)
  unfolding read_state
  state_fair n sum row at arcs h =
      fair_then s 8 at (read_below s at 2) _ (below_fair s at 2 h) (λ final p₁ h₁.
      fair_then s 8 p₁ (read_within s p₁ 0 sum) _ (within_fair s p₁ 0 sum h₁) (λ count p₂ h₂.
      fair_then s 8 p₂ (read_arcs s p₂ n sum 0 row count arcs) (λ arcs' p₃. got (final, arcs') p₃)
      (arcs_fair n sum row count p₂ 0 arcs h₂) (λ arcs' p₃ h₃. (omega arith, h₃))))

  pub pool_fair : (sum at : ℕ) → at ≤ length s → Fair s 8 at (read_pool s at sum)
  unfolding read_pool
  pool_fair sum at h =
      fair_then s 8 at (read_within s at 1 most_pool) _ (within_fair s at 1 most_pool h) (λ n p₁ h₁.
      fair_then s 8 p₁ (read_states s p₁ n sum n 0 (replicate most_pool 0) (replicate (most_pool * most_messages) 0))
      (λ states p₂. got (record { count = n; finals = states.0; arcs = states.1 }) p₂)
      (rounds_fair s 8 (states_rounds s n sum) (λ i at' x h'. state_fair n sum (i * most_messages) at' x.1 h') n 0 p₁
      (replicate most_pool 0, replicate (most_pool * most_messages) 0) h₁)
      (λ states p₂ h₂. (omega arith, h₂)))
