-- Tables that are put one after the other.
use Rattle.std.specs.Prelude.{ℕ, ◌+◌, ◌≤◌, ◌≡◌, List, ◌++◌, length, drop}
use Rattle.std.proofs.Common.{ap, ◌∙◌, length-append, arith}
use Rattle.numbers.specs.Put.{Put, four_long}
use Rattle.numbers.specs.Laws.Put.{put_then, put_front}
use Rattle.tables.specs.declared.tables.Tables.{Tables}
use Rattle.reading_file.specs.Valid.{Valid}
use Rattle.c_tables.specs.Flat.{counts_of, small, starting, large, flat, small_long, starting_long, large_long, tables_least}

module _ (T : Tables) (v : Valid T) where
  pub put_small : {s₀ s₁ : List ℕ} {at p : ℕ}
      → Put s₀ at (four_long (counts_of T) T.machines.states T.machines.starts T.queues.messages) (small T) s₁ p → Put s₀ at small_long (small T) s₁ p
  put_small w =
      record {
        buffer = w.buffer;
        next = w.next;
        within = omega (arith, w.within, v.machines.states_long, v.machines.starts_long, v.queues.long);
      }

  pub put_large : {s₀ s₁ : List ℕ} {at p : ℕ}
      → Put s₀ at (four_long T.transitions.rows T.pool.finals T.pool.arcs T.map.roots) (large T) s₁ p → Put s₀ at large_long (large T) s₁ p
  put_large w =
      record {
        buffer = w.buffer;
        next = w.next;
        within = omega (arith, w.within, v.transitions.long, v.pool.finals_long, v.pool.arcs_long, v.map.long);
      }

  pub put_starting : {s₀ s₁ s₂ : List ℕ} {at p q : ℕ} → Put s₀ at (length T.queues.lengths) T.queues.lengths s₁ p
      → Put s₁ p (length T.queues.contents) T.queues.contents s₂ q → Put s₀ at starting_long (starting T) s₂ q
  put_starting a b = put_then a b (omega (arith, v.queues.starting.lengths_long, v.queues.starting.contents_long))

  pub put_flat : {s₀ s₁ s₂ s₃ s₄ : List ℕ} {o p q r : ℕ} → Put s₀ 0 small_long (small T) s₁ o → Put s₁ o starting_long (starting T) s₂ p
      → Put s₂ p large_long (large T) s₃ q → Put s₃ q (length T.bad.rows) T.bad.rows s₄ r → Put s₀ 0 tables_least (flat T) s₄ r
  put_flat a b c d =
      put_then {m = small_long + starting_long + large_long} {k = length T.bad.rows}
      (put_then {m = small_long + starting_long} {k = large_long} (put_then {m = small_long} {k = starting_long} a b (omega arith)) c (omega arith)) d
      (omega (arith, v.bad.long))

  pub small_long_lem : length (small T) ≡ small_long
  small_long_lem =
      omega (arith, length-append ((counts_of T ++ T.machines.states) ++ T.machines.starts) T.queues.messages, length-append (counts_of T ++ T.machines.states) T.machines.starts, length-append (counts_of T) T.machines.states, v.machines.states_long, v.machines.starts_long, v.queues.long)

  starting_long_lem : length (starting T) ≡ starting_long
  starting_long_lem =
      omega (
        arith,
        length-append T.queues.lengths T.queues.contents,
        v.queues.starting.lengths_long,
        v.queues.starting.contents_long,
      )

  pub large_long_lem : length (large T) ≡ large_long
  large_long_lem =
      omega (arith, length-append ((T.transitions.rows ++ T.pool.finals) ++ T.pool.arcs) T.map.roots, length-append (T.transitions.rows ++ T.pool.finals) T.pool.arcs, length-append T.transitions.rows T.pool.finals, v.transitions.long, v.pool.finals_long, v.pool.arcs_long, v.map.long)

  pub flat_long : length (flat T) ≡ tables_least
  flat_long =
      omega (
        arith,
        length-append ((small T ++ starting T) ++ large T) T.bad.rows,
        length-append (small T ++ starting T) (large T),
        length-append (small T) (starting T),
        small_long_lem,
        starting_long_lem,
        large_long_lem,
        v.bad.long,
      )

  pub flat_front : {space exit : List ℕ} {r : ℕ} → tables_least ≤ length space → Put space 0 tables_least (flat T) exit r
      → exit ≡ flat T ++ drop tables_least space
  flat_front {space} h w = put_front w (omega (arith, flat_long)) ∙ ap (λ (k : ℕ). flat T ++ drop k space) flat_long
