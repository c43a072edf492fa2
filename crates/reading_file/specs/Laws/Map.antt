-- What holds of the map that was read (field 5).
use Rattle.std.specs.Prelude.{ℕ, ◌≤◌, ◌≡◌, Bool, length, set, replicate}
use Rattle.std.proofs.Math.Path.{refl, subst}
use Rattle.std.proofs.Common.{◌∙◌, ltb-true, ltb-false, arith, zero-add}
use Rattle.std.proofs.Math.Bool.{true, false}
use mathlib.Core.List.{List}
use Rattle.std.proofs.Math.ListN.{get_or, length-replicate}
use Rattle.std.proofs.Math.Dec.{ltb}
use Rattle.tables.specs.Limits.{most_controls}
use Rattle.numbers.specs.Part.{got}
use Rattle.numbers.specs.Laws.Parts.{and_then_got, same_value}
use Rattle.numbers.specs.Number.{read_within}
use Rattle.reading_file.specs.Map.{read_roots, read_map}
use Rattle.numbers.specs.Laws.Ranges.{within_range}
use Rattle.numbers.specs.Laws.Written.{Entries, entries_none, entries_more, zeros_hold}
use Rattle.numbers.specs.Laws.Rounds.{Rounds, rounds_keep}
use Rattle.tables.specs.Valid.{MapValid}
use Rattle.tables.specs.declared.tables.Map.{Map}

module _ (s : List ℕ) (n : ℕ) where
  pub roots_rounds : Rounds (λ left i at x. read_roots s at n left i x) (λ i at x. read_within s at 0 n) (λ i v x. set x i v)
  unfolding read_roots
  roots_rounds = record { stop = λ i at x. refl; round = λ left i at x. refl }

  roots_read : (before : List ℕ) (product at : ℕ) {x : List ℕ} {next : ℕ} → product ≤ length before
      → read_roots s at n product 0 before ≡ got x next → Entries (λ k w. w ≤ n) 0 product before x
  roots_read before product at h e =
      rounds_keep roots_rounds (λ i. Entries (λ k w. w ≤ n) 0 i before) product
      (λ i at' x v next l f z. entries_more (λ k w. w ≤ n) (omega arith) (omega arith) z (within_range s at' 0 n f).1) product 0 at
      before (zero-add product) e (entries_none (λ k w. w ≤ n) 0 before)

  pub map_valid : (product at : ℕ) {R : Map} {next : ℕ} → product ≤ most_controls → read_map s at product n ≡ got R next → MapValid product n R
  unfolding read_map
  map_valid product at h e =
      let t = and_then_got (read_roots s at n product 0 (replicate most_controls 0)) e in
      let z =
      roots_read (replicate most_controls 0) product at (omega (arith, length-replicate {A = ℕ} most_controls 0)) t.first
      in
      subst (MapValid product n) (same_value t.then)
      (record {
        long = z.changed.long ∙ length-replicate {A = ℕ} most_controls 0;
        roots = λ c. every z c (ltb c product) refl;
        rest = λ c g. z.changed.over c g ∙ zeros_hold most_controls c;
      })
    where
      every : {x : List ℕ} → Entries (λ k w. w ≤ n) 0 product (replicate most_controls 0) x → (c : ℕ) (b : Bool) → ltb c product ≡ b
          → get_or x c 0 ≤ n
      every z c true f = z.each c (omega arith) (ltb-true c product f)
      every z c false f = omega (arith, z.changed.over c (ltb-false c product f), zeros_hold most_controls c)
