-- What holds of the machines that were read (field 1).
use Rattle.std.specs.Prelude.{ℕ, zero, suc, ◌+◌, ◌-◌, ◌*◌, ◌≤◌, ◌<◌, Bool, true, false, cond, ◌≡◌, List, length, get_or, set}
use Rattle.std.proofs.Math.Path.{refl, subst}
use Rattle.std.proofs.Common.{sym, ap, ap₂, ◌∙◌, get_or-set_same, get_or-set_other, ltb-true, ltb-false, arith, mul-le-mul, zero-add, add-one}
use Rattle.std.proofs.Math.ListN.{replicate}
use Rattle.tables.specs.Limits.{most_machines, most_states, most_controls}
use Rattle.numbers.specs.Part.{got}
use Rattle.numbers.specs.Laws.Parts.{and_then_got, same_value}
use Rattle.numbers.specs.Number.{read_within, read_below}
use Rattle.reading_model.specs.Machines.{read_factor, read_sizes, read_starts, counted_machines, most_first, resumes_by, machines_by, read_machines}
use Rattle.numbers.specs.Laws.Ranges.{below_range, within_range}
use Rattle.tables.specs.Valid.{product_of, MachinesValid}
use Rattle.reading_model.specs.Laws.Ranges.{factor_range, factor_within}
use Rattle.numbers.specs.Laws.Written.{Entries, entries_none, entries_more, zeros_hold}
use Rattle.numbers.specs.Laws.Rounds.{Rounds, rounds_keep}
use Rattle.tables.specs.declared.tables.Machines.{Machines}

pub product_same : (t u : List ℕ) (i : ℕ) → ((k : ℕ) → k < i → get_or u k 0 ≡ get_or t k 0) → product_of u i ≡ product_of t i
unfolding product_of
product_same t u zero h = refl
product_same t u (suc i) h = ap₂ (λ x y. x * y) (product_same t u i (λ k l. h k (omega arith))) (h i (omega arith))

pub product_set : (t : List ℕ) (i v : ℕ) → i < length t → product_of (set t i v) (i + 1) ≡ product_of t i * v
unfolding product_of
product_set t i v h =
    ap (product_of (set t i v)) (add-one i)
    ∙ ap₂ (λ x y. x * y) (product_same t (set t i v) i (λ k l. get_or-set_other t i k v 0 (omega arith))) (get_or-set_same t i v 0 h)

-- of the machines before number i: their states, over the table as it was, and their product
record Sized (before : List ℕ) (i : ℕ) (x : ℕ × List ℕ) : Type 0 where
  entries : Entries (λ k v. (1 ≤ v) × (v ≤ most_states)) 0 i before x.1
  product : x.0 ≡ product_of x.1 i
  least : 1 ≤ x.0
  most : x.0 ≤ most_controls

module _ (s : List ℕ) where
  pub sizes_rounds : Rounds (λ left i at x. read_sizes s at x.0 left i x.1) (λ i at x. read_factor s at x.0)
      (λ i v x. (x.0 * v, set x.1 i v))
  unfolding read_sizes
  sizes_rounds = record { stop = λ i at x. refl; round = λ left i at x. refl }

  pub starts_rounds : (sizes : List ℕ) → Rounds (λ left i at x. read_starts s at sizes left i x) (λ i at x. read_below s at (get_or sizes i 0))
      (λ i v x. set x i v)
  unfolding read_starts
  starts_rounds sizes = record { stop = λ i at x. refl; round = λ left i at x. refl }

  sizes_step : (before : List ℕ) (i at : ℕ) (x : ℕ × List ℕ) (v next : ℕ) → i < length before → read_factor s at x.0 ≡ got v next
      → Sized before i x → Sized before (i + 1) (x.0 * v, set x.1 i v)
  sizes_step before i at x v next h e z =
      let r = factor_within s at x.0 e in
      record {
        entries = entries_more (λ k w. (1 ≤ w) × (w ≤ most_states)) (omega arith) h z.entries r;
        product = ap (λ y. y * v) z.product ∙ sym (product_set x.1 i v (omega (arith, z.entries.changed.long)));
        least = omega (arith, mul-le-mul z.least r.0);
        most = factor_range s at x.0 e;
      }

  sizes_read : (count at : ℕ) {x : ℕ × List ℕ} {next : ℕ} → count ≤ most_machines
      → read_sizes s at 1 count 0 (replicate most_machines 0) ≡ got x next → Sized (replicate most_machines 0) count x
  unfolding product_of
  sizes_read count at h e =
      rounds_keep sizes_rounds (Sized (replicate most_machines 0)) count
      (λ i at' x v next l. sizes_step (replicate most_machines 0) i at' x v next (omega arith)) count 0 at (1, replicate most_machines 0)
      (zero-add count) e
      (record {
        entries = entries_none (λ k w. (1 ≤ w) × (w ≤ most_states)) 0 (replicate most_machines 0);
        product = refl;
        least = omega arith;
        most = omega arith;
      })

  starts_read : (sizes : List ℕ) (count at : ℕ) {x : List ℕ} {next : ℕ} → count ≤ most_machines
      → read_starts s at sizes count 0 (replicate most_machines 0) ≡ got x next
      → Entries (λ k w. w < get_or sizes k 0) 0 count (replicate most_machines 0) x
  starts_read sizes count at h e =
      rounds_keep (starts_rounds sizes) (λ i. Entries (λ k w. w < get_or sizes k 0) 0 i (replicate most_machines 0)) count
      (λ i at' x v next l f z. entries_more (λ k w. w < get_or sizes k 0) (omega arith) (omega arith) z (below_range s at' (get_or sizes i 0) f))
      count 0 at (replicate most_machines 0) (zero-add count) e
      (entries_none (λ k w. w < get_or sizes k 0) 0 (replicate most_machines 0))

  counted_valid : (at count : ℕ) {m : Machines} {next : ℕ} → 1 ≤ count → count ≤ most_machines
      → counted_machines s at count ≡ got m next → MachinesValid m
  unfolding counted_machines
  counted_valid at count l h e =
      let a = and_then_got (read_sizes s at 1 count 0 (replicate most_machines 0)) e in
      let b = and_then_got (read_starts s a.place a.value.1 count 0 (replicate most_machines 0)) a.then in
      let z = sizes_read count at h a.first in
      let y = starts_read a.value.1 count a.place h b.first in
      subst MachinesValid (same_value b.then)
      (record {
        least = l;
        most = h;
        states_long = z.entries.changed.long;
        starts_long = y.changed.long;
        states = λ i g. z.entries.each i (omega arith) g;
        starts = λ i g. y.each i (omega arith) g;
        states_rest = λ i g. z.entries.changed.over i g ∙ zeros_hold most_machines i;
        starts_rest = λ i g. y.changed.over i g ∙ zeros_hold most_machines i;
        product = z.product;
        product_least = z.least;
        product_most = z.most;
      })

  -- the number of machines, by the first number of a file
  machines_by_lem : (first : ℕ) → 1 ≤ first → first ≤ most_first → (1 ≤ machines_by first) × (machines_by first ≤ most_machines)
  machines_by_lem first l h = by_test (resumes_by first) refl
    where
      by_test : (b : Bool) → resumes_by first ≡ b → (1 ≤ cond b (first - most_machines) first) × (cond b (first - most_machines) first ≤ most_machines)
      by_test true e = omega (arith, ltb-true most_machines first e)
      by_test false e = omega (arith, ltb-false most_machines first e)

  pub machines_valid : (at : ℕ) {x : Bool × Machines} {next : ℕ} → read_machines s at ≡ got x next → MachinesValid x.1
  unfolding read_machines
  machines_valid at e =
      let t = and_then_got (read_within s at 1 most_first) e in
      let r = within_range s at 1 most_first t.first in
      let c = and_then_got (counted_machines s t.place (machines_by t.value)) t.then in
      let n = machines_by_lem t.value r.0 r.1 in
      subst (λ y. MachinesValid y.1) (same_value c.then) (counted_valid t.place (machines_by t.value) n.0 n.1 c.first)
