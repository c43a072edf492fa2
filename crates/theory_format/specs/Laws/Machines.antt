-- The machines that are read are the machines that stand there (field 1).
use Prim.Native.Nat.{ℕ, zero, suc, ◌+◌, ◌-◌, ◌*◌, ◌≤◌, ◌<◌}
use Rattle.std.specs.Prelude.{◌≡◌, Bool, true, false, cond, length, get_or}
use Rattle.std.proofs.Math.Path.{refl, sym, ap, ap₂, subst}
use Rattle.std.proofs.Common.{◌∙◌, zero-add, mul-le-mul, add-one}
use mathlib.Core.List.{List, ◌++◌}
use Rattle.std.proofs.Math.ListN.{replicate}
use Rattle.std.proofs.Math.Dec.{leb}
use borrow.Author.Tests.{le-leb, lt-ltb, le-ltb, ltb-true}
use native.Mathlib.Omega.{arith}
use Rattle.tables.specs.Limits.{most_machines, most_states, most_controls}
use Rattle.tables.specs.Valid.{product_of, MachinesValid}
use Rattle.tables.specs.declared.tables.Machines.{Machines}
use Rattle.numbers.specs.Part.{got}
use Rattle.numbers.specs.Number.{read_within}
use Rattle.numbers.specs.Laws.Parts.{and_then_got, same_value}
use Rattle.numbers.specs.Laws.Ranges.{tested_got}
use Rattle.reading_model.specs.Machines.{read_factor, read_sizes, read_starts, counted_machines, most_first, resumes_by, machines_by}
use Rattle.reading_model.specs.Laws.Machines.{sizes_rounds, starts_rounds}
use Rattle.theory_format.specs.Readable.{Bytes}
use Rattle.theory_format.specs.Spelled.{number, entries, first_number}
use Rattle.theory_format.specs.Laws.Here.{Here, here_then}
use Rattle.theory_format.specs.Laws.Fronts.{begun_all, front_none, front_whole}
use Rattle.theory_format.specs.Laws.Numbers.{here_got, within_forth, within_back, below_forth, below_back}
use Rattle.theory_format.specs.Laws.Loops.{entries_forth, entries_back, table_forth, table_back}

-- THE FIRST NUMBER says whether the file resumes, and how many machines there are
pub first_by_lem : (first : ℕ) → first_number (resumes_by first) (machines_by first) ≡ first
first_by_lem first = go (resumes_by first) refl
  where
    go : (b : Bool) → resumes_by first ≡ b → first_number b (cond b (first - most_machines) first) ≡ first
    go true e = let h = ltb-true most_machines first e in omega arith
    go false e = refl

pub record FirstSays (resumes : Bool) (count : ℕ) : Type 0 where
  pub least : 1 ≤ first_number resumes count
  pub most : first_number resumes count ≤ most_first
  pub resumed : resumes_by (first_number resumes count) ≡ resumes
  pub counted : cond resumes (first_number resumes count - most_machines) (first_number resumes count) ≡ count

pub first_says : (resumes : Bool) (count : ℕ) → 1 ≤ count → count ≤ most_machines → FirstSays resumes count
first_says true count l h =
    record { least = omega arith; most = omega arith; resumed = lt-ltb most_machines (count + most_machines) (omega arith); counted = omega arith }
first_says false count l h = record { least = l; most = omega arith; resumed = le-ltb most_machines count h; counted = refl }

product_next : (sizes : List ℕ) (i : ℕ) → product_of sizes (i + 1) ≡ product_of sizes i * get_or sizes i 0
unfolding product_of
product_next sizes i = ap (product_of sizes) (add-one i)

-- the product only grows
product_further : (sizes : List ℕ) (i more : ℕ) → ((k : ℕ) → k < more + i → 1 ≤ get_or sizes k 0)
    → product_of sizes i ≤ product_of sizes (more + i)
product_further sizes i zero least = omega (arith, ap (product_of sizes) (zero-add i))
product_further sizes i (suc more) least =
    let n : suc more + i ≡ more + i + 1 = omega arith in
    let h = product_further sizes i more (λ k l. least k (omega arith)) in
    omega (arith, mul-le-mul h (least (more + i) (omega arith)), ap (product_of sizes) n, product_next sizes (more + i))

module _ (s : List ℕ) (bytes : Bytes s) where
  factor_forth : (at product v next : ℕ) → read_factor s at product ≡ got v next → Here s at (number v) next
  unfolding read_factor
  factor_forth at product v next e =
      within_forth s bytes at 1 most_states
      (tested_got (read_within s at 1 most_states) (λ w. leb (product * w) most_controls) 6 at e).0

  sizes_forth : (count at : ℕ) {x : ℕ × List ℕ} {next : ℕ} → count ≤ length x.1
      → read_sizes s at 1 count 0 (replicate most_machines 0) ≡ got x next → Here s at (entries x.1 count 0) next
  sizes_forth count at {x} long e =
      (entries_forth s (sizes_rounds s) (λ z. z.1) (λ i v z. refl) count x.1 long (λ i a z. factor_forth a z.0) count 0 at
      (1, replicate most_machines 0) (zero-add count) e (begun_all x.1 count)).1

  starts_forth : (sizes : List ℕ) (count at : ℕ) {x : List ℕ} {next : ℕ} → count ≤ length x
      → read_starts s at sizes count 0 (replicate most_machines 0) ≡ got x next → Here s at (entries x count 0) next
  starts_forth sizes count at =
      table_forth s (starts_rounds s sizes) count at (λ i a z v p. below_forth s bytes a (get_or sizes i 0)) (replicate most_machines 0)

  pub counted_forth : (at count : ℕ) {m : Machines} {next : ℕ} → MachinesValid m → counted_machines s at count ≡ got m next
      → (count ≡ m.count) × Here s at (entries m.states m.count 0 ++ entries m.starts m.count 0) next
  unfolding counted_machines
  counted_forth at count {m} {next} valid e =
      let a = and_then_got (read_sizes s at 1 count 0 (replicate most_machines 0)) e in
      let b = and_then_got (read_starts s a.place a.value.1 count 0 (replicate most_machines 0)) a.then in
      made a.value a.first b.first b.then
    where
      made : (sized : ℕ × List ℕ) {starts : List ℕ} {p₁ p₂ : ℕ} → read_sizes s at 1 count 0 (replicate most_machines 0) ≡ got sized p₁
          → read_starts s p₁ sized.1 count 0 (replicate most_machines 0) ≡ got starts p₂
          → got (record { count = count; product = sized.0; states = sized.1; starts = starts }) p₂ ≡ got m next
          → (count ≡ m.count) × Here s at (entries m.states m.count 0 ++ entries m.starts m.count 0) next
      made sized {p₁ = p₁} f g h =
          let v = subst MachinesValid (sym (same_value h)) valid in (
            ap (λ z. z.count) (same_value h),
            here_got (λ z. entries z.states z.count 0 ++ entries z.starts z.count 0) h
                (here_then (sizes_forth count at (omega (arith, v.most, v.states_long)) f)
                (starts_forth sized.1 count p₁ (omega (arith, v.most, v.starts_long)) g)),
          )

module _ (s : List ℕ) where
  factor_back : (at product v : ℕ) {next : ℕ} → 1 ≤ v → v ≤ most_states → product * v ≤ most_controls → Here s at (number v) next
      → read_factor s at product ≡ got v next
  unfolding read_factor
  factor_back at product v a b c h =
      rw (within_back s at 1 most_states v a b (omega arith) h, le-leb (product * v) most_controls c)

  module _ (m : Machines) (valid : MachinesValid m) where
    pub sizes_back : (at : ℕ) {next : ℕ} → Here s at (entries m.states m.count 0) next
        → read_sizes s at 1 m.count 0 (replicate most_machines 0) ≡ got (m.product, m.states) next
    unfolding product_of
    sizes_back at {next} h =
        let l =
        entries_back s (sizes_rounds s) (λ z. z.1) (λ i v z. refl) m.count m.states (omega (arith, valid.most, valid.states_long))
        (λ i z. z.0 ≡ product_of m.states i) step m.count 0 at (1, replicate most_machines 0) (zero-add m.count)
        (front_none m.states most_machines valid.states_long) refl h
        in
        l.reads
        ∙ ap₂ (λ a b. got (a, b) next) (l.holds.1 ∙ sym valid.product) (front_whole valid.states_rest l.holds.0)
      where
        within : (i : ℕ) → i < m.count → product_of m.states (i + 1) ≤ most_controls
        within i g =
            let n : m.count - (i + 1) + (i + 1) ≡ m.count = omega arith in
            omega (
              arith,
              product_further m.states (i + 1) (m.count - (i + 1)) (λ k f. (valid.states k (omega arith)).0),
              ap (product_of m.states) n,
              valid.product,
              valid.product_most,
            )

        step : (i a : ℕ) (z : ℕ × List ℕ) (p : ℕ) → i < m.count → z.0 ≡ product_of m.states i
            → Here s a (number (get_or m.states i 0)) p
            → (read_factor s a z.0 ≡ got (get_or m.states i 0) p)
            × (z.0 * get_or m.states i 0 ≡ product_of m.states (i + 1))
        step i a z p g e f =
            let v = valid.states i g in
            let n : z.0 * get_or m.states i 0 ≡ product_of m.states (i + 1) =
            ap (λ x. x * get_or m.states i 0) e ∙ sym (product_next m.states i) in
            (factor_back a z.0 (get_or m.states i 0) v.0 v.1 (omega (arith, n, within i g)) f, n)

    pub starts_back : (at : ℕ) {next : ℕ} → Here s at (entries m.starts m.count 0) next
        → read_starts s at m.states m.count 0 (replicate most_machines 0) ≡ got m.starts next
    starts_back at =
        table_back s (starts_rounds s m.states) m.count at m.starts most_machines valid.starts_long valid.most
        valid.starts_rest (λ i a z p g.
        below_back s a (get_or m.states i 0) (get_or m.starts i 0) (valid.starts i g) (omega (arith, (valid.states i g).1)))
