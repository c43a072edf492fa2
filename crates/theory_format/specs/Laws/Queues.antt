-- The queues that are read are the queues that stand there (field 2), without what waits in them at the start.
use Prim.Native.Nat.{ℕ, ◌+◌, ◌≤◌, ◌<◌}
use Rattle.std.specs.Prelude.{◌≡◌, length}
use Rattle.std.proofs.Math.Path.{refl, sym, ap, ap₂, subst}
use Rattle.std.proofs.Common.{◌∙◌, zero-add, add-one, arith}
use mathlib.Core.List.{List, ◌++◌}
use Rattle.std.proofs.Math.ListN.{get_or, replicate}
use Rattle.std.proofs.Math.Dec.{leb}
use borrow.Author.Tests.{le-leb}
use Rattle.tables.specs.Limits.{most_queues, most_messages}
use Rattle.tables.specs.Queues.{first_message}
use Rattle.tables.specs.Starting.{starting_length}
use Rattle.tables.specs.Valid.{QueuesValid}
use Rattle.tables.specs.Laws.Queues.{first_ascends, first_step}
use Rattle.tables.specs.declared.tables.Queues.{Queues}
use Rattle.numbers.specs.Part.{got}
use Rattle.numbers.specs.Number.{read_within}
use Rattle.numbers.specs.Laws.Parts.{and_then_got, same_value}
use Rattle.numbers.specs.Laws.Ranges.{tested_got}
use Rattle.reading_model.specs.Queues.{read_term, read_counts, counted_queues, starting_with}
use Rattle.reading_model.specs.Laws.Queues.{counts_rounds, counted_valid}
use Rattle.theory_format.specs.Readable.{Bytes}
use Rattle.theory_format.specs.Spelled.{number, entries}
use Rattle.theory_format.specs.Laws.Here.{Here, here_then, here_part}
use Rattle.theory_format.specs.Laws.Fronts.{begun_all, front_none, front_whole}
use Rattle.theory_format.specs.Laws.Numbers.{here_got, within_forth, within_back}
use Rattle.theory_format.specs.Laws.Loops.{entries_forth, entries_back}

module _ (s : List ℕ) (bytes : Bytes s) where
  term_forth : (at sum v next : ℕ) → read_term s at sum ≡ got v next → Here s at (number v) next
  unfolding read_term
  term_forth at sum v next e =
      within_forth s bytes at 1 most_messages
      (tested_got (read_within s at 1 most_messages) (λ w. leb (sum + w) most_messages) 6 at e).0

  counts_forth : (count at : ℕ) {x : ℕ × List ℕ} {next : ℕ} → count ≤ length x.1
      → read_counts s at 0 count 0 (replicate most_queues 0) ≡ got x next → Here s at (entries x.1 count 0) next
  counts_forth count at {x} long e =
      (entries_forth s (counts_rounds s) (λ z. z.1) (λ i v z. refl) count x.1 long (λ i a z. term_forth a z.0) count 0 at
      (0, replicate most_queues 0) (zero-add count) e (begun_all x.1 count)).1

  pub counted_forth : (at : ℕ) {q : Queues} {next : ℕ} → counted_queues s at ≡ got q next
      → Here s at (number q.count ++ entries q.messages q.count 0) next
  unfolding counted_queues
  counted_forth at e =
      let t = and_then_got (read_within s at 1 most_queues) e in
      let a = and_then_got (read_counts s t.place 0 t.value 0 (replicate most_queues 0)) t.then in
      let v = subst QueuesValid (sym (same_value a.then)) (counted_valid s at e) in
      here_got (λ z. number z.count ++ entries z.messages z.count 0) a.then
      (here_then (within_forth s bytes at 1 most_queues t.first)
      (counts_forth t.value t.place (omega (arith, v.most, v.long)) a.first))

module _ (s : List ℕ) where
  -- nothing waits in them
  pub counted_empty : (at : ℕ) {q : Queues} {next : ℕ} → counted_queues s at ≡ got q next → q.lengths ≡ replicate most_queues 0
  unfolding counted_queues
  counted_empty at e =
      let t = and_then_got (read_within s at 1 most_queues) e in
      let a = and_then_got (read_counts s t.place 0 t.value 0 (replicate most_queues 0)) t.then in
      sym (ap (λ z. z.lengths) (same_value a.then))

  term_back : (at sum v : ℕ) {next : ℕ} → 1 ≤ v → v ≤ most_messages → sum + v ≤ most_messages → Here s at (number v) next
      → read_term s at sum ≡ got v next
  unfolding read_term
  term_back at sum v a b c h =
      rw (within_back s at 1 most_messages v a b (omega arith) h, le-leb (sum + v) most_messages c)

  module _ (q : Queues) (valid : QueuesValid q) where
    counts_back : (at : ℕ) {next : ℕ} → Here s at (entries q.messages q.count 0) next
        → read_counts s at 0 q.count 0 (replicate most_queues 0) ≡ got (q.sum, q.messages) next
    unfolding first_message
    counts_back at {next} h =
        let l =
        entries_back s (counts_rounds s) (λ z. z.1) (λ i v z. refl) q.count q.messages (omega (arith, valid.most, valid.long))
        (λ i z. z.0 ≡ first_message q.messages i) step q.count 0 at (0, replicate most_queues 0) (zero-add q.count)
        (front_none q.messages most_queues valid.long) refl h
        in
        l.reads ∙ ap₂ (λ a b. got (a, b) next) (l.holds.1 ∙ sym valid.sum) (front_whole valid.rest l.holds.0)
      where
        step : (i a : ℕ) (z : ℕ × List ℕ) (p : ℕ) → i < q.count → z.0 ≡ first_message q.messages i
            → Here s a (number (get_or q.messages i 0)) p
            → (read_term s a z.0 ≡ got (get_or q.messages i 0) p)
            × (z.0 + get_or q.messages i 0 ≡ first_message q.messages (i + 1))
        step i a z p g e f =
            let v = valid.messages i g in
            let n : z.0 + get_or q.messages i 0 ≡ first_message q.messages (i + 1) =
            ap (λ x. x + get_or q.messages i 0) e ∙ sym (first_step q.messages i) ∙ ap (first_message q.messages) (sym (add-one i)) in
            let most = first_ascends q.messages (i + 1) q.count (omega arith) in
            (term_back a z.0 (get_or q.messages i 0) v.0 v.1 (omega (arith, n, most, valid.sum, valid.sum_most)) f, n)

  pub counted_back : (at : ℕ) (q : Queues) {next : ℕ} → QueuesValid q
      → Here s at (number q.count ++ entries q.messages q.count 0) next
      → counted_queues s at ≡ got (starting_with q (replicate most_queues 0, replicate starting_length 0)) next
  unfolding counted_queues
  counted_back at q valid h =
      let p = here_part (number q.count) h in
      rw (
        within_back s at 1 most_queues q.count valid.least valid.most (omega arith) p.first,
        counts_back q valid p.middle p.second,
      )
