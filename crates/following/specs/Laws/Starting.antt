-- The loop over the queues at the start: what waits in those that are left.
use Rattle.std.specs.Prelude.{ℕ, zero, suc, ◌+◌, ◌-◌, ◌*◌, ◌≤◌, ◌<◌, ◌≡◌, List, [], ◌++◌, length, get_or}
use Rattle.std.proofs.Common.{ap, ◌∙◌, arith, add-zero, sub-eq-zero_of_le}
use Rattle.std.proofs.Math.Nat.{sub-zero}
use Rattle.numbers.specs.Laws.Parts.{one_more_lem}
use Rattle.tables.specs.Limits.{most_messages, most_starting}
use Rattle.tables.specs.Starting.{each, starting_at, starting_of}
use Rattle.tables.specs.Valid.{QueuesValid}
use Rattle.tables.specs.declared.tables.Queues.{Queues}
use Rattle.theory_model.specs.Model.{Between, nothing}
use Rattle.theory_model.specs.Diagram.{word}
use Rattle.theory_model.specs.Laws.Queues.{between_append}
use Rattle.following.specs.Standing.{standing, word_over, RingAt}
use Rattle.following.specs.Laws.Words.{all_small}
use Rattle.following.specs.Laws.Standing.{on_the_way}

each_small : (f : ℕ → List ℕ) (left i : ℕ) → ((j : ℕ) → i ≤ j → j < i + left → Between 0 most_messages (f j)) → Between 0 most_messages (word (each f left i))
each_small f zero i h = nothing
each_small f (suc left) i h =
    between_append (h i (omega arith) (omega arith)) (each_small f left (i + 1) (λ j a b. h j (omega arith) (omega arith)))

module _ {q : Queues} (Q : QueuesValid q) where
  -- the messages of queue i in the table
  room_within : (i : ℕ) → i < q.count → i * most_starting + most_starting ≤ length q.contents
  room_within i h = omega (arith, Q.most, Q.starting.contents_long)

  pub starting_standing : (i : ℕ) → i < q.count
      → standing most_starting q.contents (i * most_starting) 0 (get_or q.lengths i 0) ≡ starting_at q.lengths q.contents i
  starting_standing i h =
      let w = Q.starting.words i h in
      on_the_way most_starting q.contents (i * most_starting) 0 (get_or q.lengths i 0) (omega (arith, w.most)) (room_within i h)
      ∙ ap (λ j. word_over q.contents j (get_or q.lengths i 0)) (add-zero (i * most_starting))

  pub starting_ring : (i : ℕ) → i < q.count → RingAt q.contents (i * most_starting) most_starting 0
  starting_ring i h = record { within = room_within i h; placed = omega arith }

  content_small : (i : ℕ) → i < q.count → Between 0 most_messages (starting_at q.lengths q.contents i)
  content_small i h =
      let w = Q.starting.words i h in
      all_small q.contents (i * most_starting) (get_or q.lengths i 0) (omega (arith, w.most, room_within i h))
      (λ j l. omega (arith, w.below j l, Q.sum_most))

  pub starting_small : Between 0 most_messages (word (starting_of q))
  starting_small = each_small (starting_at q.lengths q.contents) q.count 0 (λ j a b. content_small j (omega arith))

module _ (lengths contents : List ℕ) (count : ℕ) where
  -- what waits in the queues from number i on
  abbrev pub starting_from : ℕ → List ℕ
  starting_from i = word (each (starting_at lengths contents) (count - i) i)

  pub starting_begin : word (each (starting_at lengths contents) count 0) ≡ starting_from 0
  starting_begin = rw sub-zero

  pub starting_next : {i : ℕ} → i < count → starting_from i ≡ starting_at lengths contents i ++ starting_from (i + 1)
  starting_next {i} h = ap (λ k. word (each (starting_at lengths contents) k i)) (one_more_lem h)

  pub starting_end : {i : ℕ} → count ≤ i → starting_from i ≡ []
  starting_end h = rw (sub-eq-zero_of_le h)
