-- The queue of a message, found by passing the queues before it.
use Rattle.std.specs.Prelude.{ℕ, ◌+◌, ◌-◌, ◌≤◌, ◌<◌, ◌≡◌, refl, List, [], ◌∷◌, length, get_or, take, drop}
use Rattle.std.proofs.Common.{sym, ap, ◌∙◌, length-take, drop-cons, get_or-take, lt-ltb, le-ltb, arith, add-one}
use Rattle.tables.specs.Valid.{QueuesValid}
use Rattle.tables.specs.declared.tables.Queues.{Queues}
use Rattle.theory_model.specs.Model.{queue_of}

module _ (ns : List ℕ) (i m : ℕ) (h : i < length ns) where
  pub queue_here : m < get_or ns i 0 → i + queue_of (drop i ns) m ≡ i
  queue_here l = rw (drop-cons ns i 0 h, lt-ltb m (get_or ns i 0) l, queue_of) (omega arith)

  pub queue_later : get_or ns i 0 ≤ m → i + queue_of (drop i ns) m ≡ i + 1 + queue_of (drop (i + 1) ns) (m - get_or ns i 0)
  queue_later l = rw (drop-cons ns i 0 h, le-ltb m (get_or ns i 0) l, add-one, queue_of) (omega arith)

pub drop_all : (ns : List ℕ) → drop (length ns) ns ≡ []
drop_all [] = refl
drop_all (n ∷ ns) = drop_all ns

-- the queues of a file
module _ {q : Queues} (v : QueuesValid q) where
  pub queues_long : length (take q.count q.messages) ≡ q.count
  queues_long = simp length-take (omega (arith, v.most, v.long))

  pub queue_found : (i m : ℕ) {own : ℕ} → i < q.count → own ≡ get_or q.messages i 0 → m < own
      → i + queue_of (drop i (take q.count q.messages)) m ≡ i
  queue_found i m h e l =
      queue_here (take q.count q.messages) i m (omega (arith, queues_long))
      (omega (arith, get_or-take q.count q.messages i 0 h))

  pub queue_passed : (i m : ℕ) {own : ℕ} → i < q.count → own ≡ get_or q.messages i 0 → own ≤ m
      → i + queue_of (drop i (take q.count q.messages)) m
      ≡ i + 1 + queue_of (drop (i + 1) (take q.count q.messages)) (m - own)
  queue_passed i m h e l =
      let g = get_or-take q.count q.messages i 0 h in
      queue_later (take q.count q.messages) i m (omega (arith, queues_long)) (omega arith)
      ∙ ap (λ x. i + 1 + queue_of (drop (i + 1) (take q.count q.messages)) (m - x)) (g ∙ sym e)

  pub queues_passed : (i m : ℕ) → i ≡ q.count → i + queue_of (drop i (take q.count q.messages)) m ≡ i
  queues_passed i m e =
      let ns = take q.count q.messages in
      let d : drop i ns ≡ [] = ap (λ x. drop x ns) (e ∙ sym queues_long) ∙ drop_all ns in
      ap (λ l. i + queue_of l m) d ∙ omega arith
