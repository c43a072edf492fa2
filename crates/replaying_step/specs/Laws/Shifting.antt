-- What a row does to its queue, by what the code finds.
use Rattle.std.specs.Prelude.{ℕ, zero, suc, ◌+◌, ◌-◌, ◌*◌, ◌%◌, ◌≤◌, ◌<◌, ◌≡◌, refl, true, false, List, [], ◌++◌, length, get_or, set, take, drop, Ok, Err}
use Rattle.std.proofs.Common.{sym, ap, subst, ◌∙◌, arith, mul-le-mul, le_refl, length-append, length-set, length-drop, length-take-le}
use Rattle.std.proofs.Math.Option.{some, map}
use Rattle.std.proofs.lemmas.List.{set-get_or}
use Rattle.tables.specs.Limits.{most_queues}
use Rattle.tables.specs.Rows.{word_entry, queue_at, length_at, word_at}
use Rattle.tables.specs.Valid.{QueuesValid}
use Rattle.tables.specs.declared.tables.Queues.{Queues}
use Rattle.theory_model.specs.Model.{local, send, receive, strip}
use Rattle.theory_files.specs.Tables.{action_of}
use Rattle.theory_replay.specs.Rules.{room}
use Rattle.replaying_queues.specs.Ring.{ring_at, rings, put_round, began}
use Rattle.replaying_queues.specs.Lent.{Rings}
use Rattle.replaying_queues.specs.Laws.Waiting.{waiting_length, put_past, put_length}
use Rattle.replaying_queues.specs.Laws.Rings.{rings_length, rings_at, rings_put, rings_taken, taken_length, fits_full}
use Rattle.replaying_queues.specs.Laws.Words.{began_some, began_none}
use Rattle.replaying_step.specs.Configurations.{InRings}
use Rattle.replaying_step.specs.Taking.{Shiftable, Shifts}
use Rattle.replaying_step.specs.Laws.Lists.{each_of_set}
use Rattle.replaying_step.specs.declared.taking.Untaken.TheVariants.{NotPossible, NoRoom}

-- rings in which queue k has other messages
rings_set : (q : Queues) (hs ls : List ℕ) (k h n : ℕ) → InRings q hs ls → k < most_queues → k < q.count → h < room → n ≤ room
    → InRings q (set hs k h) (set ls k n)
rings_set q hs ls k h n R l c a b =
    record {
      heads_long = length-set hs k h ∙ R.heads_long;
      lengths_long = length-set ls k n ∙ R.lengths_long;
      placed = each_of_set (λ i x. x < room) hs k h (omega (arith, R.heads_long)) a (λ i _. R.placed i);
      held = each_of_set (λ i x. x ≤ room) ls k n (omega (arith, R.lengths_long)) b (λ i _. R.held i);
      rest =
          each_of_set (λ i x. q.count ≤ i → x ≡ 0) ls k n (omega (arith, R.lengths_long)) (λ g. absurd (omega arith))
          (λ i _. R.rest i);
    }

-- rings as they are lent
pub ringed_rings : {q : Queues} {hs ls mem : List ℕ} → QueuesValid q → InRings q hs ls → q.count * room ≤ length mem → Rings mem hs ls q.count
ringed_rings Q R enough = record { most = Q.most; within = enough; placed = R.placed; held = R.held }

-- QUEUE k AND A WORD of length n
module _ {q : Queues} (hs ls mem : List ℕ) (k n : ℕ) (w : List ℕ) (Q : QueuesValid q) (R : InRings q hs ls)
    (enough : q.count * room ≤ length mem) (h : k < q.count) (long : length w ≡ n) where
  abbrev queues : List (List ℕ)
  queues = rings mem hs ls q.count

  waits : get_or (rings mem hs ls q.count) k [] ≡ ring_at mem hs ls k
  waits = rings_at mem hs ls q.count k h

  below_end : k * room + room ≤ q.count * room
  below_end =
      let g : (k + 1) * room ≤ q.count * room = mul-le-mul (let z : k + 1 ≤ q.count = omega arith in z) (le_refl room) in
      omega (arith, g)

  few : k < most_queues
  few = omega (arith, Q.most)

  -- a send that would pass the room
  sent_full : room < get_or ls k 0 + n → Shifts q (send k w) hs ls mem (Err NoRoom) hs ls mem
  sent_full l = (
    (set queues k (get_or queues k [] ++ w), refl, fits_full queues k (get_or queues k [] ++ w) inside (subst (λ x. room < x) (sym size) l)),
    record { heads = refl; lengths = refl; memory = refl },
  )
    where
      inside : k < length queues
      inside = omega (arith, rings_length mem hs ls q.count)

      size : length (get_or queues k [] ++ w) ≡ get_or ls k 0 + n
      size =
          length-append (get_or queues k []) w
          ∙ ap (λ l. length l + length w) waits
          ∙ ap (λ x. x + length w) (waiting_length mem (k * room) (get_or hs k 0) (get_or ls k 0))
          ∙ ap (λ x. get_or ls k 0 + x) long

  -- a send with room
  sent : get_or ls k 0 + n ≤ room
      → Shifts q (send k w) hs ls mem (Ok tt) hs (set ls k (get_or ls k 0 + n))
      (put_round mem (k * room) (get_or hs k 0 + get_or ls k 0) w)
  sent l =
      record {
        acted = ap some (sym put);
        ringed =
            subst (λ hs. InRings q hs (set ls k (get_or ls k 0 + n))) (set-get_or hs k 0)
            (rings_set q hs ls k (get_or hs k 0) (get_or ls k 0 + n) R few h (R.placed k) l);
        past = put_past mem (k * room) (get_or hs k 0 + get_or ls k 0) w (q.count * room) below_end;
        long = put_length mem (k * room) (get_or hs k 0 + get_or ls k 0) w;
      }
    where
      put : rings (put_round mem (k * room) (get_or hs k 0 + get_or ls k 0) w) hs (set ls k (get_or ls k 0 + n)) q.count
          ≡ set queues k (get_or queues k [] ++ w)
      put =
          ap (λ x. rings (put_round mem (k * room) (get_or hs k 0 + get_or ls k 0) w) hs (set ls k (get_or ls k 0 + x)) q.count) (sym long)
          ∙ rings_put mem hs ls q.count k w h (omega (arith, few, R.lengths_long)) (omega arith) enough

  -- a receive whose queue does not begin with the word, and one whose queue does
  unreceived : false ≡ began (strip w (ring_at mem hs ls k)) → Shifts q (receive k w) hs ls mem (Err NotPossible) hs ls mem
  unreceived e = (
    ap (λ l. map (λ rest. set queues k rest) (strip w l)) waits
        ∙ ap (map (λ rest. set queues k rest)) (began_none (strip w (ring_at mem hs ls k)) e),
    record { heads = refl; lengths = refl; memory = refl },
  )

  received_length : true ≡ began (strip w (ring_at mem hs ls k)) → n ≤ get_or ls k 0
  received_length e =
      let b = began_some (strip w (ring_at mem hs ls k)) e in
      omega (arith, taken_length mem hs ls q.count k w b.1)

  received : true ≡ began (strip w (ring_at mem hs ls k))
      → Shifts q (receive k w) hs ls mem (Ok tt) (set hs k ((get_or hs k 0 + n) % room)) (set ls k (get_or ls k 0 - n)) mem
  received e =
      record {
        acted =
            ap (λ l. map (λ rest. set queues k rest) (strip w l)) waits
            ∙ ap (map (λ rest. set queues k rest)) b.1
            ∙ ap some (sym left);
        ringed =
            rings_set q hs ls k ((get_or hs k 0 + n) % room) (get_or ls k 0 - n) R few h (omega arith)
            (omega (arith, R.held k));
        past = refl;
        long = refl;
      }
    where
      b : (rest : List ℕ) × (strip w (ring_at mem hs ls k) ≡ some rest)
      b = began_some (strip w (ring_at mem hs ls k)) e

      left : rings mem (set hs k ((get_or hs k 0 + n) % room)) (set ls k (get_or ls k 0 - n)) q.count ≡ set queues k b.0
      left =
          ap (λ x. rings mem (set hs k ((get_or hs k 0 + x) % room)) (set ls k (get_or ls k 0 - x)) q.count) (sym long)
          ∙ rings_taken mem hs ls q.count k w b.1 h (omega (arith, few, R.heads_long)) (omega (arith, few, R.lengths_long))

-- the word of a row, cut from the table
pub word_cut : (rows : List ℕ) (row : ℕ) → take (word_entry row + length_at rows row - word_entry row) (drop (word_entry row) rows) ≡ word_at rows row
word_cut rows row =
    ap (λ n. take n (drop (word_entry row) rows))
    (let z : word_entry row + length_at rows row - word_entry row ≡ length_at rows row = omega arith in z)

-- THE ROW'S queue and word
module _ {q : Queues} {rows : List ℕ} {row : ℕ} {hs ls mem : List ℕ} (S : Shiftable q rows row hs ls mem) where
  pub queue_few : queue_at rows row < most_queues
  queue_few = omega (arith, S.action.queue, S.queues.most)

  pub queue_room : queue_at rows row * room + room ≤ length mem
  queue_room =
      let g : (queue_at rows row + 1) * room ≤ q.count * room = mul-le-mul (let z : queue_at rows row + 1 ≤ q.count = omega (arith, S.action.queue) in z) (le_refl room) in
      omega (arith, g, S.enough)

  word_length_lem : length (word_at rows row) ≡ length_at rows row
  word_length_lem =
      length-take-le (length_at rows row) (drop (word_entry row) rows)
      (omega (arith, length-drop (word_entry row) rows, S.action.word.most, S.within))

  pub send_full : room < get_or ls (queue_at rows row) 0 + length_at rows row → Shifts q (send (queue_at rows row) (word_at rows row)) hs ls mem (Err NoRoom) hs ls mem
  send_full = sent_full hs ls mem (queue_at rows row) (length_at rows row) (word_at rows row) S.queues S.ringed S.enough S.action.queue word_length_lem

  pub send_put : get_or ls (queue_at rows row) 0 + length_at rows row ≤ room
      → Shifts q (send (queue_at rows row) (word_at rows row)) hs ls mem (Ok tt)
      hs (set ls (queue_at rows row) (get_or ls (queue_at rows row) 0 + length_at rows row))
      (put_round mem (queue_at rows row * room) (get_or hs (queue_at rows row) 0 + get_or ls (queue_at rows row) 0) (word_at rows row))
  send_put = sent hs ls mem (queue_at rows row) (length_at rows row) (word_at rows row) S.queues S.ringed S.enough S.action.queue word_length_lem

  pub receive_none : false ≡ began (strip (word_at rows row) (ring_at mem hs ls (queue_at rows row)))
      → Shifts q (receive (queue_at rows row) (word_at rows row)) hs ls mem (Err NotPossible) hs ls mem
  receive_none = unreceived hs ls mem (queue_at rows row) (length_at rows row) (word_at rows row) S.queues S.ringed S.enough S.action.queue word_length_lem

  pub receive_length : true ≡ began (strip (word_at rows row) (ring_at mem hs ls (queue_at rows row)))
      → length_at rows row ≤ get_or ls (queue_at rows row) 0
  receive_length = received_length hs ls mem (queue_at rows row) (length_at rows row) (word_at rows row) S.queues S.ringed S.enough S.action.queue word_length_lem

  pub receive_taken : true ≡ began (strip (word_at rows row) (ring_at mem hs ls (queue_at rows row)))
      → Shifts q (receive (queue_at rows row) (word_at rows row)) hs ls mem (Ok tt)
      (set hs (queue_at rows row) ((get_or hs (queue_at rows row) 0 + length_at rows row) % room)) (set ls (queue_at rows row) (get_or ls (queue_at rows row) 0 - length_at rows row)) mem
  receive_taken = received hs ls mem (queue_at rows row) (length_at rows row) (word_at rows row) S.queues S.ringed S.enough S.action.queue word_length_lem

  pub local_stays : Shifts q local hs ls mem (Ok tt) hs ls mem
  local_stays = record { acted = refl; ringed = S.ringed; past = refl; long = refl }

-- a kind that is neither local nor a send
pub kind_receives : (k q : ℕ) (w : List ℕ) → (k ≡ 0 → ⊥) → (k ≡ 1 → ⊥) → action_of k q w ≡ receive q w
kind_receives zero q w a b = absurd (a refl)
kind_receives (suc zero) q w a b = absurd (b refl)
kind_receives (suc (suc k)) q w a b = refl
