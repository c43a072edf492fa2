-- VALID TABLES SPELL A FILE of at most 11,700 bytes. One byte is counted for each number, but two for the number of transitions and for the
-- control state of a bad entry: no others pass 127.
use Rattle.std.specs.Prelude.{ℕ, zero, suc, ◌+◌, ◌-◌, ◌*◌, ◌/◌, ◌%◌, ◌≤◌, ◌<◌, ◌≡◌, refl, Bool, cond, length, ltb, eqb}
use Rattle.std.proofs.Common.{sym, subst, length-append, lt-ltb, ltb-true, mul-suc, arith}
use Rattle.std.proofs.Math.Bool.{true, false}
use mathlib.Core.List.{List, [], ◌∷◌, ◌++◌}
use Rattle.std.proofs.Math.ListN.{get_or}
use Rattle.tables.specs.Limits.{most_messages, most_controls}
use Rattle.tables.specs.Rows.{row_length, word_entry, machine_at, from_at, to_at, kind_at, queue_at, length_at}
use Rattle.tables.specs.Starting.{waits}
use Rattle.tables.specs.Valid.{MachinesValid, WordValid, QueuesValid, ActionValid, RowValid, TransitionsValid, PoolValid, MapValid, BadValid}
use Rattle.tables.specs.declared.tables.Machines.{Machines}
use Rattle.tables.specs.declared.tables.Queues.{Queues}
use Rattle.tables.specs.declared.tables.Transitions.{Transitions}
use Rattle.tables.specs.declared.tables.Pool.{Pool}
use Rattle.tables.specs.declared.tables.Map.{Map}
use Rattle.tables.specs.declared.tables.BadList.{BadList}
use Rattle.reading_pool.specs.Laws.Arcs.{Ascends}
use Rattle.theory_format.specs.Spelled.{number, each, entries, first_number, machines, content, contents, queues, action, transition, transitions}
use Rattle.theory_format.specs.Spelled.{arcs_of, arcs, state, pool, mapped, bad}
use Rattle.theory_format.specs.Readable.{Bytes}
use Rattle.theory_format.specs.Laws.Arcs.{ascends_few, pool_ascending}

-- at most n, and bytes
pub record Fits (n : ℕ) (l : List ℕ) : Type 0 where
  pub short : length l ≤ n
  pub bytes : Bytes l

bytes_more : (x : ℕ) (l : List ℕ) → x < 256 → Bytes l → Bytes (x ∷ l)
bytes_more x l h b = record { small = go }
  where
    go : (k : ℕ) → get_or (x ∷ l) k 0 < 256
    go zero = h
    go (suc k) = b.small k

bytes_then : (w u : List ℕ) → Bytes w → Bytes u → Bytes (w ++ u)
bytes_then [] u a b = b
bytes_then (x ∷ w) u a b = bytes_more x (w ++ u) (a.small 0) (bytes_then w u (record { small = λ k. a.small (suc k) }) b)

pub fits_none : (n : ℕ) → Fits n []
fits_none n = record { short = omega arith; bytes = record { small = λ k. omega arith } }

fits_more : {n x : ℕ} {l : List ℕ} → x < 256 → Fits n l → Fits (suc n) (x ∷ l)
fits_more {n} {x} {l} h f = record { short = omega (arith, f.short); bytes = bytes_more x l h f.bytes }

-- one after another, in room that is wide enough
pub fits_then : {m n room : ℕ} {w u : List ℕ} → m + n ≤ room → Fits m w → Fits n u → Fits room (w ++ u)
fits_then {w = w} {u = u} h f g =
    record { short = omega (arith, length-append w u, f.short, g.short); bytes = bytes_then w u f.bytes g.bytes }

pub fits_wider : {n room : ℕ} {w : List ℕ} → n ≤ room → Fits n w → Fits room w
fits_wider h f = record { short = omega (arith, f.short); bytes = f.bytes }

-- a number
pub fits_one : (v : ℕ) → v < 128 → Fits 1 (number v)
unfolding number
fits_one v h =
    subst (λ b. Fits 1 (cond b (v ∷ []) ((128 + v % 128) ∷ (v / 128) ∷ []))) (sym (lt-ltb v 128 h))
    (fits_more (omega arith) (fits_none 0))

pub fits_two : (v : ℕ) → v < 16384 → Fits 2 (number v)
unfolding number
fits_two v h = go (ltb v 128) refl
  where
    go : (b : Bool) → ltb v 128 ≡ b → Fits 2 (cond b (v ∷ []) ((128 + v % 128) ∷ (v / 128) ∷ []))
    go true e = let l = ltb-true v 128 e in fits_more (omega arith) (fits_none 1)
    go false e = fits_more (omega arith) (fits_more (omega arith) (fits_none 0))

-- so many parts
pub fits_each : (part : ℕ → List ℕ) (c left i : ℕ) → ((k : ℕ) → i ≤ k → k < i + left → Fits c (part k))
    → Fits (c * left) (each part left i)
unfolding each
fits_each part c zero i f = fits_none (c * 0)
fits_each part c (suc left) i f =
    fits_then (omega (arith, mul-suc c left)) (f i (omega arith) (omega arith))
    (fits_each part c left (i + 1) (λ k h g. f k (omega arith) (omega arith)))

pub fits_entries : (table : List ℕ) (left i : ℕ) → ((k : ℕ) → i ≤ k → k < i + left → get_or table k 0 < 128)
    → Fits (1 * left) (entries table left i)
fits_entries table left i f = fits_each (λ k. number (get_or table k 0)) 1 left i (λ k h g. fits_one (get_or table k 0) (f k h g))

-- THE FIELDS
fits_first : (resumes : Bool) {m : Machines} → MachinesValid m → Fits 1 (number (first_number resumes m.count))
fits_first true z = fits_one _ (omega (arith, z.most))
fits_first false z = fits_one _ (omega (arith, z.most))

pub fits_machines : (resumes : Bool) {m : Machines} → MachinesValid m → Fits 9 (machines resumes m)
unfolding machines
fits_machines resumes {m} z =
    fits_then (omega (arith, z.most)) (fits_first resumes z)
    (fits_then {room = 8} (omega (arith, z.most))
    (fits_entries m.states m.count 0 (λ k h g. omega (arith, (z.states k (omega arith)).1)))
    (fits_entries m.starts m.count 0
    (λ k h g. omega (arith, (z.states k (omega arith)).1, z.starts k (omega arith)))))

-- a word of messages
fits_word : {q : Queues} → QueuesValid q → {room p first : ℕ} (len : ℕ) (table : List ℕ) → WordValid q room p len first table
    → Fits (1 * len) (entries table len first)
fits_word z {first = first} len table w = fits_entries table len first messages
  where
    messages : (k : ℕ) → first ≤ k → k < first + len → get_or table k 0 < 128
    messages k h g =
        let e : first + (k - first) ≡ k = omega arith in
        let l : get_or table (first + (k - first)) 0 < 128 = omega (arith, w.below (k - first) (omega arith), z.sum_most) in
        subst (λ i. get_or table i 0 < 128) e l

module _ {q : Queues} (z : QueuesValid q) where
  fits_content : (i : ℕ) → i < q.count → Fits 9 (content q.lengths q.contents i)
  unfolding content
  fits_content i h =
      let w = z.starting.words i h in
      let len = get_or q.lengths i 0 in
      fits_then (omega (arith, w.most)) (fits_one len (omega (arith, w.most))) (fits_word z len q.contents w)

  fits_contents : Fits 36 (contents q)
  unfolding contents
  fits_contents =
      fits_wider (omega (arith, z.most))
      (fits_each (content q.lengths q.contents) 9 q.count 0 (λ i h g. fits_content i (omega arith)))

  pub fits_queues : Fits 41 (queues q)
  unfolding queues
  fits_queues =
      fits_then {n = 40} (omega arith) (fits_one q.count (omega (arith, z.most)))
      (fits_then {m = 4} (omega arith)
      (fits_wider (omega (arith, z.most))
      (fits_entries q.messages q.count 0 (λ k h g. omega (arith, (z.messages k (omega arith)).1))))
      (go (waits q.lengths)))
    where
      go : (b : Bool) → Fits 36 (cond b (contents q) [])
      go true = fits_contents
      go false = fits_none 36

module _ {m : Machines} {q : Queues} (vm : MachinesValid m) (vq : QueuesValid q) (rows : List ℕ) where
  fits_action : (row : ℕ) → ActionValid q (queue_at rows row) (length_at rows row) (word_entry row) rows → Fits 18 (action rows row)
  unfolding action
  fits_action row z =
      fits_then {n = 17} (omega arith) (fits_one (queue_at rows row) (omega (arith, z.queue, vq.most)))
      (fits_then (omega (arith, z.word.most)) (fits_one (length_at rows row) (omega (arith, z.word.most)))
      (fits_word vq (length_at rows row) rows z.word))

  fits_transition : (row : ℕ) → RowValid m q rows row → Fits 22 (transition rows row)
  unfolding transition
  fits_transition row z =
      let states = (vm.states (machine_at rows row) z.move.machine).1 in
      fits_then {n = 21} (omega arith) (fits_one (machine_at rows row) (omega (arith, z.move.machine, vm.most)))
      (fits_then {n = 20} (omega arith) (fits_one (from_at rows row) (omega (arith, z.move.from)))
      (fits_then {n = 19} (omega arith) (fits_one (to_at rows row) (omega (arith, z.move.to)))
      (fits_then {n = 18} (omega arith) (fits_one (kind_at rows row) (omega (arith, z.move.kind)))
      (go (eqb (kind_at rows row) 0)))))
    where
      go : (b : Bool) → Fits 18 (cond b [] (action rows row))
      go true = fits_none 18
      go false = fits_action row z.action

pub fits_transitions : {m : Machines} {q : Queues} {τ : Transitions} → MachinesValid m → QueuesValid q → TransitionsValid m q τ
    → Fits 2818 (transitions τ)
unfolding transitions
fits_transitions {τ = τ} vm vq z =
    fits_then (omega (arith, z.most)) (fits_two τ.count (omega (arith, z.most)))
    (fits_each (λ t. transition τ.rows (t * row_length)) 22 τ.count 0
    (λ t h g. fits_transition vm vq τ.rows (t * row_length) (z.row t (omega arith))))

-- messages and targets of arcs are below 128
fits_arcs : (n sum least : ℕ) (l : List (ℕ × ℕ)) → n ≤ 128 → sum ≤ 128 → Ascends n sum least l → Fits (2 * length l) (arcs l)
unfolding arcs Ascends
fits_arcs n sum least [] h g z = fits_none (2 * 0)
fits_arcs n sum least (arc ∷ rest) h g z =
    fits_then {n = 1 + 2 * length rest} (omega arith) (fits_one arc.0 (omega (arith, z.1)))
    (fits_then (omega arith) (fits_one arc.1 (omega (arith, z.2))) (fits_arcs n sum (arc.0 + 1) rest h g z.3))

module _ {sum : ℕ} {P : Pool} (few : sum ≤ most_messages) (z : PoolValid sum P) where
  fits_state : (i : ℕ) → i < P.count → Fits 66 (state P.finals P.arcs sum i)
  unfolding state
  fits_state i h =
      let l = arcs_of P.arcs i sum 0 in
      let up = pool_ascending i few z in
      let short = ascends_few P.count sum 0 l (omega arith) up in
      fits_then {n = 65} (omega arith) (fits_one (get_or P.finals i 0) (omega (arith, z.finals i h)))
      (fits_then (omega arith) (fits_one (length l) (omega arith))
      (fits_arcs P.count sum 0 l (omega (arith, z.most)) (omega arith) up))

  pub fits_pool : Fits 8383 (pool sum P)
  unfolding pool
  fits_pool =
      fits_then (omega (arith, z.most)) (fits_one P.count (omega (arith, z.most)))
      (fits_each (state P.finals P.arcs sum) 66 P.count 0 (λ i h g. fits_state i (omega arith)))

pub fits_map : {product n : ℕ} {R : Map} → product ≤ most_controls → n < 128 → MapValid product n R → Fits 256 (mapped product R)
unfolding mapped
fits_map {product} {R = R} h g z =
    fits_wider (omega arith) (fits_entries R.roots product 0 (λ k _ _. omega (arith, z.roots k)))

pub fits_bad : {product n : ℕ} {B : BadList} → product ≤ most_controls → n < 128 → BadValid product n B → Fits 193 (bad B)
unfolding bad
fits_bad {B = B} h g z =
    fits_then (omega (arith, z.most)) (fits_one B.count (omega (arith, z.most)))
    (fits_each (λ b. number (get_or B.rows (b * 2) 0) ++ number (get_or B.rows (b * 2 + 1) 0)) 3 B.count 0
    (λ b _ l.
    fits_then (omega arith) (fits_two (get_or B.rows (b * 2) 0) (omega (arith, z.control b (omega arith))))
    (fits_one (get_or B.rows (b * 2 + 1) 0) (omega (arith, z.root b (omega arith))))))
