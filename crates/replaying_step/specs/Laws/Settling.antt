-- The form of the end is that of the record's configuration.
use Rattle.std.specs.Prelude.{ℕ, zero, suc, ◌+◌, ◌-◌, ◌≤◌, ◌≡◌, refl, List, [], ◌∷◌, ◌++◌, map, length, get_or, take, drop, replicate}
use Rattle.std.proofs.Common.{sym, ap, ap₂, ◌∙◌, arith, add-one, drop-cons}
use Rattle.std.proofs.Math.Nat.{sub-zero}
use Rattle.tables.specs.Limits.{most_machines, most_queues}
use Rattle.tables.specs.Valid.{MachinesValid, QueuesValid}
use Rattle.tables.specs.declared.tables.Machines.{Machines}
use Rattle.tables.specs.declared.tables.Queues.{Queues}
use Rattle.theory_model.specs.Laws.Controls.{places_number}
use Rattle.controls.specs.Controls.{sizes_of}
use Rattle.tables.specs.Starting.{each}
use Rattle.replaying_queues.specs.Ring.{ring_at, rings}
use Rattle.replaying_queues.specs.Laws.Waiting.{waiting_length}
use Rattle.replaying_step.specs.Configurations.{run_of, config_of, Holds}
use Rattle.replaying_step.specs.After.{padded, record_after}
use Rattle.replaying_step.specs.declared.runs.RunRecord.{RunRecord}

-- a table whose entries from count on are 0 is its front and zeros
rest_zero : (n : ℕ) (l : List ℕ) → length l ≡ n → ((i : ℕ) → get_or l i 0 ≡ 0) → l ≡ replicate n 0
rest_zero zero [] e h = refl
rest_zero zero (x ∷ l) e h = absurd (omega arith)
rest_zero (suc n) [] e h = absurd (omega arith)
rest_zero (suc n) (x ∷ l) e h = ap₂ {C = List ℕ} (λ y ys. y ∷ ys) (h 0) (rest_zero n l (omega arith) (λ i. h (suc i)))

pub front_padded : (n count : ℕ) (l : List ℕ) → length l ≡ n → count ≤ n → ((i : ℕ) → count ≤ i → get_or l i 0 ≡ 0) → l ≡ padded n (take count l)
front_padded n zero l e h rest = rest_zero n l e (λ i. rest i (omega arith)) ∙ ap (λ (k : ℕ). replicate k 0) (sym (sub-zero n))
front_padded n (suc count) [] e h rest = absurd (omega arith)
front_padded zero (suc count) (x ∷ l) e h rest = absurd (omega arith)
front_padded (suc n) (suc count) (x ∷ l) e h rest =
    ap (λ ys. x ∷ ys) (front_padded n count l (omega arith) (omega arith) (λ i g. rest (suc i) (omega arith)))
    ∙ ap (λ (k : ℕ). x ∷ (take count l ++ replicate k 0)) (let z : n - length (take count l) ≡ suc n - suc (length (take count l)) = omega arith in z)

-- as many as wait
each_lengths : (mem hs ls : List ℕ) (left q : ℕ) → q + left ≤ length ls → map length (each (ring_at mem hs ls) left q) ≡ take left (drop q ls)
each_lengths mem hs ls zero q h = refl
each_lengths mem hs ls (suc left) q h =
    ap₂ {C = List ℕ} (λ y ys. y ∷ ys) (waiting_length mem _ (get_or hs q 0) (get_or ls q 0))
    (each_lengths mem hs ls left (q + 1) (omega arith) ∙ ap (λ n. take left (drop n ls)) (add-one q))
    ∙ ap (take (suc left)) (sym (drop-cons ls q 0 (omega arith)))

pub rings_lengths : (mem hs ls : List ℕ) (count : ℕ) → count ≤ length ls → map length (rings mem hs ls count) ≡ take count ls
rings_lengths mem hs ls count h = each_lengths mem hs ls count 0 (omega arith)

-- THE RECORD with its heads set to 0 is that of the end
pub record_is : (m : Machines) (q : Queues) (r : RunRecord) (mem : List ℕ) → MachinesValid m → QueuesValid q → Holds m q r mem
    → run_of r.states (replicate most_queues 0) r.lengths ≡ record_after m (config_of m q r mem)
record_is m q r mem M Q H =
    ap₂ (λ ss ls. run_of ss (replicate most_queues 0) ls)
    (front_padded most_machines m.count r.states H.states_long M.most H.rest
    ∙ ap (padded most_machines) (sym (places_number (sizes_of m) (take m.count r.states) H.placed)))
    (front_padded most_queues q.count r.lengths H.ringed.lengths_long Q.most H.ringed.rest
    ∙ ap (padded most_queues) (sym (rings_lengths mem r.heads r.lengths q.count (omega (arith, H.ringed.lengths_long, Q.most)))))
