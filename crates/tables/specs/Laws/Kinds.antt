-- A number within its kind's limit is made as it is.
use Rattle.std.specs.Prelude.{ℕ, ◌<◌, ◌≡◌}
use Rattle.std.proofs.Common.{◌∙◌, lt-ltb, arith}
use Rattle.tables.specs.Limits.{most_messages, most_controls}
use Rattle.tables.specs.Kinds.{limited}
use Rattle.tables.specs.Valid.{MachinesValid, QueuesValid}
use Rattle.tables.specs.declared.tables.Machines.{Machines}
use Rattle.tables.specs.declared.tables.Queues.{Queues}

pub made_is : (limit raw : ℕ) {x : ℕ} → raw < limit → x ≡ limited limit raw → x ≡ raw
made_is limit raw h e = e ∙ rw (lt-ltb raw limit h)

-- a message below the sum, and a control state of the machines
pub message_made : {q : Queues} → QueuesValid q → {m wide raw : ℕ} → raw < q.sum → wide ≡ raw → m ≡ limited most_messages wide → m ≡ raw
message_made v {wide = wide} h w e = made_is most_messages wide (omega (arith, v.sum_most)) e ∙ w

pub control_made : {m : Machines} → MachinesValid m → {x : ℕ} (c : ℕ) → c < m.product → x ≡ limited most_controls c → x ≡ c
control_made v c h e = made_is most_controls c (omega (arith, v.product_most)) e
