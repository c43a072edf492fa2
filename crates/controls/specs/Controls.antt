-- Control states: parted at a machine, and moved by a transition.
use Rattle.std.specs.Prelude.{ℕ, ◌+◌, ◌*◌, ◌/◌, ◌%◌, ◌≤◌, ◌<◌, ◌≡◌, Bool, List, length, get_or, set, take, drop, eqb}
use Rattle.tables.specs.Limits.{most_machines, most_controls}
use Rattle.tables.specs.Rows.{machine_at, from_at, to_at}
use Rattle.tables.specs.declared.tables.Machines.{Machines}
use Rattle.theory_model.specs.Model.{sizes_product, number, places}
use Rattle.controls.specs.declared.parting.Parted.{Parted}

-- for each machine how many states it has, and its starting state
abbrev pub sizes_of : Machines → List ℕ
sizes_of m = take m.count m.states

abbrev pub starts_of : Machines → List ℕ
starts_of m = take m.count m.starts

-- a control state parted at a machine: its state there, and the control state after it has moved
pub record Located (ks : List ℕ) (c machine : ℕ) (r : Parted) : Type 0 where
  pub positive : 1 ≤ r.stride
  pub state : r.rest / r.stride ≡ get_or (places ks c) machine 0
  pub moved : (to : ℕ) → r.base + (to * r.stride + r.rest % r.stride) ≡ number ks (set (places ks c) machine to)
  pub small : (r.base ≤ most_controls) × (r.rest ≤ most_controls) × (r.stride ≤ most_controls)

-- whether the machine of the transition whose row begins here is in the from-state
abbrev pub IsAt : Machines → List ℕ → ℕ → ℕ → Bool → Type 0
IsAt m rows row c r = r ≡ eqb (get_or (places (sizes_of m) c) (machine_at rows row) 0) (from_at rows row)

-- the control state that it leads to
abbrev pub Moved : Machines → List ℕ → ℕ → ℕ → ℕ → Type 0
Moved m rows row c r = r ≡ number (sizes_of m) (set (places (sizes_of m) c) (machine_at rows row) (to_at rows row))

-- the product from a machine on: of none it is 1, with one machine more it is multiplied, and it stays small
pub record Stepped (states : List ℕ) (count : ℕ) : Type 0 where
  pub most : count ≤ most_machines
  pub end : sizes_product (drop count (take count states)) ≡ 1
  pub before : (j : ℕ) → j < count
      → get_or states j 0 * sizes_product (drop (j + 1) (take count states)) ≡ sizes_product (drop j (take count states))
  pub small : (j : ℕ) → (1 ≤ sizes_product (drop j (take count states))) × (sizes_product (drop j (take count states)) ≤ most_controls)

-- WHAT IS ASKED to number the states of so many machines
pub record Numberable (states places : List ℕ) (count : ℕ) : Type 0 where
  pub least : 1 ≤ count
  pub stepped : Stepped states count
  pub states_long : count ≤ length states
  pub places_long : count ≤ length places
  pub small : number (take count states) (take count places) ≤ most_controls

-- UNDERWAY: the machines before number i are numbered by sum, and with the rest it is the number of all
abbrev pub with_rest : List ℕ → List ℕ → ℕ → ℕ → ℕ → ℕ
with_rest states places count i sum =
    sum * sizes_product (drop i (take count states)) + number (drop i (take count states)) (drop i (take count places))

pub record Numbering (states places : List ℕ) (count i sum : ℕ) : Type 0 where
  pub is : with_rest states places count i sum ≡ number (take count states) (take count places)
