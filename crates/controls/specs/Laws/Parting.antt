-- Parting a control state machine by machine.
use Rattle.std.specs.Prelude.{ℕ, zero, suc, ◌+◌, ◌-◌, ◌*◌, ◌/◌, ◌%◌, ◌≤◌, ◌<◌, ◌≡◌, List, [], ◌∷◌, length, get_or, set, drop}
use Rattle.std.proofs.Common.{sym, ap, subst, ◌∙◌, arith, add-one, mod-lt, div-add-mod', mul-le-mul, one-mul, zero-add, add_assoc, le_refl, length-take, drop_of_length-le, drop-cons, get_or-take}
use Rattle.tables.specs.Limits.{most_controls}
use Rattle.tables.specs.Kinds.{limited}
use Rattle.tables.specs.Valid.{MachinesValid}
use Rattle.tables.specs.declared.tables.Machines.{Machines}
use Rattle.theory_model.specs.Model.{sizes_product, number, places}
use Rattle.theory_model.specs.Laws.Controls.{number_places, number_below, places_are_states, states_set}
use Rattle.theory_files.specs.Laws.Counts.{product_is}
use Rattle.tables.specs.Laws.Kinds.{control_made}
use Rattle.controls.specs.Controls.{sizes_of, Located, Stepped}

-- every machine has a state
abbrev pub Positive : List ℕ → Type 0
Positive ks = (i : ℕ) → i < length ks → 1 ≤ get_or ks i 0

positive_tail : (k : ℕ) (ks : List ℕ) → Positive (k ∷ ks) → Positive ks
positive_tail k ks h i l = h (suc i) (omega arith)

pub product_positive : (ks : List ℕ) → Positive ks → 1 ≤ sizes_product ks
product_positive [] h = omega arith
product_positive (k ∷ ks) h = mul-le-mul (h 0 (omega arith)) (product_positive ks (positive_tail k ks h))

-- a part of the machines has no more joint states than all
pub product_drop : (ks : List ℕ) → Positive ks → (j : ℕ) → (1 ≤ sizes_product (drop j ks)) × (sizes_product (drop j ks) ≤ sizes_product ks)
product_drop ks h zero = (product_positive ks h, le_refl (sizes_product ks))
product_drop [] h (suc j) = (omega arith, omega arith)
product_drop (k ∷ ks) h (suc j) =
    let r = product_drop ks (positive_tail k ks h) j in
    let g : 1 * sizes_product ks ≤ k * sizes_product ks = mul-le-mul (h 0 (omega arith)) (le_refl (sizes_product ks)) in
    (r.0, omega (arith, one-mul (sizes_product ks)))

-- the sizes of machines that were read
module _ (m : Machines) (v : MachinesValid m) where
  pub sizes_length : length (sizes_of m) ≡ m.count
  sizes_length = length-take m.count m.states ∙ omega (arith, v.states_long, v.most)

  pub size_at : (i : ℕ) → i < m.count → get_or (sizes_of m) i 0 ≡ get_or m.states i 0
  size_at i h = get_or-take m.count m.states i 0 h

  pub sizes_positive : Positive (sizes_of m)
  sizes_positive i h =
      let l : i < m.count = omega (arith, sizes_length) in
      subst (λ n. 1 ≤ n) (sym (size_at i l)) (v.states i l).0

  pub sizes_product_lem : sizes_product (sizes_of m) ≡ m.product
  sizes_product_lem = product_is m.states m.count (omega (arith, v.states_long, v.most)) ∙ sym v.product

  pub sizes_small : (j : ℕ) → (1 ≤ sizes_product (drop j (sizes_of m))) × (sizes_product (drop j (sizes_of m)) ≤ most_controls)
  sizes_small j =
      let r = product_drop (sizes_of m) sizes_positive j in
      (r.0, omega (arith, r.1, sizes_product_lem, v.product_most))

  pub sizes_stepped : Stepped m.states m.count
  sizes_stepped =
      record {
        most = v.most;
        end = ap sizes_product (drop_of_length-le (sizes_of m) {i = m.count} (omega (arith, sizes_length)));
        before = λ j h.
            ap (λ n. n * sizes_product (drop (j + 1) (sizes_of m))) (sym (size_at j h))
            ∙ ap (λ n. get_or (sizes_of m) j 0 * sizes_product (drop n (sizes_of m))) (add-one j)
            ∙ ap sizes_product (sym (drop-cons (sizes_of m) j 0 (omega (arith, sizes_length))));
        small = λ j. sizes_small j;
      }

  -- where a machine has moved to one of its states, the number is a control state's, and is made as it is
  pub moved_made : (c machine to : ℕ) → c < m.product → machine < m.count → to < get_or m.states machine 0 → {raw x : ℕ}
      → raw ≡ number (sizes_of m) (set (places (sizes_of m) c) machine to) → x ≡ limited most_controls raw
      → x ≡ number (sizes_of m) (set (places (sizes_of m) c) machine to)
  moved_made c machine to h l t {raw} e f =
      let s = states_set (sizes_of m) (places (sizes_of m) c) machine to (subst (λ n. to < n) (sym (size_at machine l)) t) (places_are_states (sizes_of m) c (subst (λ n. c < n) (sym sizes_product_lem) h)) in
      control_made v raw (omega (arith, e, number_below (sizes_of m) _ s, sizes_product_lem)) f ∙ e

-- THE MACHINES BEFORE NUMBER i are parted off: base is what they give, rest what is left
pub record Front (ks : List ℕ) (c machine i base rest : ℕ) : Type 0 where
  pub within : rest < sizes_product (drop i ks)
  pub state : get_or (places (drop i ks) rest) (machine - i) 0 ≡ get_or (places ks c) machine 0
  pub moved : (to : ℕ) → base + number (drop i ks) (set (places (drop i ks) rest) (machine - i) to)
      ≡ number ks (set (places ks c) machine to)
  pub few : base + rest ≤ c

module _ (ks : List ℕ) (c machine : ℕ) where
  pub front_begin : c < sizes_product ks → Front ks c machine 0 0 c
  front_begin h =
      record { within = h; state = ap (λ n. get_or (places ks c) n 0) z; moved = λ to. zero-add _ ∙ ap (λ n. number ks (set (places ks c) n to)) z; few = omega arith }
    where
      z : machine - 0 ≡ machine
      z = omega arith

  module _ (i base rest : ℕ) (F : Front ks c machine i base rest) (h : i < machine) (l : machine < length ks)
      (P : ℕ) (p : P ≡ sizes_product (drop (i + 1) ks)) (pos : 1 ≤ P) where
    cut : drop i ks ≡ get_or ks i 0 ∷ drop (i + 1) ks
    cut = drop-cons ks i 0 (omega arith) ∙ ap (λ n. get_or ks i 0 ∷ drop n ks) (sym (add-one i))

    one : machine - i ≡ suc (machine - (i + 1))
    one = omega arith

    pub front_step : Front ks c machine (i + 1) (base + rest / P * P) (rest % P)
    front_step =
        record {
          within = subst (λ n. rest % P < n) p (mod-lt rest pos);
          state = state_step;
          moved = λ to. moved_step to;
          few = omega (arith, div-add-mod' rest P, F.few);
        }
      where
        state_step : get_or (places (drop (i + 1) ks) (rest % P)) (machine - (i + 1)) 0 ≡ get_or (places ks c) machine 0
        state_step =
            ap (λ n. get_or (places (drop (i + 1) ks) (rest % n)) (machine - (i + 1)) 0) p
            ∙ sym (ap (λ n. get_or (places (get_or ks i 0 ∷ drop (i + 1) ks) rest) n 0) one)
            ∙ ap (λ js. get_or (places js rest) (machine - i) 0) (sym cut)
            ∙ F.state

        moved_step : (to : ℕ) → base + rest / P * P + number (drop (i + 1) ks) (set (places (drop (i + 1) ks) (rest % P)) (machine - (i + 1)) to)
            ≡ number ks (set (places ks c) machine to)
        moved_step to =
            add_assoc base (rest / P * P) _
            ∙ ap (λ n. base + (rest / n * n + number (drop (i + 1) ks) (set (places (drop (i + 1) ks) (rest % n)) (machine - (i + 1)) to))) p
            ∙ sym (ap (λ n. base + number (get_or ks i 0 ∷ drop (i + 1) ks) (set (places (get_or ks i 0 ∷ drop (i + 1) ks) rest) n to)) one)
            ∙ ap (λ js. base + number js (set (places js rest) (machine - i) to)) (sym cut)
            ∙ F.moved to

  module _ (base rest : ℕ) (F : Front ks c machine machine base rest) (l : machine < length ks) (most : c ≤ most_controls)
      (P : ℕ) (p : P ≡ sizes_product (drop (machine + 1) ks)) (pos : 1 ≤ P) (small : P ≤ most_controls) where
    end_cut : drop machine ks ≡ get_or ks machine 0 ∷ drop (machine + 1) ks
    end_cut = drop-cons ks machine 0 l ∙ ap (λ n. get_or ks machine 0 ∷ drop n ks) (sym (add-one machine))

    none : machine - machine ≡ 0
    none = omega arith

    pub front_end : Located ks c machine (record { base = base; rest = rest; stride = P })
    front_end =
        record {
          positive = pos;
          state = state_end;
          moved = λ to. moved_end to;
          small = (omega (arith, F.few), omega (arith, F.few), small);
        }
      where
        state_end : rest / P ≡ get_or (places ks c) machine 0
        state_end =
            ap (λ n. rest / n) p
            ∙ sym (ap (λ n. get_or (places (get_or ks machine 0 ∷ drop (machine + 1) ks) rest) n 0) none)
            ∙ ap (λ js. get_or (places js rest) (machine - machine) 0) (sym end_cut)
            ∙ F.state

        below : rest % sizes_product (drop (machine + 1) ks) < sizes_product (drop (machine + 1) ks)
        below = subst (λ n. rest % n < n) p (mod-lt rest pos)

        moved_end : (to : ℕ) → base + (to * P + rest % P) ≡ number ks (set (places ks c) machine to)
        moved_end to =
            ap (λ n. base + (to * n + rest % n)) p
            ∙ ap (λ n. base + (to * sizes_product (drop (machine + 1) ks) + n)) (sym (number_places (drop (machine + 1) ks) (rest % sizes_product (drop (machine + 1) ks)) below))
            ∙ sym (ap (λ n. base + number (get_or ks machine 0 ∷ drop (machine + 1) ks) (set (places (get_or ks machine 0 ∷ drop (machine + 1) ks) rest) n to)) none)
            ∙ ap (λ js. base + number js (set (places js rest) (machine - machine) to)) (sym end_cut)
            ∙ F.moved to
