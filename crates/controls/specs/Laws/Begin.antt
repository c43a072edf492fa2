-- The number of the machines' states, machine by machine from the first: each takes what was numbered so far times its states.
use Rattle.std.specs.Prelude.{ℕ, suc, ◌+◌, ◌*◌, ◌≤◌, ◌<◌, ◌≡◌, refl, List, [], ◌∷◌, length, get_or, take, drop}
use Rattle.std.proofs.Common.{sym, ap, ap₂, ◌∙◌, arith, add-one, add_assoc, add-mul, mul_assoc, mul-le-mul, mul-one, le_refl, drop_of_length-le, length-take, drop-cons, get_or-take}
use Rattle.tables.specs.Limits.{most_controls}
use Rattle.tables.specs.Valid.{MachinesValid}
use Rattle.tables.specs.declared.tables.Machines.{Machines}
use Rattle.theory_model.specs.Model.{sizes_product, number}
use Rattle.theory_model.specs.Session.{States}
use Rattle.theory_model.specs.Laws.Controls.{number_below}
use Rattle.theory_files.specs.Laws.Counts.{states_are}
use Rattle.controls.specs.Controls.{sizes_of, starts_of, Numberable, Numbering, with_rest}
use Rattle.controls.specs.Laws.Parting.{sizes_length, sizes_stepped, sizes_product_lem}

gathered : (sum k p P N : ℕ) → sum * (k * P) + (p * P + N) ≡ (sum * k + p) * P + N
gathered sum k p P N =
    ap (λ (x : ℕ). x + (p * P + N)) (sym (mul_assoc sum k P))
    ∙ sym (add_assoc (sum * k * P) (p * P) N)
    ∙ ap (λ (x : ℕ). x + N) (sym (add-mul (sum * k) p P))

-- one machine more
number_step : (states places : List ℕ) (count i sum k p : ℕ) → Numberable states places count → i < count
    → k ≡ get_or states i 0 → p ≡ get_or places i 0
    → with_rest states places count i sum ≡ with_rest states places count (i + 1) (sum * k + p)
number_step states places count i sum k p a h e f =
    ap₂ (λ ks ps. sum * sizes_product ks + number ks ps) cut_states cut_places
    ∙ gathered sum k p (sizes_product (drop (i + 1) (take count states))) _
  where
    cut_states : drop i (take count states) ≡ k ∷ drop (i + 1) (take count states)
    cut_states =
        drop-cons (take count states) i 0 (omega (arith, length-take count states, a.states_long))
        ∙ ap₂ (λ x n. x ∷ drop n (take count states)) (get_or-take count states i 0 h ∙ sym e) (sym (add-one i))

    cut_places : drop i (take count places) ≡ p ∷ drop (i + 1) (take count places)
    cut_places =
        drop-cons (take count places) i 0 (omega (arith, length-take count places, a.places_long))
        ∙ ap₂ (λ x n. x ∷ drop n (take count places)) (get_or-take count places i 0 h ∙ sym f) (sym (add-one i))

-- past the last machine nothing is left
number_end : (states places : List ℕ) (count i sum : ℕ) → Numberable states places count → count ≤ i
    → with_rest states places count i sum ≡ sum
number_end states places count i sum a h =
    ap (λ ks. sum * sizes_product ks + number ks (drop i (take count places)))
    (drop_of_length-le (take count states) {i = i} (omega (arith, length-take count states, a.states_long)))
    ∙ omega (arith, mul-one sum)

module _ {states places : List ℕ} {count : ℕ} (a : Numberable states places count) where
  -- the first machine alone
  pub numbering_first : {p : ℕ} → p ≡ get_or places 0 0 → Numbering states places count 1 p
  numbering_first {p} e =
      record {
        is =
            ap (with_rest states places count 1) (omega arith)
            ∙ sym (number_step states places count 0 0 (get_or states 0 0) p a a.least refl e)
            ∙ omega arith;
      }

  module _ {i sum : ℕ} (n : Numbering states places count i sum) where
    -- one more, or none
    pub numbering_next : {k p : ℕ} → i < count → k ≡ get_or states i 0 → p ≡ get_or places i 0
        → Numbering states places count (i + 1) (sum * k + p)
    numbering_next {k} {p} h e f = record { is = sym (number_step states places count i sum k p a h e f) ∙ n.is }

    pub numbering_done : count ≤ i → Numbering states places count (i + 1) sum
    numbering_done h =
        record {
          is =
              number_end states places count (i + 1) sum a (omega arith) ∙ sym (number_end states places count i sum a h) ∙ n.is;
        }

    -- the sum stays small, and is the number at the end
    pub numbering_small : sum ≤ most_controls
    numbering_small =
        let g : sum * 1 ≤ sum * sizes_product (drop i (take count states)) = mul-le-mul (le_refl sum) (a.stepped.small i).0 in
        omega (arith, g, n.is, a.small, mul-one sum)

    pub numbering_end : count ≤ i → sum ≡ number (take count states) (take count places)
    numbering_end h = sym (number_end states places count i sum a h) ∙ n.is

-- a state for each machine
states_length : (ks ps : List ℕ) → States ks ps → length ps ≡ length ks
states_length [] (p ∷ ps) s = elim s [ ]
states_length (k ∷ ks) [] s = elim s [ ]
states_length [] [] s = refl
states_length (k ∷ ks) (p ∷ ps) s = ap suc (states_length ks ps s.1)

-- states of machines that were read can be numbered, and are those of a control state
module _ (m : Machines) (v : MachinesValid m) where
  pub read_numberable : (places : List ℕ) → States (sizes_of m) (take m.count places) → Numberable m.states places m.count
  read_numberable places s =
      record {
        least = v.least;
        stepped = sizes_stepped m v;
        states_long = omega (arith, v.states_long, v.most);
        places_long =
            omega (arith, states_length (sizes_of m) (take m.count places) s, length-take m.count places, sizes_length m v);
        small = omega (arith, number_below (sizes_of m) (take m.count places) s, sizes_product_lem m v, v.product_most);
      }

  pub number_is_control : (places : List ℕ) → States (sizes_of m) (take m.count places) → number (sizes_of m) (take m.count places) < m.product
  number_is_control places s = omega (arith, number_below (sizes_of m) (take m.count places) s, sizes_product_lem m v)

  -- the starting states among them
  pub starts_are_states : States (sizes_of m) (starts_of m)
  starts_are_states =
      states_are m.count m.states m.starts (omega (arith, v.states_long, v.most)) (omega (arith, v.starts_long, v.most)) v.starts
