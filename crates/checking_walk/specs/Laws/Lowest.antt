-- The lowest letter that leads from one pair to another: the code tries only the letters that the pair's side allows, and the others lead nowhere.
use Rattle.std.specs.Prelude.{◌≡◌, Bool, List, eqb, MatchOption}
use Rattle.std.specs.Prelude as Code
use Rattle.std.specs.Option.{option_eq}
use Rattle.std.proofs.Common.{subst}
use Rattle.checking_pairs.specs.Laws.Pairs.{same_codes}
use Rattle.checking_pairs.specs.Leads.{said_next, LeadsTo}
use Rattle.std.proofs.Math.Path.{refl, ap, ap₂}
use Rattle.std.proofs.Common.{sym, ◌∙◌, arith, sub-eq-zero_of_le, add-one}
use Rattle.std.proofs.Math.Bool.{true, false}
use Rattle.std.proofs.Math.Option.{Option, none}
use Prim.Native.Nat.{ℕ, zero, suc, ◌+◌, ◌-◌, ◌≤◌, ◌<◌}
use Rattle.std.proofs.Math.Nat.{sub-zero}
use Rattle.theory_exploration.specs.Search.{leads_to, lowest_from}
use Rattle.numbers.specs.Laws.Parts.{one_more_lem}
use Rattle.theory_model.specs.Verdict.{Pair}
use Rattle.theory_model.specs.Judge.{same}
use Rattle.checking_pairs.specs.declared.pairs.Node.{Node}
use Rattle.checking_pairs.specs.declared.pairs.Walk.{Walk}
use Rattle.tables.specs.Kinds.{reached_of}
use Rattle.checking_pairs.specs.Pairs.{decode, pair_of, NodeOf}
use Rattle.checking_pairs.specs.Over.{jump_over, go_over, read_from}
use Rattle.checking_walk.specs.Laws.Letters.{before_read, before_none, before_step, after_low, after_read, after_high}
use Rattle.checking_walk.specs.Shown.{letter_over, LowestBelow}

cases : {P : Type 0} (b : Bool) → (true ≡ b → P) → (false ≡ b → P) → P
cases true f g = f refl
cases false f g = g refl

module _ (δ : Pair → ℕ → Option Pair) (x y : Pair) where
  abbrev low : ℕ → ℕ → ℕ
  low left m = lowest_from δ same x y left m

  low_here : (left m : ℕ) → true ≡ leads_to same (δ x m) y → low (suc left) m ≡ m
  unfolding lowest_from
  low_here left m e = rw (sym e, lowest_from)

  low_on : (left m : ℕ) → false ≡ leads_to same (δ x m) y → low (suc left) m ≡ low left (suc m)
  unfolding lowest_from
  low_on left m e = rw (sym e, lowest_from)

  low_none : {left : ℕ} (m : ℕ) → left ≡ 0 → low left m ≡ m
  unfolding lowest_from
  low_none m e = ap (λ n. low n m) e

  -- A LOOP over the letters below end: those before m lead elsewhere
  module _ {end m goal : ℕ} (is : lowest_from δ same x y (end - m) m ≡ goal) where
    pub low_met : m < end → true ≡ leads_to same (δ x m) y → m ≡ goal
    low_met h e = sym (ap (λ n. low n m) (one_more_lem h) ∙ low_here (end - (m + 1)) m e) ∙ is

    pub low_next : m < end → false ≡ leads_to same (δ x m) y → lowest_from δ same x y (end - (m + 1)) (m + 1) ≡ goal
    low_next h e = ap (low (end - (m + 1))) (add-one m) ∙ sym (ap (λ n. low n m) (one_more_lem h) ∙ low_on (end - (m + 1)) m e) ∙ is

    pub low_end : end ≤ m → m ≡ goal
    low_end h = sym (low_none m (sub-eq-zero_of_le h)) ∙ is

  -- IN PARTS: of a + b letters from m on, the first a
  low_found : (a b m : ℕ) → low a m < m + a → low (a + b) m ≡ low a m
  low_found zero b m h = absurd (omega (arith, low_none m refl))
  low_found (suc a) b m h =
      let more : suc a + b ≡ suc (a + b) = omega arith in
      ap (λ n. low n m) more
      ∙ cases (leads_to same (δ x m) y) (λ e. low_here (a + b) m e ∙ sym (low_here a m e))
      (λ e. low_on (a + b) m e ∙ low_found a b (suc m) (omega (arith, low_on a m e)) ∙ sym (low_on a m e))

  low_past : (a b m : ℕ) → m + a ≤ low a m → low (a + b) m ≡ low b (m + a)
  low_past zero b m h =
      let all : 0 + b ≡ b = omega arith in
      let here : m ≡ m + 0 = omega arith in
      ap₂ low all here
  low_past (suc a) b m h =
      let more : suc a + b ≡ suc (a + b) = omega arith in
      let next : suc m + a ≡ m + suc a = omega arith in
      ap (λ n. low n m) more
      ∙ cases (leads_to same (δ x m) y) (λ e. absurd (omega (arith, low_here a m e)))
      (λ e. low_on (a + b) m e ∙ low_past a b (suc m) (omega (arith, low_on a m e)) ∙ ap (low b) next)

  -- letters that lead nowhere
  low_nowhere : (a m : ℕ) → ((j : ℕ) → m ≤ j → j < m + a → δ x j ≡ none) → low a m ≡ m + a
  low_nowhere zero m e = low_none m refl ∙ omega arith
  low_nowhere (suc a) m e =
      low_on a m (ap (λ o. leads_to same o y) (sym (e m (omega arith) (omega arith))))
      ∙ low_nowhere a (suc m) (λ j p q. e j (omega arith) (omega arith)) ∙ omega arith

  low_skip : (a b m : ℕ) → ((j : ℕ) → m ≤ j → j < m + a → δ x j ≡ none) → low (a + b) m ≡ low b (m + a)
  low_skip a b m e = low_past a b m (omega (arith, low_nowhere a m e))

  -- only the letters tried matter
  low_same : (δ' : Pair → ℕ → Option Pair) (a m : ℕ) → ((j : ℕ) → m ≤ j → j < m + a → δ x j ≡ δ' x j)
      → low a m ≡ lowest_from δ' same x y a m
  unfolding lowest_from
  low_same δ' zero m e = refl
  low_same δ' (suc a) m e =
      ap₂ {C = ℕ} (λ o n. elim (leads_to same o y) [ true ↦ m | false ↦ n ]) (e m (omega arith) (omega arith))
      (low_same δ' a (suc m) (λ j p q. e j (omega arith) (omega arith)))

-- WHETHER THE PAIR of a number is the one that a letter leads to, as the code asks
pub met : {r : Code.Option ℕ} {o : Option Pair} {b : Bool} (code : ℕ) → LeadsTo r o → b ≡ option_eq eqb r (Code.Some code)
    → b ≡ leads_to same o (decode code)
met {r} code l e = e ∙ by_answer r ∙ ap (λ o. leads_to same o (decode code)) l.is
  where
    by_answer : (r : Code.Option ℕ) → option_eq eqb r (Code.Some code) ≡ leads_to same (said_next r) (decode code)
    by_answer Code.None = refl
    by_answer (Code.Some c) = sym (same_codes c code)

pub lowest_some : {end low m : ℕ} {r : Code.Option ℕ} → LowestBelow end low r → r ≡ Code.Some m → (m ≡ low) × (m < end)
lowest_some {end} {low} l e = subst (λ r. MatchOption r (end ≤ low) (λ m. (m ≡ low) × (m < end))) e l.is

pub lowest_none : {end low : ℕ} {r : Code.Option ℕ} → LowestBelow end low r → r ≡ Code.None → end ≤ low
lowest_none {end} {low} l e = subst (λ r. MatchOption r (end ≤ low) (λ m. (m ≡ low) × (m < end))) e l.is

-- THE LETTER between two pairs, by the side of the first
module _ (arcs rows : List ℕ) (w : Walk) (cut : w.cut ≤ w.sum) {from : ℕ} {x : Node} (N : NodeOf from x) (code : ℕ) where
  abbrev δ : Pair → ℕ → Option Pair
  δ = go_over arcs rows w

  abbrev ρ : Pair → ℕ → Option Pair
  ρ = read_from arcs w.entry x

  abbrev go : ℕ → ℕ → ℕ
  go left m = lowest_from δ same (pair_of x) (decode code) left m

  abbrev rest : ℕ
  rest = w.sum - w.cut

  -- the messages below the cut, the others, and the step
  in_parts : letter_over arcs rows w from code ≡ go (w.cut + (rest + 1)) 0
  in_parts =
      ap (λ p. lowest_from δ same p (decode code) (suc w.sum) 0) N.is
      ∙ ap (λ n. go n 0) (let e : suc w.sum ≡ w.cut + (rest + 1) = omega arith in e)

  one_past : {o : Option Pair} → δ (pair_of x) w.sum ≡ o → false ≡ leads_to same o (decode code) → go 1 w.sum ≡ w.sum + 1
  one_past e f =
      low_on δ (pair_of x) (decode code) 0 w.sum (f ∙ ap (λ o. leads_to same o (decode code)) (sym e))
      ∙ low_none δ (pair_of x) (decode code) (suc w.sum) refl
      ∙ sym (add-one w.sum)

  module _ (near : x.side ≡ 0) {r : ℕ} (is : r ≡ lowest_from (read_from arcs w.entry x) same (pair_of x) (decode code) (w.cut - 0) 0) where
    tried : go w.cut 0 ≡ r
    tried =
        low_same δ (pair_of x) (decode code) ρ w.cut 0 (λ j p q. before_read arcs rows w x j near (omega arith))
        ∙ ap (λ n. lowest_from ρ same (pair_of x) (decode code) n 0) (sym (sub-zero w.cut))
        ∙ sym is

    pub message_before : r < w.cut → r ≡ letter_over arcs rows w from code
    message_before h = sym (in_parts ∙ low_found δ (pair_of x) (decode code) w.cut (rest + 1) 0 (omega (arith, tried)) ∙ tried)

    step_left : w.cut ≤ r → letter_over arcs rows w from code ≡ go 1 w.sum
    step_left h =
        in_parts
        ∙ low_past δ (pair_of x) (decode code) w.cut (rest + 1) 0 (omega (arith, tried))
        ∙ low_skip δ (pair_of x) (decode code) rest 1 (0 + w.cut) (λ j p q. before_none arcs rows w x j near (omega arith) (omega arith))
        ∙ ap (go 1) (let e : 0 + w.cut + rest ≡ w.sum = omega arith in e)

    stepped : δ (pair_of x) w.sum ≡ jump_over arcs rows w x.source.0 (reached_of x.target.0)
    stepped = before_step arcs rows w x w.sum near cut refl

    pub step_met : w.cut ≤ r → true ≡ leads_to same (jump_over arcs rows w x.source.0 (reached_of x.target.0)) (decode code)
        → w.sum ≡ letter_over arcs rows w from code
    step_met h e =
        sym (step_left h ∙ low_here δ (pair_of x) (decode code) 0 w.sum (e ∙ ap (λ o. leads_to same o (decode code)) (sym stepped)))

    pub step_missed : w.cut ≤ r → false ≡ leads_to same (jump_over arcs rows w x.source.0 (reached_of x.target.0)) (decode code)
        → w.sum + 1 ≡ letter_over arcs rows w from code
    step_missed h e = sym (step_left h ∙ one_past stepped e)

  module _ (far : x.side ≡ 0 → ⊥) {r : ℕ} (is : r ≡ lowest_from (read_from arcs w.entry x) same (pair_of x) (decode code) (w.sum - w.cut) w.cut) where
    later : letter_over arcs rows w from code ≡ go (rest + 1) w.cut
    later =
        in_parts
        ∙ low_skip δ (pair_of x) (decode code) w.cut (rest + 1) 0 (λ j p q. after_low arcs rows w x j N.fits far (omega arith))
        ∙ ap (go (rest + 1)) (let e : 0 + w.cut ≡ w.cut = omega arith in e)

    tried_later : go rest w.cut ≡ r
    tried_later =
        low_same δ (pair_of x) (decode code) ρ rest w.cut (λ j p q. after_read arcs rows w x j N.fits far p (omega arith)) ∙ sym is

    pub message_after : r < w.sum → r ≡ letter_over arcs rows w from code
    message_after h = sym (later ∙ low_found δ (pair_of x) (decode code) rest 1 w.cut (omega (arith, tried_later)) ∙ tried_later)

    pub none_after : w.sum ≤ r → w.sum + 1 ≡ letter_over arcs rows w from code
    none_after h =
        sym (later
        ∙ low_past δ (pair_of x) (decode code) rest 1 w.cut (omega (arith, tried_later))
        ∙ ap (go 1) (let e : w.cut + rest ≡ w.sum = omega arith in e)
        ∙ one_past (after_high arcs rows w x w.sum N.fits far cut (omega arith)) refl)
