-- All that a pair leads to: the code follows only the letters that the pair's side allows, and the others lead nowhere.
use Rattle.std.specs.Prelude.{◌≡◌, List}
use Rattle.std.proofs.Math.Path.{refl, ap}
use Rattle.std.proofs.Common.{sym, subst, ◌∙◌, sub-eq-zero_of_le, add-one}
use Rattle.std.proofs.Math.Option.{Option, none}
use Prim.Native.Nat.{ℕ, zero, suc, ◌+◌, ◌-◌, ◌≤◌, ◌<◌}
use native.Mathlib.Omega.{arith}
use Rattle.std.proofs.Math.Nat.{sub-zero}
use Rattle.theory_exploration.specs.Search.{Found, push, sweep}
use Rattle.numbers.specs.Laws.Parts.{one_more_lem}
use Rattle.theory_model.specs.Verdict.{Pair}
use Rattle.theory_model.specs.Judge.{same}
use Rattle.checking_pairs.specs.declared.pairs.Walk.{Walk}
use Rattle.checking_pairs.specs.declared.pairs.Node.{Node}
use Rattle.tables.specs.Kinds.{reached_of}
use Rattle.checking_pairs.specs.Pairs.{pair_of, NodeFits}
use Rattle.checking_pairs.specs.Marks.{view, Tables, Shows, Pushed, Swept}
use Rattle.checking_pairs.specs.Laws.Marks.{pushed_more}
use Rattle.checking_pairs.specs.Over.{jump_over, go_over, read_from}
use Rattle.checking_walk.specs.Laws.Letters.{before_read, before_none, before_step, after_low, after_read, after_high}

-- A SWEEP IN THE CODE: the letters from m on are still to be followed
pub record Sweeping (δ : Pair → ℕ → Option Pair) (x : Pair) (h end m : ℕ) (seen queue : List ℕ) (tail : ℕ) (L : List (Found Pair)) : Type 0 where
  pub tables : Tables seen queue tail
  pub is : sweep δ same x h (end - m) m (view seen queue tail) ≡ L
  pub later : h < tail

pub sweeping_begin : {δ : Pair → ℕ → Option Pair} {x : Pair} {h end m : ℕ} {seen queue : List ℕ} {tail : ℕ} → Tables seen queue tail → h < tail
    → Sweeping δ x h end m seen queue tail (sweep δ same x h (end - m) m (view seen queue tail))
sweeping_begin T l = record { tables = T; is = refl; later = l }

pub sweeping_next : {δ : Pair → ℕ → Option Pair} {x : Pair} {h end m : ℕ} {seen queue seen' queue' : List ℕ} {tail r : ℕ} {L : List (Found Pair)}
    → Sweeping δ x h end m seen queue tail L → m < end → Pushed seen queue tail h (δ x m) seen' queue' r
    → Sweeping δ x h end (m + 1) seen' queue' r L
unfolding sweep
sweeping_next {δ} {x} {h} {end} {m} {seen} {queue} {tail = tail} s l p =
    record {
      tables = p.shows.tables;
      is =
          ap (sweep δ same x h (end - (m + 1)) (m + 1)) p.shows.is
          ∙ ap (λ n. sweep δ same x h (end - (m + 1)) n (push same h (δ x m) (view seen queue tail))) (add-one m)
          ∙ sym (ap (λ n. sweep δ same x h n m (view seen queue tail)) (one_more_lem l))
          ∙ s.is;
      later = omega (arith, s.later, pushed_more s.tables p);
    }

pub sweeping_end : {δ : Pair → ℕ → Option Pair} {x : Pair} {h end m : ℕ} {seen queue : List ℕ} {tail : ℕ} {L : List (Found Pair)}
    → Sweeping δ x h end m seen queue tail L → end ≤ m → Shows seen queue tail L
unfolding sweep
sweeping_end {δ} {x} {h} {end} {m} {seen} {queue} {tail} s l =
    record {
      tables = s.tables;
      is = sym (ap (λ n. sweep δ same x h n m (view seen queue tail)) (sub-eq-zero_of_le l)) ∙ s.is;
    }

-- A SWEEP IN PARTS
module _ (δ : Pair → ℕ → Option Pair) (x : Pair) (h : ℕ) where
  sweep_join : (a b m : ℕ) (L : List (Found Pair)) → sweep δ same x h (a + b) m L ≡ sweep δ same x h b (m + a) (sweep δ same x h a m L)
  unfolding sweep
  sweep_join zero b m L =
      ap (λ n. sweep δ same x h n m L) (let z : 0 + b ≡ b = omega arith in z)
      ∙ ap (λ n. sweep δ same x h b n L) (let z : m ≡ m + 0 = omega arith in z)
  sweep_join (suc a) b m L =
      ap (λ n. sweep δ same x h n m L) (let z : suc a + b ≡ suc (a + b) = omega arith in z)
      ∙ sweep_join a b (suc m) (push same h (δ x m) L)
      ∙ ap (λ n. sweep δ same x h b n (sweep δ same x h a (suc m) (push same h (δ x m) L))) (let z : suc m + a ≡ m + suc a = omega arith in z)

  -- letters that lead nowhere
  sweep_nothing : (left m : ℕ) (L : List (Found Pair)) → ((j : ℕ) → m ≤ j → j < m + left → δ x j ≡ none) → sweep δ same x h left m L ≡ L
  unfolding sweep
  sweep_nothing zero m L e = refl
  sweep_nothing (suc left) m L e =
      ap (λ o. sweep δ same x h left (suc m) (push same h o L)) (e m (omega arith) (omega arith))
      ∙ sweep_nothing left (suc m) L (λ j a b. e j (omega arith) (omega arith))

  sweep_one : (m : ℕ) (L : List (Found Pair)) → sweep δ same x h 1 m L ≡ push same h (δ x m) L
  unfolding sweep
  sweep_one m L = refl

  -- a sweep looks only at its own letters
  sweep_same : (δ' : Pair → ℕ → Option Pair) (left m : ℕ) (L : List (Found Pair)) → ((j : ℕ) → m ≤ j → j < m + left → δ x j ≡ δ' x j)
      → sweep δ same x h left m L ≡ sweep δ' same x h left m L
  unfolding sweep
  sweep_same δ' zero m L e = refl
  sweep_same δ' (suc left) m L e =
      ap (λ o. sweep δ same x h left (suc m) (push same h o L)) (e m (omega arith) (omega arith))
      ∙ sweep_same δ' left (suc m) (push same h (δ' x m) L) (λ j a b. e j (omega arith) (omega arith))

-- WHAT A NODE LEADS TO, as the code follows it
module _ (arcs rows : List ℕ) (w : Walk) (x : Node) (cut : w.cut ≤ w.sum) where
  abbrev δ : Pair → ℕ → Option Pair
  δ = go_over arcs rows w

  abbrev jump : Option Pair
  jump = jump_over arcs rows w x.source.0 (reached_of x.target.0)

  parts : suc w.sum ≡ w.cut + (w.sum - w.cut + 1)
  parts = omega arith

  -- before: the messages below the cut, then the step
  node_before : (h : ℕ) (L : List (Found Pair)) → x.side ≡ 0 → sweep δ same (pair_of x) h (suc w.sum) 0 L
      ≡ push same h jump (sweep (read_from arcs w.entry x) same (pair_of x) h (w.cut - 0) 0 L)
  node_before h L near =
      let y = pair_of x in
      let b = w.sum - w.cut in
      let L₁ = sweep δ same y h w.cut 0 L in
      ap (λ n. sweep δ same y h n 0 L) parts
      ∙ sweep_join δ y h w.cut (b + 1) 0 L
      ∙ sweep_join δ y h b 1 (0 + w.cut) L₁
      ∙ ap (sweep δ same y h 1 (0 + w.cut + b)) (sweep_nothing δ y h b (0 + w.cut) L₁ (λ j p q. before_none arcs rows w x j near (omega arith) (omega arith)))
      ∙ ap (λ n. sweep δ same y h 1 n L₁) (let z : 0 + w.cut + b ≡ w.sum = omega arith in z)
      ∙ sweep_one δ y h w.sum L₁
      ∙ ap (λ o. push same h o L₁) (before_step arcs rows w x w.sum near cut refl)
      ∙ ap (push same h jump) (sweep_same δ y h (read_from arcs w.entry x) w.cut 0 L (λ j p q. before_read arcs rows w x j near (omega arith)))
      ∙ ap (λ n. push same h jump (sweep (read_from arcs w.entry x) same y h n 0 L)) (sym (sub-zero w.cut))

  -- after: the messages from the cut on
  node_after : (h : ℕ) (L : List (Found Pair)) → NodeFits x → (x.side ≡ 0 → ⊥) → sweep δ same (pair_of x) h (suc w.sum) 0 L
      ≡ sweep (read_from arcs w.entry x) same (pair_of x) h (w.sum - w.cut) w.cut L
  node_after h L fits far =
      let y = pair_of x in
      let b = w.sum - w.cut in
      let at_end : w.cut + b ≡ w.sum = omega arith in
      ap (λ n. sweep δ same y h n 0 L) parts
      ∙ sweep_join δ y h w.cut (b + 1) 0 L
      ∙ ap (sweep δ same y h (b + 1) (0 + w.cut)) (sweep_nothing δ y h w.cut 0 L (λ j p q. after_low arcs rows w x j fits far (omega arith)))
      ∙ ap (λ n. sweep δ same y h (b + 1) n L) (let z : 0 + w.cut ≡ w.cut = omega arith in z)
      ∙ sweep_join δ y h b 1 w.cut L
      ∙ sweep_one δ y h (w.cut + b) (sweep δ same y h b w.cut L)
      ∙ ap (λ o. push same h o (sweep δ same y h b w.cut L)) (after_high arcs rows w x (w.cut + b) fits far (omega arith) (omega arith))
      ∙ sweep_same δ y h (read_from arcs w.entry x) b w.cut L (λ j p q. after_read arcs rows w x j fits far p (omega arith))

  pub visit_before : {seen queue seen₁ queue₁ seen₂ queue₂ : List ℕ} {tail tail₁ tail₂ h : ℕ} → x.side ≡ 0
      → Swept seen queue tail (read_from arcs w.entry x) (pair_of x) h (w.cut - 0) 0 seen₁ queue₁ tail₁
      → Pushed seen₁ queue₁ tail₁ h (jump_over arcs rows w x.source.0 (reached_of x.target.0)) seen₂ queue₂ tail₂
      → Swept seen queue tail (go_over arcs rows w) (pair_of x) h (suc w.sum) 0 seen₂ queue₂ tail₂
  visit_before {seen} {queue} {tail = tail} {h = h} e s p =
      let both = ap (push same h (jump_over arcs rows w x.source.0 (reached_of x.target.0))) s.shows.is in
      record {
        shows = record { tables = p.shows.tables; is = p.shows.is ∙ both ∙ sym (node_before h (view seen queue tail) e) };
      }

  pub visit_after : {seen queue seen₁ queue₁ : List ℕ} {tail tail₁ h : ℕ} → NodeFits x → (x.side ≡ 0 → ⊥)
      → Swept seen queue tail (read_from arcs w.entry x) (pair_of x) h (w.sum - w.cut) w.cut seen₁ queue₁ tail₁
      → Swept seen queue tail (go_over arcs rows w) (pair_of x) h (suc w.sum) 0 seen₁ queue₁ tail₁
  visit_after {seen} {queue} {tail = tail} {h = h} fits far s =
      record { shows = record { tables = s.shows.tables; is = s.shows.is ∙ sym (node_after h (view seen queue tail) fits far) } }

-- the same pair by another name
pub swept_as : {seen queue seen' queue' : List ℕ} {tail h left m r : ℕ} {δ : Pair → ℕ → Option Pair} {x y : Pair} → x ≡ y
    → Swept seen queue tail δ x h left m seen' queue' r → Swept seen queue tail δ y h left m seen' queue' r
swept_as {seen} {queue} {seen'} {queue'} {tail} {h} {left} {m} {r} {δ} e s =
    subst (λ x. Swept seen queue tail δ x h left m seen' queue' r) e s
