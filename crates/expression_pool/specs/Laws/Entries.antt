-- Tables that are filled entry by entry: one entry more, one row more, and what an entry then holds.
use Rattle.std.specs.Prelude.{◌≡◌, Bool, true, false, cond, List, [], ◌∷◌, eqb, position, Option, length, set}
use Rattle.expression_states.specs.States.{said_place}
use Rattle.expression_states.specs.Laws.Places.{place_is}
use Rattle.std.proofs.lemmas.List.{get_or_default}
use Rattle.std.proofs.Math.Path.{refl, ap, ap₂}
use Rattle.std.proofs.Common.{sym, ◌∙◌, add-zero, zero-add}
use Prim.Native.Nat.{ℕ, zero, suc, ◌+◌, ◌-◌, ◌*◌, ◌/◌, ◌%◌, ◌≤◌, ◌<◌}
use borrow.Author.Tests.{ne_eqb, eqb-true, eqb-false}
use native.Mathlib.Omega.{arith}
use Rattle.std.proofs.Math.Nat.{add-sub_cancel_left}
use Rattle.std.proofs.Math.ListN.{get_or, length-set}
use Rattle.std.proofs.Math.Seq.{get_or-set_same, get_or-set_other}
use Rattle.std.specs.Int.Bits.{bit_and}
use Rattle.tables.specs.Limits.{most_messages}
use Rattle.theory_model.specs.Laws.Basics.{by_test}
use Rattle.theory_occurrences.specs.Sets.{meet, marked}
use Rattle.expression_states.specs.States.{next_of, place_from}
use Rattle.expression_sets.specs.Marks.{Marks}
use Rattle.expression_pool.specs.Filled.{entries_from, arc_to, row_entry, arc_entry, final_mark}
use Rattle.expression_pool.specs.Fills.{FillsRow}

module _ (f : ℕ → ℕ) where
  -- so many, and then so many more
  pub entries_more : (a b i : ℕ) (T : List ℕ) → entries_from f (a + b) i T ≡ entries_from f b (i + a) (entries_from f a i T)
  unfolding entries_from
  entries_more zero b i T = ap₂ (λ n j. entries_from f n j T) (zero-add b) (sym (add-zero i))
  entries_more (suc a) b i T =
      let n : suc a + b ≡ suc (a + b) = omega arith in
      let j : i + 1 + a ≡ i + suc a = omega arith in
      ap (λ k. entries_from f k i T) n ∙ entries_more a b (i + 1) (set T i (f i))
      ∙ ap (λ k. entries_from f b k (entries_from f a (i + 1) (set T i (f i)))) j

  pub entries_one : (a i : ℕ) (T : List ℕ) → entries_from f (a + 1) i T ≡ set (entries_from f a i T) (i + a) (f (i + a))
  unfolding entries_from
  entries_one a i T = entries_more a 1 i T

  pub entries_long : (left i : ℕ) (T : List ℕ) → length (entries_from f left i T) ≡ length T
  unfolding entries_from
  entries_long zero i T = refl
  entries_long (suc left) i T = entries_long left (i + 1) (set T i (f i)) ∙ length-set T i (f i)

  -- an entry before them, one of them, one behind them
  pub entries_before : (left i k : ℕ) (T : List ℕ) → k < i → get_or (entries_from f left i T) k 0 ≡ get_or T k 0
  unfolding entries_from
  entries_before zero i k T h = refl
  entries_before (suc left) i k T h =
      entries_before left (i + 1) k (set T i (f i)) (omega arith) ∙ get_or-set_other T i k (f i) 0 (λ e. omega arith)

  pub entries_at : (left i k : ℕ) (T : List ℕ) → i ≤ k → k < i + left → k < length T → get_or (entries_from f left i T) k 0 ≡ f k
  unfolding entries_from
  entries_at zero i k T a b h = absurd (omega arith)
  entries_at (suc left) i k T a b h =
      by_test (eqb k i)
      (λ t.
      let e : k ≡ i = eqb-true k i t in
      ap (λ j. get_or (entries_from f left (i + 1) (set T i (f i))) j 0) e
      ∙ entries_before left (i + 1) i (set T i (f i)) (omega arith)
      ∙ get_or-set_same T i (f i) 0 (omega arith)
      ∙ ap f (sym e))
      (λ t.
      let e : k ≡ i → ⊥ = eqb-false k i t in
      entries_at left (i + 1) k (set T i (f i)) (omega (arith, e)) (omega arith) (omega (arith, length-set T i (f i))))

  pub entries_beyond : (left i k : ℕ) (T : List ℕ) → i + left ≤ k → get_or (entries_from f left i T) k 0 ≡ get_or T k 0
  unfolding entries_from
  entries_beyond zero i k T h = refl
  entries_beyond (suc left) i k T h =
      entries_beyond left (i + 1) k (set T i (f i)) (omega arith) ∙ get_or-set_other T i k (f i) 0 (λ e. omega arith)

-- the same entries by another function
pub entries_same : (f g : ℕ → ℕ) (left i : ℕ) (T : List ℕ) → ((k : ℕ) → i ≤ k → k < i + left → f k ≡ g k)
    → entries_from f left i T ≡ entries_from g left i T
unfolding entries_from
entries_same f g zero i T e = refl
entries_same f g (suc left) i T e =
    ap (λ v. entries_from f left (i + 1) (set T i v)) (e i (omega arith) (omega arith))
    ∙ entries_same f g left (i + 1) (set T i (g i)) (λ k l h. e k (omega arith) (omega arith))

-- AN ARC, by the place that an iterator finds
module _ (N : List ℕ) {x : ℕ} where
  pub arc_set : {o : Option ℕ} → (x ≡ 0 → ⊥) → o ≡ position (λ y. eqb y x) N → said_place o ≡ arc_to N x
  arc_set e p = ap said_place p ∙ place_is N x ∙ rw (ne_eqb x 0 e)

pub place_most : (N : List ℕ) (i y : ℕ) → place_from i N y ≤ i + length N
place_most [] i y = omega arith
place_most (x ∷ N) i y = by (eqb x y) (place_most N (i + 1) y)
  where
    by : (b : Bool) → place_from (i + 1) N y ≤ i + 1 + length N → cond b (i + 1) (place_from (i + 1) N y) ≤ i + suc (length N)
    by true h = omega arith
    by false h = omega arith

-- ONE ARC MORE of a row
pub record RowFilled (N : List ℕ) (z : ℕ) (M : List ℕ) (row : ℕ) (T arcs : List ℕ) (m : ℕ) : Type 0 where
  pub is : (L : List ℕ) → Marks L M → arcs ≡ entries_from (row_entry N z L row) m row T

pub row_begin : (N : List ℕ) (z : ℕ) (M : List ℕ) (row : ℕ) (T : List ℕ) → RowFilled N z M row T T 0
unfolding entries_from
row_begin N z M row T = record { is = λ L k. refl }

pub row_next : {N M T arcs : List ℕ} {z row m v : ℕ} → RowFilled N z M row T arcs m → m < most_messages → v ≡ arc_to N (bit_and z (get_or M m 0))
    → RowFilled N z M row T (set arcs (row + m) v) (m + 1)
unfolding meet
row_next {N} {M} {T} {arcs} {z} {row} {m} {v} w l h =
    record {
      is =
          λ L k.
          let d : row + m - row ≡ m = add-sub_cancel_left row m in
          let here : v ≡ row_entry N z L row (row + m) =
          h ∙ ap (λ u. arc_to N (bit_and z u)) (k.each m l) ∙ ap (λ j. arc_to N (bit_and z (marked j L))) (sym d) in
          ap₂ (λ a u. set a (row + m) u) (w.is L k) here ∙ sym (entries_one (row_entry N z L row) m row T);
    }

-- the entry is read where there is one, so it is the same by any default
pub row_entry_next : (d : ℕ) {N M T arcs : List ℕ} {z row m v x : ℕ} → RowFilled N z M row T arcs m → length M ≡ most_messages → m < most_messages
    → x ≡ meet z (get_or M m d) → v ≡ arc_to N x → RowFilled N z M row T (set arcs (row + m) v) (m + 1)
unfolding meet
row_entry_next d {N} {M} {z = z} {m = m} w long l f g =
    row_next w l (g ∙ ap (arc_to N) (f ∙ ap (bit_and z) (get_or_default M m d 0 (omega (arith, long, l)))))

-- ONE ROW MORE: the rows of the states before i
pub record ArcsFilled (N : List ℕ) (first : ℕ) (F M T arcs : List ℕ) (i : ℕ) : Type 0 where
  pub is : (L : List ℕ) → Marks L M → arcs ≡ entries_from (arc_entry N first F L) (i * most_messages) 0 T

pub arcs_begin : (N : List ℕ) (first : ℕ) (F M T : List ℕ) → ArcsFilled N first F M T T 0
unfolding entries_from
arcs_begin N first F M T = record { is = λ L k. refl }

-- by the labels
row_more : (N F L T : List ℕ) {arcs arcs' : List ℕ} (first z i row : ℕ) → arcs ≡ entries_from (arc_entry N first F L) (i * most_messages) 0 T
    → z ≡ next_of first F (get_or N i 0) → row ≡ i * most_messages → arcs' ≡ entries_from (row_entry N z L row) most_messages row arcs
    → arcs' ≡ entries_from (arc_entry N first F L) ((i + 1) * most_messages) 0 T
row_more N F L T first z i row w e r h =
    let n : (i + 1) * most_messages ≡ i * most_messages + most_messages = omega arith in
    let before : List ℕ = entries_from (arc_entry N first F L) (i * most_messages) 0 T in
    h ∙ ap (entries_from (row_entry N z L row) most_messages row) w
    ∙ entries_same (row_entry N z L row) (arc_entry N first F L) most_messages row before same
    ∙ ap (λ k. entries_from (arc_entry N first F L) most_messages k before) (r ∙ sym (zero-add (i * most_messages)))
    ∙ sym (entries_more (arc_entry N first F L) (i * most_messages) most_messages 0 T)
    ∙ ap (λ k. entries_from (arc_entry N first F L) k 0 T) (sym n)
  where
    same : (k : ℕ) → row ≤ k → k < row + most_messages → row_entry N z L row k ≡ arc_entry N first F L k
    same k a b =
        let q : i ≡ k / most_messages = omega (arith, r) in
        let d : k - row ≡ k % most_messages = omega (arith, r) in
        ap (λ u. arc_to N (meet u (marked (k - row) L))) (e ∙ ap (λ j. next_of first F (get_or N j 0)) q)
        ∙ ap (λ m. arc_to N (meet (next_of first F (get_or N (k / most_messages) 0)) (marked m L))) d

pub arcs_next : {N F M T arcs arcs' : List ℕ} {first z i row : ℕ} → ArcsFilled N first F M T arcs i → z ≡ next_of first F (get_or N i 0)
    → row ≡ i * most_messages → FillsRow N z M row arcs arcs' → ArcsFilled N first F M T arcs' (i + 1)
arcs_next {N} {F} {M} {T} {arcs} {arcs'} {first} {z} {i} {row} w e r h =
    record { is = λ L k. row_more N F L T first z i row (w.is L k) e r (h.fills L k) }

-- by any default, where there is such a state
pub arcs_entry_next : (d : ℕ) {N F M T arcs arcs' : List ℕ} {first z i row : ℕ} → ArcsFilled N first F M T arcs i → i < length N
    → z ≡ next_of first F (get_or N i d) → row ≡ i * most_messages → FillsRow N z M row arcs arcs' → ArcsFilled N first F M T arcs' (i + 1)
arcs_entry_next d {N} {F} {first = first} {i = i} w l e r h =
    arcs_next w (e ∙ ap (next_of first F) (get_or_default N i d 0 l)) r h

-- FINAL MARKS: one mark more
pub record FinalsFilled (skips : Bool) (last : ℕ) (N T finals : List ℕ) (i : ℕ) : Type 0 where
  pub is : finals ≡ entries_from (λ k. final_mark skips last (get_or N k 0)) i 0 T

pub finals_begin : (skips : Bool) (last : ℕ) (N T : List ℕ) → FinalsFilled skips last N T T 0
unfolding entries_from
finals_begin skips last N T = record { is = refl }

pub finals_next : {skips : Bool} {last : ℕ} {N T finals : List ℕ} {i v : ℕ} → FinalsFilled skips last N T finals i
    → v ≡ final_mark skips last (get_or N i 0) → FinalsFilled skips last N T (set finals i v) (i + 1)
finals_next {skips} {last} {N} {T} {finals} {i} {v} w e =
    let f : ℕ → ℕ = λ k. final_mark skips last (get_or N k 0) in
    record {
      is =
          ap₂ (λ a u. set a i u) w.is e ∙ ap (λ k. set (entries_from f i 0 T) k (f k)) (sym (zero-add i)) ∙ sym (entries_one f i 0 T);
    }

-- by any default, where there is such a state
pub finals_entry_next : (d : ℕ) {skips : Bool} {last : ℕ} {N T finals : List ℕ} {i v : ℕ} → FinalsFilled skips last N T finals i → i < length N
    → v ≡ final_mark skips last (get_or N i d) → FinalsFilled skips last N T (set finals i v) (i + 1)
finals_entry_next d {skips} {last} {N} {i = i} w l e =
    finals_next w (e ∙ ap (final_mark skips last) (get_or_default N i d 0 l))
