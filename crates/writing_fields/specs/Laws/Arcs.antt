-- The arcs of a state: a row of the dense table, and message after message what stands in it.
use Rattle.std.specs.Prelude.{ℕ, zero, suc, ◌+◌, ◌-◌, ◌*◌, ◌≤◌, ◌<◌, ◌≡◌, refl, Bool, cond, length, get_or, take, drop, eqb}
use Rattle.std.proofs.Common.{sym, ap₂, subst, ◌∙◌, length-take, length-drop, drop_of_length-le, take_all, get_or-take, get_or-drop, arith, zero-add, suc-add, add-zero, sub-eq-zero_of_le, eq-eqb, ne_eqb, eqb-true}
use Rattle.std.proofs.Math.Path.{ap}
use mathlib.Core.List.{List, [], ◌∷◌, ◌++◌, append_assoc}
use Rattle.std.proofs.Math.Option.{Option, none, some}
use Rattle.std.proofs.Math.ListN.{get_or-eq_default}
use Rattle.std.proofs.Math.Seq.{take-nil}
use Rattle.std.proofs.Math.Nat.{min-le_left}
use Rattle.std.proofs.lemmas.Bool.{eqb-false}
use Rattle.tables.specs.Limits.{most_messages}
use Rattle.tables.specs.Pool.{arc_at}
use Rattle.theory_model.specs.Laws.Basics.{by_test}
use Rattle.numbers.specs.Put.{Put}
use Rattle.numbers.specs.Laws.Parts.{one_more_lem}
use Rattle.numbers.specs.Laws.Put.{Left, left_put, left_end}
use Rattle.theory_format.specs.Spelled.{number, arcs_of, arcs}
use Rattle.writing_fields.specs.Parts.{row_of, arcs_in}

-- A ROW, as it is cut out of a table that ends before it, within it, or after it
module _ (table : List ℕ) (from n : ℕ) where
  pub cut_before : length table ≤ from → [] ≡ take n (drop from table)
  cut_before h = sym (ap (take n) (drop_of_length-le table h) ∙ take-nil n)

  pub cut_within : length table - from ≤ n → take (length table - from) (drop from table) ≡ take n (drop from table)
  cut_within h =
      let long = length-drop from table in
      take_all (length table - from) (drop from table) (omega (arith, long)) ∙ sym (take_all n (drop from table) (omega (arith, long)))

  pub cut_after : take (from + n - from) (drop from table) ≡ take n (drop from table)
  cut_after = let same : from + n - from ≡ n = omega arith in ap (λ (k : ℕ). take k (drop from table)) same

-- a row has no more entries than there are messages
pub row_most : (table : List ℕ) (i sum : ℕ) → length (row_of table i sum) ≤ sum
row_most table i sum = subst (λ (k : ℕ). k ≤ sum) (sym (length-take sum (drop (i * most_messages) table))) (min-le_left sum (length (drop (i * most_messages) table)))

-- what an entry says, and the arcs with what it says before them
abbrev arc_by : ℕ → Option ℕ
arc_by v = cond (eqb v 0) none (some (v - 1))

abbrev before : ℕ → List (ℕ × ℕ) → Option ℕ → List (ℕ × ℕ)
before m l o = elim o [ none ↦ l | some t ↦ (m, t) ∷ l ]

-- TABLES THAT AGREE on a row have the same arcs there
arcs_agree : (t u : List ℕ) (i j left m : ℕ)
    → ((k : ℕ) → k < m + left → get_or t (i * most_messages + k) 0 ≡ get_or u (j * most_messages + k) 0) → arcs_of t i left m ≡ arcs_of u j left m
unfolding arcs_of
arcs_agree t u i j zero m h = refl
arcs_agree t u i j (suc left) m h =
    ap₂ (before m) (arcs_agree t u i j left (m + 1) (λ k g. h k (omega arith))) (ap arc_by (h m (omega arith)))

-- and where a row ends, no arc follows
arcs_past : (t : List ℕ) (left m : ℕ) → length t ≤ m → arcs_of t 0 left m ≡ []
unfolding arcs_of
arcs_past t zero m h = refl
arcs_past t (suc left) m h =
    ap₂ (before m) (arcs_past t left (m + 1) (omega arith)) (ap arc_by (get_or-eq_default t 0 (omega arith)))

arcs_cut : (t : List ℕ) (left more m : ℕ) → length t ≤ m + left → arcs_of t 0 (left + more) m ≡ arcs_of t 0 left m
unfolding arcs_of
arcs_cut t zero more m h = ap (λ (k : ℕ). arcs_of t 0 k m) (zero-add more) ∙ arcs_past t more m (omega arith)
arcs_cut t (suc left) more m h =
    ap (λ (k : ℕ). arcs_of t 0 k m) (suc-add left more)
    ∙ ap (λ (l : List (ℕ × ℕ)). before m l (arc_at t 0 m)) (arcs_cut t left more (m + 1) (omega arith))

-- THE ARCS OF A ROW are those of the state that it was cut out for
pub row_arcs : (table : List ℕ) (i sum : ℕ) → arcs_in (row_of table i sum) ≡ arcs_of table i sum 0
row_arcs table i sum =
    let row = row_of table i sum in
    let most : length row ≤ sum = row_most table i sum in
    let all : sum ≡ length row + (sum - length row) = omega arith in
    sym (ap (λ (n : ℕ). arcs_of row 0 n 0) all ∙ arcs_cut row (length row) (sum - length row) 0 (omega arith))
    ∙ arcs_agree row table 0 i sum 0
    (λ k h.
    ap (λ (j : ℕ). get_or row j 0) (zero-add k) ∙ get_or-take sum (drop (i * most_messages) table) k 0 (omega arith)
    ∙ get_or-drop (i * most_messages) table k 0)

-- ITS ARCS, message after message: the entry for message m is v, and `rest` are the arcs for the messages after m
module _ (row : List ℕ) (m : ℕ) {v : ℕ} (found : v ≡ get_or row m 0) (more : m < length row) where
  abbrev rest : List (ℕ × ℕ)
  rest = arcs_of row 0 (length row - (m + 1)) (m + 1)

  looked_up : arc_at row 0 m ≡ arc_by v
  looked_up = ap arc_by (ap (λ (k : ℕ). get_or row k 0) (zero-add m) ∙ sym found)

  arcs_as : (o : Option ℕ) → arc_by v ≡ o → arcs_of row 0 (length row - m) m ≡ before m rest o
  unfolding arcs_of
  arcs_as o e = ap (λ (k : ℕ). arcs_of row 0 k m) (one_more_lem more) ∙ ap (before m rest) (looked_up ∙ e)

  arcs_skip : v ≡ 0 → arcs_of row 0 (length row - m) m ≡ rest
  arcs_skip z = arcs_as none (ap (λ (b : Bool). cond b none (some (v - 1))) (eq-eqb v 0 z))

  arcs_take : (v ≡ 0 → ⊥) → arcs_of row 0 (length row - m) m ≡ (m, v - 1) ∷ rest
  arcs_take ne = arcs_as (some (v - 1)) (ap (λ (b : Bool). cond b none (some (v - 1))) (ne_eqb v 0 ne))

  -- counting them
  pub count_next : (count : ℕ) {next whole : ℕ} → count + length {A = ℕ × ℕ} (arcs_of row 0 (length row - m) m) ≡ whole
      → next ≡ cond (eqb v 0) count (count + 1) → next + length rest ≡ whole
  count_next count {next} {whole} e f =
      by_test (eqb v 0)
      (λ t.
      let same : next ≡ count = f ∙ ap (λ (b : Bool). cond b count (count + 1)) t in
      omega (arith, e, ap (λ (l : List (ℕ × ℕ)). length l) (arcs_skip (eqb-true v 0 t))))
      (λ t.
      let same : next ≡ count + 1 = f ∙ ap (λ (b : Bool). cond b count (count + 1)) t in
      omega (arith, e, ap (λ (l : List (ℕ × ℕ)). length l) (arcs_take (eqb-false v 0 t))))

  -- putting them
  module _ {entry text now : List ℕ} {at p : ℕ} (left : Left entry at text now p (arcs (arcs_of row 0 (length row - m) m))) where
    pub left_skip : v ≡ 0 → Left entry at text now p (arcs rest)
    left_skip z = subst (λ (l : List (ℕ × ℕ)). Left entry at text now p (arcs l)) (arcs_skip z) left

    pub left_arc : {after : List ℕ} {q : ℕ} → (v ≡ 0 → ⊥) → Put now p 4 (number m ++ number (v - 1)) after q
        → Left entry at text after q (arcs rest)
    unfolding arcs
    left_arc ne w =
        left_put (number m ++ number (v - 1)) (arcs rest)
        (subst (Left entry at text now p) (sym (append_assoc (number m) (number (v - 1)) (arcs rest)))
        (subst (λ (l : List (ℕ × ℕ)). Left entry at text now p (arcs l)) (arcs_take ne) left)) w

-- there are no more arcs than messages looked at
pub count_within : (v count : ℕ) {next m : ℕ} → count ≤ m → next ≡ cond (eqb v 0) count (count + 1) → next ≤ m + 1
count_within v count {next} {m} h f =
    by_test (eqb v 0)
    (λ t. let same : next ≡ count = f ∙ ap (λ (b : Bool). cond b count (count + 1)) t in omega arith)
    (λ t. let same : next ≡ count + 1 = f ∙ ap (λ (b : Bool). cond b count (count + 1)) t in omega arith)

-- when no message is left
module _ (row : List ℕ) (m : ℕ) (none : length row ≤ m) where
  arcs_end : arcs_of row 0 (length row - m) m ≡ []
  unfolding arcs_of
  arcs_end = rw (sub-eq-zero_of_le none)

  pub count_end : (count : ℕ) {whole : ℕ} → count + length {A = ℕ × ℕ} (arcs_of row 0 (length row - m) m) ≡ whole → count ≡ whole
  count_end count e = sym (add-zero count) ∙ ap (λ (l : List (ℕ × ℕ)). count + length l) (sym arcs_end) ∙ e

  pub left_arcs_end : {entry text now : List ℕ} {at p : ℕ} (most : ℕ) → Left entry at text now p (arcs (arcs_of row 0 (length row - m) m))
      → p ≤ at + most → Put entry at most text now p
  unfolding arcs
  left_arcs_end {entry} {text} {now} {at} {p} most l =
      left_end most (subst (λ (a : List (ℕ × ℕ)). Left entry at text now p (arcs a)) arcs_end l)
