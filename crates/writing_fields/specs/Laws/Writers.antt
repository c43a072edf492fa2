-- The laws of `Put` for a writer, and the one loop that puts part after part.
use Rattle.std.specs.Prelude.{ℕ, ◌+◌, ◌-◌, ◌*◌, ◌≤◌, ◌<◌, ◌≡◌, List, [], ◌∷◌, ◌++◌, length, get_or}
use Rattle.std.proofs.Common.{sym, ap, subst, ◌∙◌, arith, sub-eq-zero_of_le, mul-suc, mul-zero}
use Rattle.numbers.specs.Laws.Parts.{one_more_lem}
use Rattle.numbers.specs.Laws.Put.{Left, put_then}
use Rattle.theory_format.specs.Spelled.{number, each, arcs_of, arcs}
use Rattle.writing_fields.specs.Writer.{Puts}
use Rattle.writing_fields.specs.Laws.Texts.{put_as, put_wider}
use Rattle.writing_fields.specs.Parts.{arcs_in}
use Rattle.writing_fields.specs.Laws.Arcs.{left_skip, left_arc, left_arcs_end}
use Rattle.writing_fields.specs.Laws.Numbers.{put_one, put_two}
use Rattle.writing_fields.specs.Laws.Loops.{left_part, left_parts}
use Rattle.writing_fields.specs.declared.writer.Writer.{Writer}

-- ONE AFTER THE OTHER
pub puts_then : {w x y : Writer} {u v : List ℕ} {m k most : ℕ} → Puts w m u x → Puts x k v y → m + k ≤ most → Puts w most (u ++ v) y
puts_then a b h = record { put = put_then a.put b.put h; same = b.same ∙ a.same }

-- a looser bound
pub puts_wider : {w x : Writer} {u : List ℕ} {m : ℕ} (most : ℕ) → Puts w m u x → m ≤ most → Puts w most u x
puts_wider most a h = record { put = put_wider most a.put h; same = a.same }

-- the text by another name
pub puts_as : {w x : Writer} {u v : List ℕ} {m : ℕ} → u ≡ v → Puts w m u x → Puts w m v x
puts_as e a = record { put = put_as e a.put; same = a.same }

-- a number that was looked up
pub puts_found : {w x : Writer} {m v n : ℕ} → v ≡ n → Puts w m (number v) x → Puts w m (number n) x
puts_found e a = puts_as (ap number e) a

-- a number of one byte, and of two
pub puts_one : {w x : Writer} {v : ℕ} → v < 128 → Puts w 1 (v ∷ []) x → Puts w 2 (number v) x
puts_one h a = record { put = put_one h a.put; same = a.same }

pub puts_two : {w x y : Writer} {v : ℕ} → 128 ≤ v → v < 256 → Puts w 1 (v ∷ []) x → Puts x 1 (1 ∷ []) y → Puts w 2 (number v) y
puts_two h g a b = record { put = put_two h g a.put b.put; same = b.same ∙ a.same }

-- UNDERWAY: to put the rest is to put the whole text
pub record Goes (w : Writer) (text : List ℕ) (x : Writer) (rest : List ℕ) : Type 0 where
  pub left : Left w.bytes.now w.place text x.bytes.now x.place rest
  pub same : x.bytes.ghost_name ≡ w.bytes.ghost_name

-- UNDERWAY, arc after arc: those of a row from message m on are left
abbrev pub ArcsLeft : List ℕ → Writer → ℕ → Writer → Type 0
ArcsLeft row w m x =
    Goes w (arcs (arcs_in row)) x (arcs (arcs_of row 0 (length row - m) m))
    × (x.place + 4 * (length row - m) ≤ w.place + 4 * length row)

module _ (row : List ℕ) (m : ℕ) {v : ℕ} (found : v ≡ get_or row m 0) (more : m < length row) {w x : Writer} where
  pub arcs_skip : {y : Writer} → ArcsLeft row w m x → v ≡ 0 → y ≡ x → ArcsLeft row w (m + 1) y
  arcs_skip (g, room) z e =
      subst (λ (u : Writer). ArcsLeft row w (m + 1) u) (sym e)
      (record { left = left_skip row m found more g.left z; same = g.same }, omega (arith, room))

  pub arcs_on : {y z : Writer} → ArcsLeft row w m x → (v ≡ 0 → ⊥) → Puts x 4 (number m ++ number (v - 1)) y → z ≡ y
      → ArcsLeft row w (m + 1) z
  arcs_on (g, room) ne p e =
      subst (λ (u : Writer). ArcsLeft row w (m + 1) u) (sym e)
      (record { left = left_arc row m found more g.left ne p.put; same = p.same ∙ g.same }, omega (arith, room, p.put.within))

pub arcs_done : (row : List ℕ) (m : ℕ) {w x : Writer} → length row ≤ m → ArcsLeft row w m x → length row < 256
    → Puts w 1020 (arcs (arcs_in row)) x
arcs_done row m none (g, room) few = record { put = left_arcs_end row m none 1020 g.left (omega (arith, room)); same = g.same }

-- UNDERWAY, part after part: of n parts from part `from` on, which end before part `end`, those before part i are put
pub record Going (part : ℕ → List ℕ) (from n end : ℕ) (w : Writer) (i : ℕ) (x : Writer) : Type 0 where
  pub left : Left w.bytes.now w.place (each part n from) x.bytes.now x.place (each part (end - i) i)
  pub same : x.bytes.ghost_name ≡ w.bytes.ghost_name

-- and there is room for those that are left, of so many bytes each
abbrev pub Rounds : (ℕ → List ℕ) → ℕ → ℕ → ℕ → ℕ → Writer → ℕ → Writer → Type 0
Rounds part most from n end w i x = Going part from n end w i x × (x.place + most * (end - i) ≤ w.place + most * n)

module _ (part : ℕ → List ℕ) (most : ℕ) {from n end : ℕ} {w x : Writer} {i : ℕ} where
  pub rounds_on : {y : Writer} → i < end → Rounds part most from n end w i x → Puts x most (part i) y → Rounds part most from n end w (i + 1) y
  rounds_on {y} h (g, room) p =
      let more : most * (end - i) ≡ most * (end - (i + 1)) + most = ap (λ (k : ℕ). most * k) (one_more_lem h) ∙ mul-suc most (end - (i + 1)) in
      (record { left = left_part part end i h g.left p.put; same = p.same ∙ g.same }, omega (arith, more, room, p.put.within))

  pub rounds_end : end ≤ i → Rounds part most from n end w i x → Puts w (most * n) (each part n from) x
  rounds_end h (g, room) =
      let none : most * (end - i) ≡ 0 = ap (λ (k : ℕ). most * k) (sub-eq-zero_of_le h) ∙ mul-zero most in
      record { put = left_parts part end i (most * n) h g.left (omega (arith, none, room)); same = g.same }
