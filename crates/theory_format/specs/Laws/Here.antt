-- The bytes that stand at a place of a file.
use Rattle.std.specs.Prelude.{ℕ, ◌+◌, ◌<◌, ◌≡◌, refl, List, [], ◌++◌, length, get_or, drop}
use Rattle.std.proofs.Common.{sym, ap, ◌∙◌, append_assoc, append-nil, length-append, length-drop, drop-drop, get_or-drop, add-zero, zero-add, arith}
use Rattle.std.proofs.Math.ListN.{get_or-append}
use Rattle.std.proofs.Math.Seq.{drop-length, drop-append_seam}

-- the bytes w stand at place at, up to place next
pub record Here (s : List ℕ) (at : ℕ) (w : List ℕ) (next : ℕ) : Type 0 where
  pub place : next ≡ at + length w
  pub bytes : drop at s ≡ w ++ drop next s

pub here_none : (s : List ℕ) (at : ℕ) → Here s at [] at
here_none s at = record { place = sym (add-zero at); bytes = refl }

pub here_then : {s w u : List ℕ} {at p next : ℕ} → Here s at w p → Here s p u next → Here s at (w ++ u) next
here_then {s} {w} {u} {at} {p} {next} a b =
    record {
      place = omega (arith, length-append w u, a.place, b.place);
      bytes = a.bytes ∙ ap (λ l. w ++ l) b.bytes ∙ sym (append_assoc w u (drop next s));
    }

-- w stands there, and u right after it
pub record Parted (s : List ℕ) (at : ℕ) (w u : List ℕ) (next : ℕ) : Type 0 where
  pub middle : ℕ
  pub first : Here s at w middle
  pub second : Here s middle u next

pub here_part : {s u : List ℕ} {at next : ℕ} (w : List ℕ) → Here s at (w ++ u) next → Parted s at w u next
here_part {s} {u} {at} {next} w h =
    let e : drop at s ≡ w ++ (u ++ drop next s) = h.bytes ∙ append_assoc w u (drop next s) in
    let f : drop (at + length w) s ≡ u ++ drop next s =
    sym (drop-drop (length w) at s) ∙ ap (drop (length w)) e ∙ drop-append_seam w (u ++ drop next s) in
    record {
      middle = at + length w;
      first = record { place = refl; bytes = e ∙ ap (λ l. w ++ l) (sym f) };
      second = record { place = omega (arith, length-append w u, h.place); bytes = f };
    }

pub whole_here : (s : List ℕ) → Here s 0 s (length s)
whole_here s =
    record { place = sym (zero-add (length s)); bytes = sym (append-nil s) ∙ ap (λ l. s ++ l) (sym (drop-length s)) }

pub here_whole : {s w : List ℕ} → Here s 0 w (length s) → s ≡ w
here_whole {s} {w} h = h.bytes ∙ ap (λ l. w ++ l) (drop-length s) ∙ append-nil w

-- byte k of w is byte at + k of the file
pub here_byte : {s w : List ℕ} {at next : ℕ} → Here s at w next → (k : ℕ) → k < length w
    → (at + k < length s) × (get_or s (at + k) 0 ≡ get_or w k 0)
here_byte {s} {w} {at} {next} h k l = (
  omega (arith, length-drop at s, ap length h.bytes, length-append w (drop next s)),
  sym (get_or-drop at s k 0) ∙ ap (λ u. get_or u k 0) h.bytes ∙ get_or-append w (drop next s) 0 k l,
)
