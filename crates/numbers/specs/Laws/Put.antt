-- Texts that are put one after the other make one text.
use Rattle.std.specs.Prelude.{ℕ, ◌+◌, ◌≤◌, ◌≡◌, refl, List, [], ◌++◌, length, drop}
use Rattle.std.proofs.Common.{ap, ◌∙◌, length-append, arith, zero-add}
use Rattle.std.proofs.lemmas.List.Edits.{sets, sets-eq}
use Rattle.std.proofs.Math.Seq.{length-sets}
use Rattle.numbers.specs.Put.{Put, four, four_long}
use Rattle.numbers.specs.Laws.Lists.{sets_append}

-- UNDERWAY: to put the rest from place p on is to put the text from place at on
pub record Left (entry : List ℕ) (at : ℕ) (text now : List ℕ) (p : ℕ) (rest : List ℕ) : Type 0 where
  pub buffer : sets now p rest ≡ sets entry at text
  pub place : p + length rest ≡ at + length text
  pub long : length now ≡ length entry

pub left_start : (s : List ℕ) (at : ℕ) (text : List ℕ) → Left s at text s at text
left_start s at text = record { buffer = refl; place = refl; long = refl }

module _ {entry text now after : List ℕ} {at p q most : ℕ} where
  pub left_put : (u v : List ℕ) → Left entry at text now p (u ++ v) → Put now p most u after q → Left entry at text after q v
  left_put u v l w =
      record {
        buffer =
            ap (λ (s : List ℕ). sets s q v) w.buffer ∙ ap (λ (k : ℕ). sets (sets now p u) k v) w.next ∙ sets_append now p u v
            ∙ l.buffer;
        place = omega (arith, w.next, l.place, length-append u v);
        long = ap length w.buffer ∙ length-sets now p u ∙ l.long;
      }

pub left_end : {entry text now : List ℕ} {at p : ℕ} (most : ℕ) → Left entry at text now p [] → p ≤ at + most → Put entry at most text now p
left_end {entry} {text} {now} {at} {p} most l h =
    record { buffer = l.buffer; next = omega (arith, l.place); within = h }

-- a text that is put from the start on stands at the front
pub put_front : {entry text exit : List ℕ} {most r : ℕ} → Put entry 0 most text exit r → length text ≤ length entry
    → exit ≡ text ++ drop (length text) entry
put_front {entry} {text} w h =
    w.buffer ∙ sets-eq text entry 0 (omega arith) ∙ ap (λ (k : ℕ). text ++ drop k entry) (zero-add (length text))

-- ONE AFTER THE OTHER
module _ {entry mid exit u v : List ℕ} {at p r : ℕ} where
  pub put_then : {m k most : ℕ} → Put entry at m u mid p → Put mid p k v exit r → m + k ≤ most → Put entry at most (u ++ v) exit r
  put_then {m} {k} {most} a b h =
      record {
        buffer =
            b.buffer ∙ ap (λ (s : List ℕ). sets s p v) a.buffer ∙ ap (λ (k : ℕ). sets (sets entry at u) k v) a.next
            ∙ sets_append entry at u v;
        next = omega (arith, b.next, a.next, length-append u v);
        within = omega (arith, a.within, b.within);
      }

-- four of them
pub put_four : {s₀ s₁ s₂ s₃ s₄ a b c d : List ℕ} {at p q r z : ℕ} → Put s₀ at (length a) a s₁ p → Put s₁ p (length b) b s₂ q
    → Put s₂ q (length c) c s₃ r → Put s₃ r (length d) d s₄ z → Put s₀ at (four_long a b c d) (four a b c d) s₄ z
put_four {a = a} {b} {c} {d} w x y z =
    put_then {m = length a + length b + length c} {k = length d}
    (put_then {m = length a + length b} {k = length c} (put_then {m = length a} {k = length b} w x (omega arith)) y (omega arith)) z (omega arith)
