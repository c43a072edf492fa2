-- One byte more of lent memory filled, and of its digest.
use Rattle.std.specs.Prelude.{ℕ, ◌+◌, ◌-◌, ◌%◌, ◌≤◌, ◌<◌, ◌≡◌, refl, List, [], ◌∷◌, ◌++◌, length, get_or, set, take, drop}
use Rattle.std.proofs.Common.{sym, ap, ap₂, ◌∙◌, append_assoc, append-nil, length-set, drop_of_length-le, drop-cons, take-suc-set, take_all, arith, add-one, sub-eq-zero_of_le}
use Rattle.std.proofs.Math.Nat.{sub-zero}
use Rattle.numbers.specs.Laws.Parts.{one_more_lem}
use Rattle.streams.specs.Lent.{filled, mixed, digest_from}

-- the first i of n bytes are filled, and byte is the next
pub record Filling (m n : ℕ) (memory : List ℕ) (byte i : ℕ) : Type 0 where
  pub long : length memory ≡ n
  pub most : i ≤ n
  pub is : take i memory ++ filled byte (n - i) ≡ filled m n

pub filling_begin : (m : ℕ) (memory : List ℕ) → Filling m (length memory) memory m 0
filling_begin m memory = record { long = refl; most = omega arith; is = ap (filled m) (sub-zero (length memory)) }

pub filling_more : {m n byte i next : ℕ} {memory : List ℕ} → Filling m n memory byte i → i < n → next ≡ (byte + 7) % 256
    → Filling m n (set memory i byte) next (i + 1)
unfolding filled
filling_more {m} {n} {byte} {i} {next} {memory} f h e =
    let front : take (i + 1) (set memory i byte) ≡ take i memory ++ (byte ∷ []) =
    ap (λ (k : ℕ). take k (set memory i byte)) (add-one i) ∙ take-suc-set memory i byte (omega (arith, f.long)) in
    record {
      long = length-set memory i byte ∙ f.long;
      most = omega arith;
      is =
          ap₂ (λ (a : List ℕ) (b : ℕ). a ++ filled b (n - (i + 1))) front e
          ∙ append_assoc (take i memory) (byte ∷ []) (filled ((byte + 7) % 256) (n - (i + 1)))
          ∙ sym (ap (λ (k : ℕ). take i memory ++ filled byte k) (one_more_lem h)) ∙ f.is;
    }

pub filling_done : {m n byte i : ℕ} {memory : List ℕ} → Filling m n memory byte i → n ≤ i → memory ≡ filled m n
unfolding filled
filling_done {m} {n} {byte} {i} {memory} f h =
    sym (append-nil memory) ∙ sym (ap (λ (l : List ℕ). l ++ []) (take_all i memory (omega (arith, f.long))))
    ∙ sym (ap (λ (k : ℕ). take i memory ++ filled byte k) (sub-eq-zero_of_le h)) ∙ f.is

-- the digest of what is left, from h on
pub digest_more : (h i : ℕ) (l : List ℕ) → i < length l → digest_from h (drop i l) ≡ digest_from (mixed h (get_or l i 0)) (drop (i + 1) l)
unfolding digest_from
digest_more h i l g =
    ap (digest_from h) (drop-cons l i 0 g) ∙ ap (λ (k : ℕ). digest_from (mixed h (get_or l i 0)) (drop k l)) (sym (add-one i))

pub digest_done : (h i : ℕ) (l : List ℕ) → length l ≤ i → digest_from h (drop i l) ≡ h
unfolding digest_from
digest_done h i l g = ap (digest_from h) (drop_of_length-le l g)
