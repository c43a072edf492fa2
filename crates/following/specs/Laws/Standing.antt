-- The loop over the messages of a ring, turn by turn; and the ring of a word.
use Prim.Native.Nat.{ℕ, zero, suc, ◌+◌, ◌-◌, ◌%◌, ◌≤◌, ◌<◌}
use Rattle.std.specs.Prelude.{◌≡◌, refl, List, [], ◌∷◌, length}
use Rattle.std.proofs.Common.{sym, ap₂, ◌∙◌, add-zero, mod-lt, mod-eq_of_lt}
use Rattle.std.proofs.Math.Path.{ap}
use native.Mathlib.Omega.{arith}
use Rattle.std.proofs.Math.Nat.{mod-mod, mod-add-mod}
use Rattle.std.proofs.Math.ListN.{get_or}
use Rattle.following.specs.Standing.{standing, word_over, RingAt, WordWithin}
use Rattle.following.specs.Laws.Words.{word_first}
use Rattle.tables.specs.Limits.{most_word}

-- a place and the same place round the ring
pub standing_round : (size : ℕ) (table : List ℕ) (base i n : ℕ) → standing size table base i n ≡ standing size table base (i % size) n
unfolding standing
standing_round size table base i zero = refl
standing_round size table base i (suc n) =
    ap₂ {C = List ℕ} (λ x l. x ∷ l) (ap (λ k. get_or table (base + k) 0) (sym (mod-mod i size)))
    (standing_round size table base (i + 1) n
    ∙ ap (λ k. standing size table base k n) (sym (mod-add-mod i size 1))
    ∙ sym (standing_round size table base (i % size + 1) n))

module _ (size : ℕ) (table : List ℕ) (base i n : ℕ) where
  pub standing_first : i < size → 0 < n → standing size table base i n ≡ get_or table (base + i) 0 ∷ standing size table base ((i + 1) % size) (n - 1)
  unfolding standing
  standing_first placed waits =
      ap (standing size table base i) (let z : n ≡ suc (n - 1) = omega arith in z)
      ∙ ap (λ k. get_or table (base + k) 0 ∷ standing size table base (i + 1) (n - 1)) (mod-eq_of_lt placed)
      ∙ ap (λ l. get_or table (base + i) 0 ∷ l) (standing_round size table base (i + 1) (n - 1))

  pub standing_none : n ≤ 0 → standing size table base i n ≡ []
  unfolding standing
  standing_none h = ap (standing size table base i) (let z : n ≡ 0 = omega arith in z)

-- the first of those that are left after k of them
pub standing_next : (size : ℕ) (table : List ℕ) (base i count : ℕ) {k : ℕ} → i < size → k < count
    → standing size table base i (count - k) ≡ get_or table (base + i) 0 ∷ standing size table base ((i + 1) % size) (count - (k + 1))
standing_next size table base i count {k} placed waits =
    standing_first size table base i (count - k) placed (omega arith)
    ∙ ap (λ n. get_or table (base + i) 0 ∷ standing size table base ((i + 1) % size) n) (let z : count - k - 1 ≡ count - (k + 1) = omega arith in z)

pub standing_length : (size : ℕ) (table : List ℕ) (base i n : ℕ) → length (standing size table base i n) ≡ n
unfolding standing
standing_length size table base i zero = refl
standing_length size table base i (suc n) = ap suc (standing_length size table base (i + 1) n)

-- the next place is one of the ring's
pub next_placed : {i size : ℕ} → i < size → (i + 1) % size < size
next_placed {i} {size} h = mod-lt (i + 1) (omega arith)

-- A WORD stands from the first place of its ring on
pub on_the_way : (size : ℕ) (table : List ℕ) (base i n : ℕ) → i + n ≤ size → base + size ≤ length table
    → standing size table base i n ≡ word_over table (base + i) n
unfolding standing
on_the_way size table base i zero h g = refl
on_the_way size table base i (suc n) h g =
    ap₂ {C = List ℕ} (λ x l. x ∷ l) (ap (λ k. get_or table (base + k) 0) (mod-eq_of_lt (let z : i < size = omega arith in z)))
    (on_the_way size table base (i + 1) n (omega arith) g)
    ∙ ap (λ j. get_or table (base + i) 0 ∷ word_over table j n) (let z : base + (i + 1) ≡ suc (base + i) = omega arith in z)
    ∙ sym (word_first table (base + i) n (omega arith))

pub word_standing : (table : List ℕ) (at n : ℕ) → WordWithin table at n → standing most_word table at 0 n ≡ word_over table at n
word_standing table at n w =
    on_the_way most_word table at 0 n (omega (arith, w.most)) w.within ∙ ap (λ j. word_over table j n) (add-zero at)

pub word_ring : {table : List ℕ} {at n : ℕ} → WordWithin table at n → RingAt table at most_word 0
word_ring w = record { within = w.within; placed = omega arith }
