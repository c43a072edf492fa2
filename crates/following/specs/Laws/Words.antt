-- The loop over the messages that stand in a table, turn by turn.
use Rattle.std.specs.Prelude.{ℕ, zero, suc, ◌+◌, ◌-◌, ◌≤◌, ◌<◌, ◌≡◌, List, [], ◌∷◌, length, get_or, take}
use Rattle.std.proofs.Common.{sym, ap, ap₂, subst, ◌∙◌, arith, add-zero, sub-eq-zero_of_le, drop-cons}
use Rattle.std.proofs.Math.Nat.{sub-zero}
use Rattle.numbers.specs.Laws.Parts.{one_more_lem}
use Rattle.tables.specs.Limits.{most_messages}
use Rattle.theory_model.specs.Model.{Between, nothing, message}
use Rattle.following.specs.Standing.{word_over, WordWithin}

-- WHAT IS LEFT of a word of n messages after i of them
abbrev pub word_from : List ℕ → ℕ → ℕ → ℕ → List ℕ
word_from table at n i = word_over table (at + i) (n - i)

module _ (table : List ℕ) (at n : ℕ) where
  pub word_begin : word_over table at n ≡ word_from table at n 0
  word_begin = rw (add-zero, sub-zero)

  pub word_next : {i : ℕ} → i < n → at + n ≤ length table → word_from table at n i ≡ get_or table (at + i) 0 ∷ word_from table at n (i + 1)
  word_next {i} h g =
      ap₂ (λ k l. take k l) (one_more_lem h) (drop-cons table (at + i) 0 (omega arith))
      ∙ ap (λ j. get_or table (at + i) 0 ∷ word_over table j (n - (i + 1))) (let z : suc (at + i) ≡ at + (i + 1) = omega arith in z)

  pub word_end : {i : ℕ} → n ≤ i → word_from table at n i ≡ []
  word_end h = rw (sub-eq-zero_of_le h)

  -- a word of one message
  pub word_one : n ≡ 1 → at + n ≤ length table → word_over table at n ≡ get_or table at 0 ∷ []
  word_one e g =
      word_begin ∙ word_next (omega arith) g ∙ ap (λ w. get_or table (at + 0) 0 ∷ w) (word_end (omega arith))
      ∙ ap (λ k. get_or table k 0 ∷ []) (add-zero at)

-- MESSAGES: one by one, and as a word
pub word_first : (table : List ℕ) (at n : ℕ) → at + suc n ≤ length table → word_over table at (suc n) ≡ get_or table at 0 ∷ word_over table (suc at) n
word_first table at n h = ap (take (suc n)) (drop-cons table at 0 (omega arith))

pub all_small : (table : List ℕ) (at n : ℕ) → at + n ≤ length table → ((i : ℕ) → i < n → get_or table (at + i) 0 < most_messages)
    → Between 0 most_messages (word_over table at n)
all_small table at zero h each = nothing
all_small table at (suc n) h each =
    subst (Between 0 most_messages) (sym (word_first table at n h))
    (message (omega arith) (subst (λ k. get_or table k 0 < most_messages) (add-zero at) (each 0 (omega arith)))
    (all_small table (suc at) n (omega arith)
    (λ i l. subst (λ k. get_or table k 0 < most_messages) (let z : at + suc i ≡ suc at + i = omega arith in z) (each (suc i) (omega arith)))))

pub word_small : (table : List ℕ) (at n : ℕ) → WordWithin table at n → Between 0 most_messages (word_over table at n)
word_small table at n w = all_small table at n (omega (arith, w.within, w.most)) w.messages
