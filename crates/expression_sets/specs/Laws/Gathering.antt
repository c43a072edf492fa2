-- One round of the loops that gather occurrences, and their ends.
use Rattle.std.specs.Prelude.{◌≡◌, refl, List, ℕ, zero, suc, ◌+◌, ◌-◌, ◌/◌, ◌%◌, ◌≤◌, ◌<◌, length, get_or, set, replicate}
use Rattle.std.proofs.Common.{sym, subst, ◌∙◌, arith, sub-eq-zero_of_le, length-set, get_or-set_same, get_or-set_other}
use Rattle.std.proofs.Math.Path.{ap}
use borrow.Author.Tests.{eq-eqb, ne_eqb}
use Rattle.std.proofs.lemmas.List.{length-replicate, get_or_default}
use Rattle.std.specs.Int.Bits.{bit_or}
use Rattle.numbers.specs.Laws.Parts.{one_more_lem}
use Rattle.numbers.specs.Laws.Written.{at_or_other, zeros_hold}
use Rattle.tables.specs.Limits.{most_messages}
use Rattle.theory_grammar.specs.Offends.{most_occurrences}
use Rattle.theory_occurrences.specs.Sets.{joined, only, gather, gather_from, marked, marked_from}
use Rattle.expression_sets.specs.Marks.{Marks}

-- THE OCCURRENCES OF A MESSAGE
module _ (m : ℕ) (L : List ℕ) {most i : ℕ} (sum : ℕ) where
  marked_skip : i < most → (get_or L i 0 ≡ m → ⊥) → marked_from (most - i) i m L sum ≡ marked_from (most - (i + 1)) (i + 1) m L sum
  unfolding marked_from
  marked_skip h e = rw (one_more_lem h, ne_eqb (get_or L i 0) m e, marked_from)

  marked_on : i < most → get_or L i 0 ≡ m
      → marked_from (most - i) i m L sum ≡ marked_from (most - (i + 1)) (i + 1) m L (joined sum (only i))
  unfolding marked_from
  marked_on h e = rw (one_more_lem h, eq-eqb (get_or L i 0) m e, marked_from)

  marked_end : most ≤ i → marked_from (most - i) i m L sum ≡ sum
  unfolding marked_from
  marked_end h = ap (λ left. marked_from left i m L sum) (sub-eq-zero_of_le h)

-- of all messages: what is marked before i, and what is still to be
pub record Marking (L M : List ℕ) (i : ℕ) : Type 0 where
  pub left : (m : ℕ) → m < most_messages → marked_from (most_occurrences - i) i m L (get_or M m 0) ≡ marked m L
  pub long : length M ≡ most_messages
  pub within : i ≤ most_occurrences

pub marking_begins : (L M : List ℕ) → M ≡ replicate most_messages 0 → Marking L M 0
marking_begins L M e =
    record {
      left = λ m h. ap (λ x. marked_from most_occurrences 0 m L x) (ap (λ l. get_or l m 0) e ∙ zeros_hold most_messages m);
      long = ap length e ∙ length-replicate {A = ℕ} most_messages 0;
      within = omega arith;
    }

module _ {L M : List ℕ} {i : ℕ} (W : Marking L M i) (h : i < most_occurrences) where
  -- an occurrence of no message
  pub marking_without : {m : ℕ} {N : List ℕ} → m ≡ get_or L i 0 → most_messages ≤ m → N ≡ M → Marking L N (i + 1)
  marking_without {N = N} e l n =
      record {
        left =
            λ m k.
            ap (λ t. marked_from (most_occurrences - (i + 1)) (i + 1) m L (get_or t m 0)) n
            ∙ sym (marked_skip m L (get_or M m 0) h (λ f. absurd (omega (arith, e, l, f, k))))
            ∙ W.left m k;
        long = ap length n ∙ W.long;
        within = omega arith;
      }

  marked_one : {m x bit : ℕ} → m ≡ get_or L i 0 → m < most_messages → bit ≡ only i → x ≡ joined (get_or M m 0) bit → Marking L (set M m x) (i + 1)
  marked_one {m} {x} {bit} e l b z =
      record {
        left =
            λ k n.
            at_or_other (λ j. j < most_messages → marked_from (most_occurrences - (i + 1)) (i + 1) j L (get_or (set M m x) j 0) ≡ marked j L) m k
            (λ n. ap (λ y. marked_from (most_occurrences - (i + 1)) (i + 1) m L y) same ∙ sym (marked_on m L (get_or M m 0) h (sym e)) ∙ W.left m n)
            (λ other n.
            ap (λ y. marked_from (most_occurrences - (i + 1)) (i + 1) k L y) (get_or-set_other M m k x 0 other)
            ∙ sym (marked_skip k L (get_or M k 0) h (λ f. other (sym (e ∙ f))))
            ∙ W.left k n)
            n;
        long = length-set M m x ∙ W.long;
        within = omega arith;
      }
    where
      same : get_or (set M m x) m 0 ≡ joined (get_or M m 0) (only i)
      same = get_or-set_same M m x 0 (omega (arith, W.long)) ∙ z ∙ ap (joined (get_or M m 0)) b

  -- the entry is read where there is one, so it is the same by any default
  pub marking_with : (d : ℕ) {m x bit : ℕ} {N : List ℕ} → m ≡ get_or L i 0 → m < most_messages → bit ≡ only i → x ≡ joined (get_or M m d) bit
      → N ≡ set M m x → Marking L N (i + 1)
  marking_with d {m} {x} {bit} {N} e l b z n =
      let there : m < length M = omega (arith, W.long) in
      rw n (marked_one e l b (z ∙ ap (λ y. joined y bit) (get_or_default M m d 0 there)))

pub marking_ends : {L M : List ℕ} {i : ℕ} → Marking L M i → most_occurrences ≤ i → Marks L M
marking_ends {L} {M} {i} W h = record { each = λ m k. sym (marked_end m L (get_or M m 0) h) ∙ W.left m k }

-- WHAT MAY FOLLOW A SET
module _ (F : List ℕ) {most i : ℕ} (x sum : ℕ) where
  gather_skip : i < most → (x % 2 ≡ 1 → ⊥) → gather_from (most - i) i x F sum ≡ gather_from (most - (i + 1)) (i + 1) (x / 2) F sum
  unfolding gather_from
  gather_skip h e = rw (one_more_lem h, ne_eqb (x % 2) 1 e, gather_from)

  gather_on : i < most → x % 2 ≡ 1
      → gather_from (most - i) i x F sum ≡ gather_from (most - (i + 1)) (i + 1) (x / 2) F (joined sum (get_or F i 0))
  unfolding gather_from
  gather_on h e = rw (one_more_lem h, eq-eqb (x % 2) 1 e, gather_from)

  gather_end : most ≤ i → gather_from (most - i) i x F sum ≡ sum
  unfolding gather_from
  gather_end h = ap (λ left. gather_from left i x F sum) (sub-eq-zero_of_le h)

gather_none : (F : List ℕ) (left i sum : ℕ) → gather_from left i 0 F sum ≡ sum
unfolding gather_from
gather_none F zero i sum = refl
gather_none F (suc left) i sum = gather_none F left (i + 1) sum

-- what is gathered before i, and what is left of the set
pub record Gathering (x : ℕ) (F : List ℕ) (sum rest i : ℕ) : Type 0 where
  pub left : gather_from (most_occurrences - i) i rest F sum ≡ gather x F
  pub within : i ≤ most_occurrences

module _ {x : ℕ} {F : List ℕ} {sum rest i : ℕ} (W : Gathering x F sum rest i) where
  -- nothing is left
  pub gathering_empty : rest ≡ 0 → sum ≡ gather x F
  gathering_empty e = sym (gather_none F (most_occurrences - i) i sum) ∙ ap (λ r. gather_from (most_occurrences - i) i r F sum) (sym e) ∙ W.left

  pub gathering_without : {more : ℕ} → i < most_occurrences → (rest % 2 ≡ 1 → ⊥) → more ≡ sum → Gathering x F more (rest / 2) (i + 1)
  gathering_without h e m = record { left = rw m (sym (gather_skip F rest sum h e) ∙ W.left); within = omega arith }

  pub gathering_with : i < most_occurrences → rest % 2 ≡ 1 → Gathering x F (bit_or sum (get_or F i 0)) (rest / 2) (i + 1)
  unfolding joined
  gathering_with h e = record { left = sym (gather_on F rest sum h e) ∙ W.left; within = omega arith }

  -- the entry is read where there is one, so it is the same by any default
  pub gathering_entry : (d : ℕ) {more : ℕ} → length F ≡ most_occurrences → i < most_occurrences → rest % 2 ≡ 1 → more ≡ joined sum (get_or F i d)
      → Gathering x F more (rest / 2) (i + 1)
  unfolding joined
  gathering_entry d {more} l h e m =
      let same : more ≡ bit_or sum (get_or F i 0) = m ∙ ap (bit_or sum) (get_or_default F i d 0 (omega (arith, l, h))) in
      subst (λ s. Gathering x F s (rest / 2) (i + 1)) (sym same) (gathering_with h e)

  pub gathering_ends : most_occurrences ≤ i → sum ≡ gather x F
  gathering_ends h = sym (gather_end F rest sum h) ∙ W.left
