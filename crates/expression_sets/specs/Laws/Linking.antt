-- Sets of occurrences as the code makes them: the set of one, and the loop that adds to what may follow.
use Rattle.std.specs.Prelude.{◌≡◌, refl, cond, List, ℕ, zero, suc, ◌+◌, ◌-◌, ◌*◌, ◌/◌, ◌%◌, ◌^◌, ◌≤◌, ◌<◌, eqb, length, get_or, set}
use Rattle.std.proofs.Common.{sym, ap, subst, ◌∙◌, lt-ltb, le-ltb, eq-eqb, ne_eqb, arith, one-mul, mod-eq_of_lt, pow-suc, sub-eq-zero_of_le, length-set}
use Rattle.std.proofs.lemmas.List.{get_or_default, set-get_or}
use Rattle.std.proofs.Math.Nat.{one-le-pow, pow-le-pow_right}
use Rattle.numbers.specs.Laws.Parts.{one_more_lem}
use Rattle.theory_grammar.specs.Offends.{most_occurrences}
use Rattle.theory_occurrences.specs.Sets.{joined, only, link_from, link}

-- a bit, shifted in a word that it does not leave
pub only_shift : (k : ℕ) → k < most_occurrences → 1 * 2 ^ k % 4294967296 ≡ only k
only_shift k h =
    let small : 2 ^ k < 4294967296 = omega (arith, pow-suc 2 k, one-le-pow k 2 (omega arith), pow-le-pow_right {n = 2} (omega arith) {i = suc k} {j = 32} h) in
    rw (one-mul, lt-ltb k most_occurrences h, mod-eq_of_lt small)

pub only_none : (k : ℕ) → most_occurrences ≤ k → only k ≡ 0
only_none k h = ap (λ t. cond t (2 ^ k) 0) (le-ltb k most_occurrences h)

-- A LOOP that adds to what may follow: what is left of the set, from the occurrence i on, goes into this table
pub record Linking (from to : ℕ) (F₀ : List ℕ) (rest i : ℕ) (F : List ℕ) : Type 0 where
  pub is : link_from (most_occurrences - i) i rest to F ≡ link from to F₀
  pub within : i ≤ most_occurrences

-- the definition's steps, n being the number of all occurrences
module _ (n rest to : ℕ) (F : List ℕ) {i : ℕ} where
  on : i < n → link_from (n - i) i rest to F
      ≡ link_from (n - (i + 1)) (i + 1) (rest / 2) to (cond (eqb (rest % 2) 1) (set F i (joined (get_or F i 0) to)) F)
  unfolding link_from
  on h = rw (one_more_lem h)

  done : n ≤ i → link_from (n - i) i rest to F ≡ F
  unfolding link_from
  done h = rw (sub-eq-zero_of_le h)

pub linking_begins : (from to : ℕ) (F : List ℕ) → Linking from to F from 0 F
linking_begins from to F = record { is = refl; within = omega arith }

module _ {from to : ℕ} {F₀ : List ℕ} {rest i : ℕ} {F : List ℕ} (W : Linking from to F₀ rest i F) (h : i < most_occurrences) {G : List ℕ} where
  step : G ≡ cond (eqb (rest % 2) 1) (set F i (joined (get_or F i 0) to)) F → Linking from to F₀ (rest / 2) (i + 1) G
  step g =
      record {
        is =
            ap (link_from (most_occurrences - (i + 1)) (i + 1) (rest / 2) to) g
            ∙ sym (on most_occurrences rest to F h)
            ∙ W.is;
        within = omega arith;
      }

  pub linking_with : {z : ℕ} → rest % 2 ≡ 1 → z ≡ joined (get_or F i 0) to → G ≡ set F i z → Linking from to F₀ (rest / 2) (i + 1) G
  linking_with e z g = step (g ∙ rw (z, eq-eqb (rest % 2) 1 e))

  pub linking_without : (rest % 2 ≡ 1 → ⊥) → G ≡ F → Linking from to F₀ (rest / 2) (i + 1) G
  linking_without e g = step (g ∙ rw (ne_eqb (rest % 2) 1 e))

pub linking_ends : {from to : ℕ} {F₀ : List ℕ} {rest i : ℕ} {F : List ℕ} → Linking from to F₀ rest i F → most_occurrences ≤ i → F ≡ link from to F₀
linking_ends {to = to} {rest = rest} {F = F} W h = sym (done most_occurrences rest to F h) ∙ W.is

-- nothing is left of the set
link_none : (left i to : ℕ) (F : List ℕ) → link_from left i 0 to F ≡ F
unfolding link_from
link_none zero i to F = refl
link_none (suc left) i to F = link_none left (i + 1) to F

pub linking_empty : {from to : ℕ} {F₀ : List ℕ} {rest i : ℕ} {F : List ℕ} → Linking from to F₀ rest i F → rest ≡ 0 → F ≡ link from to F₀
linking_empty {to = to} {i = i} {F = F} W e =
    sym (link_none (most_occurrences - i) i to F) ∙ ap (λ x. link_from (most_occurrences - i) i x to F) (sym e) ∙ W.is

-- the same loop through a table that is lent, which has an entry for each occurrence
pub record LinkingTable (from to : ℕ) (F₀ : List ℕ) (rest i : ℕ) (F : List ℕ) : Type 0 where
  pub linking : Linking from to F₀ rest i F
  pub long : length F ≡ most_occurrences

pub table_begins : (to : ℕ) {from rest : ℕ} {F : List ℕ} → rest ≡ from → length F ≡ most_occurrences → LinkingTable from to F rest 0 F
table_begins to {from} {F = F} e l = record { linking = subst (λ x. Linking from to F x 0 F) (sym e) (linking_begins from to F); long = l }

module _ {from to : ℕ} {F₀ : List ℕ} {rest i : ℕ} {F : List ℕ} (W : LinkingTable from to F₀ rest i F) (h : i < most_occurrences) {G : List ℕ} where
  -- the entry is read where there is one, so it is the same by any default
  pub table_with : (d : ℕ) {z : ℕ} → rest % 2 ≡ 1 → z ≡ joined (get_or F i d) to → G ≡ set F i z → LinkingTable from to F₀ (rest / 2) (i + 1) G
  table_with d {z} e s g =
      record {
        linking = linking_with W.linking h e (s ∙ ap (λ y. joined y to) (get_or_default F i d 0 (omega (arith, W.long, h)))) g;
        long = ap length g ∙ length-set F i z ∙ W.long;
      }

  pub table_without : (d : ℕ) → (rest % 2 ≡ 1 → ⊥) → G ≡ set F i (get_or F i d) → LinkingTable from to F₀ (rest / 2) (i + 1) G
  table_without d e g =
      let same : G ≡ F = g ∙ set-get_or F i d in
      record { linking = linking_without W.linking h e same; long = ap length same ∙ W.long }
