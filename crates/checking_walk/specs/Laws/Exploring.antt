-- The search in the code: the pairs before place k were taken, and what the definition says from there on is its answer.
use Rattle.std.specs.Prelude.{◌≡◌, refl, Bool, ◌&&◌, List, [], ◌∷◌, ℕ, zero, suc, ◌+◌, ◌-◌, ◌≤◌, ◌<◌, length, get_or}
use Rattle.std.proofs.Common.{sym, subst, ◌∙◌, arith, add-one}
use Rattle.std.proofs.Math.Path.{ap}
use Rattle.std.proofs.Math.Bool.{true, false, not}
use mathlib.Core.Bool.{beq}
use Rattle.std.proofs.Math.Option.{Option, some}
use Rattle.std.proofs.Math.Nat.{sub-zero}
use Rattle.std.proofs.Math.ListN.{get_elem?}
use Rattle.theory_exploration.specs.Search as Search
use Rattle.theory_exploration.specs.Search.{Found, search, sweep}
use Rattle.theory_exploration.specs.Laws.Search.{search_end, search_found, search_on}
use Rattle.numbers.specs.Laws.Parts.{one_more_lem}
use Rattle.theory_model.specs.Verdict.{Pair}
use Rattle.theory_model.specs.Judge.{same}
use Rattle.tables.specs.Lookup.{final_at}
use Rattle.checking_pairs.specs.declared.pairs.Node.{Node}
use Rattle.std.specs.Prelude as Code
use Rattle.tables.specs.Kinds.{reached_of}
use Rattle.checking_pairs.specs.Pairs.{most_codes, side_of, decode, pair_of, NodeFits}
use Rattle.tables.specs.Laws.Lookup.{reached_small}
use Rattle.checking_pairs.specs.Laws.Pairs.{after_side_lem}
use Rattle.checking_pairs.specs.Marks.{found_at, view, Tables, Pushed, Swept}
use Rattle.checking_pairs.specs.Laws.Marks.{tables_most, view_length, swept_more}
use Rattle.checking_pairs.specs.Over.{wrong_over}
use Rattle.checking_walk.specs.Answers.{Answered}

-- the pair at a place of the queue
pub view_place : (seen queue : List ℕ) (tail k : ℕ) → k < tail → k < length queue → get_elem? (view seen queue tail) k ≡ some (found_at seen (get_or queue k 0))
view_place seen [] tail k h g = absurd (omega arith)
view_place seen (c ∷ queue) zero k h g = absurd (omega arith)
view_place seen (c ∷ queue) (suc tail) zero h g = refl
view_place seen (c ∷ queue) (suc tail) (suc k) h g = view_place seen queue tail k (omega arith) (omega arith)

pub record Exploring (M : ℕ) (δ : Pair → ℕ → Option Pair) (p : Pair → Bool) (seen queue : List ℕ) (tail k : ℕ) (o : Search.Outcome Pair) : Type 0 where
  pub tables : Tables seen queue tail
  pub taken : k ≤ tail
  pub is : search M δ same p (most_codes - k) k (view seen queue tail) ≡ o

module _ {M : ℕ} {δ : Pair → ℕ → Option Pair} {p : Pair → Bool} {seen queue : List ℕ} {tail : ℕ} where
  pub exploring_begin : Tables seen queue tail → Exploring M δ p seen queue tail 0 (search M δ same p most_codes 0 (view seen queue tail))
  exploring_begin T = record { tables = T; taken = omega arith; is = ap (λ n. search M δ same p n 0 (view seen queue tail)) (sub-zero most_codes) }

  module _ {k : ℕ} {o : Search.Outcome Pair} (E : Exploring M δ p seen queue tail k o) where
    pub exploring_end : tail ≤ k → Answered seen queue tail Code.None o
    exploring_end h =
        record {
          is =
              sym (search_end M δ same p (most_codes - k) k (view seen queue tail) (omega (arith, view_length E.tables))) ∙ E.is;
          tables = E.tables;
          within = tt;
        }

    module _ (h : k < tail) where
      abbrev f : Found Pair
      f = found_at seen (get_or queue k 0)

      at_place : get_elem? (view seen queue tail) k ≡ some f
      at_place = view_place seen queue tail k h (omega (arith, tables_most E.tables, E.tables.queue_long))

      fuel : most_codes - k ≡ suc (most_codes - (k + 1))
      fuel = one_more_lem (omega (arith, tables_most E.tables))

      pub exploring_found : p (decode (get_or queue k 0)) ≡ true → Answered seen queue tail (Code.Some k) o
      exploring_found t =
          record {
            is =
                sym (ap (λ n. search M δ same p n k (view seen queue tail)) fuel
                ∙ search_found M δ same p (most_codes - (k + 1)) k (view seen queue tail) f at_place t)
                ∙ E.is;
            tables = E.tables;
            within = h;
          }

      pub exploring_next : {seen' queue' : List ℕ} {r : ℕ} → p (decode (get_or queue k 0)) ≡ false
          → Swept seen queue tail δ (decode (get_or queue k 0)) k M 0 seen' queue' r → Exploring M δ p seen' queue' r (k + 1) o
      exploring_next t w =
          record {
            tables = w.shows.tables;
            taken = omega (arith, swept_more E.tables w);
            is =
                ap (search M δ same p (most_codes - (k + 1)) (k + 1)) w.shows.is
                ∙ ap (λ n. search M δ same p (most_codes - (k + 1)) n (sweep δ same (decode (get_or queue k 0)) k M 0 (view seen queue tail))) (add-one k)
                ∙ sym (ap (λ n. search M δ same p n k (view seen queue tail)) fuel
                ∙ search_on M δ same p (most_codes - (k + 1)) k (view seen queue tail) f at_place t)
                ∙ E.is;
          }

-- WHETHER A PAIR FAILS
module _ (finals : List ℕ) (entry : Bool) (x : Node) where
  pub fails_before : x.side ≡ 0 → false ≡ wrong_over finals entry (pair_of x)
  unfolding wrong_over
  fails_before e = sym (ap (λ k. wrong_over finals entry (side_of k x.source.0 (reached_of x.target.0))) e)

  module _ (fits : NodeFits x) (far : x.side ≡ 0 → ⊥) where
    fails_after : wrong_over finals entry (pair_of x)
        ≡ final_at finals (reached_of x.source.0) && elim entry [ true ↦ final_at finals (reached_of x.target.0) | false ↦ not (final_at finals (reached_of x.target.0)) ]
    unfolding wrong_over
    fails_after =
        ap (λ k. wrong_over finals entry (side_of k x.source.0 (reached_of x.target.0))) (after_side_lem fits far)
        ∙ ap (λ o. final_at finals o && elim entry [ true ↦ final_at finals (reached_of x.target.0) | false ↦ not (final_at finals (reached_of x.target.0)) ])
        (sym (reached_small fits.source))

    pub fails_source : final_at finals (reached_of x.source.0) ≡ false → false ≡ wrong_over finals entry (pair_of x)
    fails_source e =
        sym (fails_after ∙ ap (λ b. b && elim entry [ true ↦ final_at finals (reached_of x.target.0) | false ↦ not (final_at finals (reached_of x.target.0)) ]) e)

    pub fails_target : final_at finals (reached_of x.source.0) ≡ true
        → beq (final_at finals (reached_of x.target.0)) entry ≡ wrong_over finals entry (pair_of x)
    fails_target e =
        by_kind entry (final_at finals (reached_of x.target.0))
        ∙ sym (fails_after ∙ ap (λ b. b && elim entry [ true ↦ final_at finals (reached_of x.target.0) | false ↦ not (final_at finals (reached_of x.target.0)) ]) e)
      where
        by_kind : (d b : Bool) → beq b d ≡ elim d [ true ↦ b | false ↦ not b ]
        by_kind true true = refl
        by_kind true false = refl
        by_kind false true = refl
        by_kind false false = refl

-- THE FIRST PAIR is found from no other
pub begins : {seen queue seen' queue' : List ℕ} {r : ℕ} {x y : Pair} → Pushed seen queue 0 0 (some x) seen' queue' r → x ≡ y
    → view seen' queue' r ≡ record { at = y; parent = 0 } ∷ []
begins p e = p.shows.is ∙ ap (λ x. record { at = x; parent = 0 } ∷ []) e

pub answered_as : {seen queue : List ℕ} {tail : ℕ} {r : Code.Option ℕ} {o o' : Search.Outcome Pair} → o ≡ o' → Answered seen queue tail r o
    → Answered seen queue tail r o'
answered_as {seen} {queue} {tail} {r} e a = subst (Answered seen queue tail r) e a

pub answered_at : {seen queue : List ℕ} {tail : ℕ} {r r' : Code.Option ℕ} {o : Search.Outcome Pair} → r ≡ r' → Answered seen queue tail r o
    → Answered seen queue tail r' o
answered_at {seen} {queue} {tail} {o = o} e a = subst (λ r. Answered seen queue tail r o) e a
