-- How long the contents shown are at most: a pair has as many letters as parents, and parents stand earlier.
use Rattle.std.specs.Prelude.{◌≡◌}
use Rattle.std.proofs.Math.Path.{refl}
use Rattle.std.proofs.Common.{sym, ap, ◌∙◌, le_refl, length-append}
use Rattle.std.proofs.Math.Option.{Option, none, some, map-eq-some_iff}
use mathlib.Core.List.{List, [], ◌∷◌, reverse}
use Prim.Native.Nat.{ℕ, zero, suc, ◌+◌, ◌≤◌, zero-le}
use native.Mathlib.Omega.{arith}
use Rattle.std.proofs.Math.ListN.{length, get_elem?}
use Rattle.std.proofs.lemmas.List.{length-reverse}
use Rattle.theory_exploration.specs.Explore.{Entry, explore, first_by}
use Rattle.theory_exploration.specs.Laws.Places.{place_below}
use Rattle.theory_exploration.specs.Search.{Found, Outcome, found, finished, search_from, lowest, trace_from, trace}
use Rattle.theory_exploration.specs.Laws.Agree.{agree_length}
use Rattle.theory_exploration.specs.Laws.Search.{Answers, search_is as search-answers}
use Rattle.theory_model.specs.Model.{messages}
use Rattle.theory_model.specs.Session.{Session, WellFormed}
use Rattle.theory_model.specs.Verdict.{Item, start, step, entry, Pair, most_pairs}
use Rattle.theory_model.specs.Judge.{same, Walk, Begun, go, wrong, contents, out, walked, Judged, passes, fails, look, begin_step, begin_entry, walk_of}
use Rattle.theory_model.specs.Judge.{judge_walk, judge}
use Rattle.theory_model.specs.Laws.Basics.{none_not_some}
use Rattle.theory_model.specs.Laws.Items.{IsItem}
use Rattle.theory_model.specs.Laws.Judging.{same_equality, Faithful, enough_fuel, first_way}
use Rattle.theory_model.specs.Laws.Faithful.{item_faithful}

passes_not_fails : {X : Type 0} {k : ℕ} {w : List ℕ} → ◌≡◌ {A = Judged} (passes k) (fails w) → X
passes_not_fails p = absurd (let z : ◌≡◌ {A = ℕ} 0 1 = cc in omega arith)

-- a word has no more letters than parents are followed
module _ (M : ℕ) (δ : Pair → ℕ → Option Pair) (L : List (Found Pair)) where
  trace_length : (n k : ℕ) → length (trace_from M δ same L n k) ≤ n
  unfolding trace_from
  trace_length zero k = zero-le
  trace_length (suc n) zero = zero-le
  trace_length (suc n) (suc k) = by_place (get_elem? L (suc k)) (λ j. trace_length n j)
    where
      by_parent : (f : Found Pair) (o : Option (Found Pair)) → length (trace_from M δ same L n f.parent) ≤ n
          → length {A = ℕ} (elim o [ none ↦ [] | some g ↦ lowest M δ same g.at f.at ∷ trace_from M δ same L n f.parent ]) ≤ suc n
      by_parent f none h = zero-le
      by_parent f (some g) h = omega arith

      by_place : (o : Option (Found Pair)) → ((j : ℕ) → length (trace_from M δ same L n j) ≤ n)
          → length {A = ℕ} (elim o [ none ↦ [] | some f ↦ elim (get_elem? L f.parent) [ none ↦ [] | some g ↦ lowest M δ same g.at f.at ∷ trace_from M δ same L n f.parent ] ]) ≤ suc n
      by_place none h = zero-le
      by_place (some f) h = by_parent f (get_elem? L f.parent) (h f.parent)

module _ (S : Session) (W : Walk) where
  abbrev M : ℕ
  M = suc (messages S.model)

  answers_short : (o : Outcome Pair) (Q : List (Entry Pair)) → Answers M (go S W) same (wrong S W) o Q → (e : Entry Pair) → first_by (λ e. wrong S W e.at) Q ≡ some e
      → length e.word ≤ length Q
  answers_short (found k L) Q A e f =
      let same_word : trace M (go S W) same L k ≡ e.word = A.same_word ∙ ap (λ x. x.word) (let same_entry : A.first ≡ e = cc A.is_first in same_entry) in
      omega (arith, ap length same_word, trace_length M (go S W) L k k, place_below L k A.node A.place, agree_length M (go S W) same L A.front A.agrees, ap length A.whole, length-append A.front A.rest)
  answers_short (finished L) Q A e f = none_not_some A.none_has f

  module _ (i : Item) (r : Pair) (F : Faithful S i W r) where
    abbrev fuel : ℕ
    fuel = most_pairs S.pool.states

    abbrev Q : List (Entry Pair)
    Q = explore M (go S W) same (r ∷ []) fuel

    enough : length Q ≤ fuel
    enough = enough_fuel S i W r F fuel (le_refl fuel)

    first_short : (o : Option (Entry Pair)) → first_by (λ e. wrong S W e.at) Q ≡ o → (w : List ℕ)
        → ◌≡◌ {A = Judged} (elim o [ none ↦ passes (length Q) | some e ↦ fails (contents S W (reverse e.word)) ]) (fails w) → length w ≤ fuel + length W.out
    first_short none f w p = passes_not_fails p
    first_short (some e) f w p =
        let same_contents : contents S W (reverse e.word) ≡ w = cc in
        let (way, b) = first_way S i W r F e f in
        let letters = answers_short (search_from M (go S W) same (wrong S W) r fuel) Q (search-answers M (go S W) same same_equality (wrong S W) r fuel enough) e f in
        omega (arith, ap length same_contents, F.short (reverse e.word) e.at way b, length-reverse e.word, letters, enough)

    look_short : (w : List ℕ) → look S W (walked S W r) ≡ fails w → length w ≤ fuel + length W.out
    unfolding look walked
    look_short w p = first_short (first_by (λ e. wrong S W e.at) Q) refl w p

-- what the item's step takes out of its queue
abbrev pub taken : Item → List ℕ
taken start = []
taken (step c t τ) = out τ.action
taken (entry b e) = []

-- what is shown of the contents that speak against an item: of the start nothing
abbrev pub showing : Item → List ℕ → List ℕ
showing start w = []
showing (step c t τ) w = w
showing (entry b e) w = w

module _ (S : Session) (wf : WellFormed S) where
  -- a walk takes out what its step does
  walk_out : (i : Item) (B : Begun) → walk_of S i ≡ some B → B.walk.out ≡ taken i
  walk_out start B e = none_not_some refl e
  walk_out (step c t τ) B e = ap (λ B. B.walk.out) (sym ((map-eq-some_iff (begin_step S c τ) (S.root c)).0 e).2)
  walk_out (entry b e) B p = ap (λ B. B.walk.out) (sym ((map-eq-some_iff (begin_entry S e) (S.root e.0)).0 p).2)

  walk_short : (i : Item) → IsItem S i → (w : List ℕ) (o : Option Begun) → walk_of S i ≡ o → judge_walk S o ≡ fails w → length w ≤ most_pairs S.pool.states + length (taken i)
  walk_short i item w none e p = passes_not_fails p
  walk_short i item w (some B) e p =
      omega (arith, look_short S B.walk i B.root (item_faithful S wf i item B e) w p, ap length (walk_out i B e))

  pub shown_bound : (i : Item) → IsItem S i → (w : List ℕ) → judge S i ≡ fails w → length (showing i w) ≤ most_pairs S.pool.states + length (taken i)
  unfolding judge
  shown_bound start item w e = zero-le
  shown_bound (step c t τ) item w e = walk_short (step c t τ) item w (walk_of S (step c t τ)) refl e
  shown_bound (entry b e) item w h = walk_short (entry b e) item w (walk_of S (entry b e)) refl h
