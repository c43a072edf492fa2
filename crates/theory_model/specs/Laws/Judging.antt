-- A walk that is faithful to an item judges it: its nodes are the visited pairs, its wrong nodes are what speaks against the item, and its order is the
-- order of the contents. Over the exploration's meaning.
use Rattle.std.specs.Prelude.{◌≡◌, true, ◌&&◌, ◌↔◌, List, [], ◌∷◌, reverse, ℕ, ◌+◌, suc, ◌≤◌, eqb, length}
use Rattle.std.proofs.Math.Path.{refl}
use Rattle.std.proofs.Common.{sym, ap, ap₂, subst, ◌∙◌, le_refl, le_trans, eqb-true, eq-eqb}
use Rattle.std.proofs.Math.Option.{Option, none, some}
use Rattle.std.proofs.lemmas.List.{reverse-reverse}
use Rattle.theory_exploration.specs.Mem.{Mem}
use Rattle.theory_exploration.specs.Size.{Size}
use Rattle.theory_exploration.specs.Laws.Size.{size_same}
use Rattle.theory_exploration.specs.Order.{AtMost}
use Rattle.theory_exploration.specs.Explore.{Entry, explore, first_by, ReachedFrom, IsEquality}
use Rattle.theory_exploration.specs.Laws.Meaning.{enough_from, sound_word, size_from, least_word, none_from}
use Rattle.theory_exploration.specs.Laws.First.{first_has_it}
use Rattle.theory_model.specs.Model.{Configuration, messages}
use Rattle.theory_model.specs.Diagram.{word}
use Rattle.theory_model.specs.Session.{Session}
use Rattle.theory_model.specs.Verdict.{Item, Pair, before, after, Visited, Counterexample, Passes, Fails, most_pairs}
use Rattle.theory_model.specs.Judge.{same_place, same, Walk, go, wrong, contents, walked, Judged, passes, fails, look}
use Rattle.theory_model.specs.Laws.Basics.{and_is}
use Rattle.theory_model.specs.Laws.Walks.{walk, reach_walk, walk_reach}

-- THE TEST IS ONE OF EQUALITY
place_is : (t t' : Option ℕ) → same_place t t' ≡ true → t ≡ t'
place_is none none e = refl
place_is none (some t) e = cc
place_is (some s) none e = cc
place_is (some s) (some t) e = ap some (eqb-true s t e)

is_place : (t : Option ℕ) → same_place t t ≡ true
is_place none = refl
is_place (some t) = eq-eqb t t refl

same_is : (x y : Pair) → same x y ≡ true → x ≡ y
same_is (before s t) (before s' t') e = let (p, q) = and_is (eqb s s') (same_place t t') e in ap₂ before (eqb-true s s' p) (place_is t t' q)
same_is (before s t) (after s' t') e = cc
same_is (after s t) (before s' t') e = cc
same_is (after s t) (after s' t') e = let (p, q) = and_is (eqb s s') (same_place t t') e in ap₂ after (eqb-true s s' p) (place_is t t' q)

is_same : (x : Pair) → same x x ≡ true
is_same (before s t) = ap₂ ◌&&◌ (eq-eqb s s refl) (is_place t)
is_same (after s t) = ap₂ ◌&&◌ (eq-eqb s s refl) (is_place t)

pub same_equality : IsEquality same
same_equality x y = (same_is x y, λ e. subst (λ z. same x z ≡ true) e (is_same x))

-- FAITHFUL
pub record Faithful (S : Session) (i : Item) (W : Walk) (r : Pair) : Type 0 where
  pub visits : (z : List ℕ) (x : Pair) → walk S W (some r) z ≡ some x → Visited S i x
  pub visited : (x : Pair) → Visited S i x → (z : List ℕ) × (walk S W (some r) z ≡ some x)
  pub shows : (z : List ℕ) (x : Pair) → walk S W (some r) z ≡ some x → wrong S W x ≡ true → (γ : Configuration) × Counterexample S i γ × (word γ.queues ≡ contents S W z)
  pub shown : (γ : Configuration) → Counterexample S i γ → (z : List ℕ) × (x : Pair) × (walk S W (some r) z ≡ some x) × (wrong S W x ≡ true) × (contents S W z ≡ word γ.queues)
  pub order : (z z' : List ℕ) (x x' : Pair) → walk S W (some r) z ≡ some x → wrong S W x ≡ true → walk S W (some r) z' ≡ some x' → wrong S W x' ≡ true
      → AtMost z z' → AtMost (contents S W z) (contents S W z')
  pub short : (z : List ℕ) (x : Pair) → walk S W (some r) z ≡ some x → wrong S W x ≡ true → length (contents S W z) ≤ length z + length W.out
  -- the pairs fit into what the exploration has room for
  pub room : List Pair
  pub fits : length room ≤ most_pairs S.pool.states
  pub each : (x : Pair) → Visited S i x → Mem x room

-- what a judgement of an item means
module _ (S : Session) (i : Item) where
  abbrev pub JudgedMeans : Judged → Type 0
  JudgedMeans (passes k) = Passes S i × Size (Visited S i) k
  JudgedMeans (fails w) = Fails S i w

module _ (S : Session) (i : Item) (W : Walk) (r : Pair) (F : Faithful S i W r) where
  abbrev M : ℕ
  M = suc (messages S.model)

  abbrev δ : Pair → ℕ → Option Pair
  δ = go S W

  abbrev fuel : ℕ
  fuel = most_pairs S.pool.states

  abbrev Q : List (Entry Pair)
  Q = explore M δ same (r ∷ []) fuel

  reached_visited : (x : Pair) → ReachedFrom M δ r x ↔ Visited S i x
  reached_visited x = (
    (λ (w, e). F.visits (reverse w) x (sym (reach_walk S W r w) ∙ e)),
    (λ v. let (z, e) = F.visited x v in (reverse z, walk_reach S W r z ∙ e)),
  )

  pub enough_fuel : (n : ℕ) → fuel ≤ n → length (explore M δ same (r ∷ []) n) ≤ n
  enough_fuel n h = enough_from M δ same same_equality r n F.room (λ y v. F.each y ((reached_visited y).0 v)) (le_trans F.fits h)

  enough : length Q ≤ fuel
  enough = enough_fuel fuel (le_refl fuel)

  -- the first wrong pair, and the way there
  pub first_way : (e : Entry Pair) → first_by (λ e. wrong S W e.at) Q ≡ some e → (walk S W (some r) (reverse e.word) ≡ some e.at) × (wrong S W e.at ≡ true)
  first_way e f =
      let (b, m) = first_has_it (λ e. wrong S W e.at) Q e f in
      (sym (reach_walk S W r e.word) ∙ sound_word M δ same same_equality r fuel e m, b)

  first_least : (e : Entry Pair) → first_by (λ e. wrong S W e.at) Q ≡ some e → (γ : Configuration) → Counterexample S i γ
      → AtMost (contents S W (reverse e.word)) (word γ.queues)
  first_least e f γ a =
      let (way, b) = first_way e f in
      let (z, x, way', b', s) = F.shown γ a in
      let least : AtMost (reverse e.word) (reverse (reverse z)) =
      least_word M δ same same_equality r fuel enough (wrong S W) e f (reverse z) x (walk_reach S W r z ∙ way') b' in
      subst (AtMost (contents S W (reverse e.word))) s (F.order (reverse e.word) z e.at x way b way' b' (subst (AtMost (reverse e.word)) (reverse-reverse z) least))

  by_first : (o : Option (Entry Pair)) → first_by (λ e. wrong S W e.at) Q ≡ o
      → JudgedMeans S i (elim o [ none ↦ passes (length Q) | some e ↦ fails (contents S W (reverse e.word)) ])
  by_first none f = (
    (λ γ a. let (z, x, e, b, s) = F.shown γ a in none_from M δ same same_equality r fuel enough (wrong S W) f (reverse z) x (walk_reach S W r z ∙ e) b),
    size_same reached_visited (size_from M δ same same_equality r fuel enough),
  )
  by_first (some e) f =
      let (way, b) = first_way e f in
      let (γ, a, s) = F.shows (reverse e.word) e.at way b in
      record { shown = γ; against = a; contents = s; least = first_least e f }

  pub faithful_judges : JudgedMeans S i (look S W (walked S W r))
  unfolding look walked
  faithful_judges = by_first (first_by (λ e. wrong S W e.at) Q) refl
