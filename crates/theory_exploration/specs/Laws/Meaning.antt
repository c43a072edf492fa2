-- What an exploration means: its entries are the nodes reached, each once, by the least way there, in order.
use Rattle.std.specs.Prelude.{◌≡◌, Bool, true, ℕ, ◌≤◌, length}
use Rattle.std.proofs.Common.{ap, sym, ◌∙◌, arith, zero-add}
use Rattle.std.proofs.Math.Option.{Option, none, some}
use mathlib.Core.List.Memᴰ
use mathlib.Core.List.{List, [], ◌∷◌, map, reverse, append-nil}
use Rattle.std.proofs.lemmas.List.{length-map}
use Rattle.theory_exploration.specs.Mem.{Mem, All, Distinct, Ascending}
use Rattle.theory_exploration.specs.Laws.Mem.{all_none, mem_map, map_mem, distinct_map}
use Rattle.theory_exploration.specs.Size.{Size}
use Rattle.theory_exploration.specs.Laws.Size.{at_most, size_same}
use Rattle.theory_exploration.specs.Order.{NotAfter, AtMost}
use Rattle.theory_exploration.specs.Laws.Order.{not_after_transitive, not_after_cons, not_after_reads}
use Rattle.theory_exploration.specs.Explore.{reach, leads, along, Reached, ReachedFrom, IsEquality, first_by}
use Rattle.theory_exploration.specs.Explore.{Entry, Precedes, extend, starts, children, explore}
use Rattle.theory_exploration.specs.Laws.Fresh.{Apart, fresh_apart}
use Rattle.theory_exploration.specs.Laws.Expand.{Ordered}
use Rattle.theory_exploration.specs.Laws.Rounds.{Whole, rounds_keep, rounds_all, rounds_whole}
use Rattle.theory_exploration.specs.Laws.Entries.{child_is, is_child, steady, starts_is, is_starts, starts_ascend, start_after, not_after}
use Rattle.theory_exploration.specs.Laws.First.{none_has, first_precedes}
use Rattle.theory_exploration.specs.Laws.Reach.{along_is, is_along, leads_nil, leads_cons, leads_one}

module _ {Node : Type 0} (M : ℕ) (δ : Node → ℕ → Option Node) (same : Node → Node → Bool) (equal : IsEquality same)
    (roots : List Node) (fuel : ℕ) where
  -- AT ANY FUEL
  pub distinct : Distinct (map (λ e. e.at) (explore M δ same roots fuel))
  unfolding explore
  distinct = distinct_map (λ e. e.at) (explore M δ same roots fuel) apart
    where
      apart : Apart (λ e. e.at) (explore M δ same roots fuel)
      apart =
          rounds_keep (λ e. e.at) same (children M δ) fuel (Apart (λ e. e.at))
          (λ Q e m. fresh_apart (λ e. e.at) same equal Q (children M δ e))
          (starts 0 roots)
          (λ Q s m. fresh_apart (λ e. e.at) same equal Q (s ∷ []))
          []
          tt

  abbrev Sound : Entry Node → Type 0
  Sound e = leads M δ roots e.root e.word ≡ some e.at

  child_sound : (e c : Entry Node) → Sound e → Mem c (children M δ e) → Sound c
  child_sound e c h m =
      let k = child_is M δ e c m in
      let there : leads M δ roots e.root (k.letter ∷ e.word) ≡ some k.node =
      leads_cons M δ roots e.root k.letter e.word
      ∙ ap (λ o. along M δ o k.letter) h
      ∙ along_is M δ e.at k.letter k.node k.high k.step in
      rw k.is there

  start_sound : All Sound (starts 0 roots)
  start_sound s m =
      let k = starts_is 0 roots s m in
      rw (k.is, zero-add) (leads_nil M δ roots k.place ∙ k.root)

  pub sound : (e : Entry Node) → Mem e (explore M δ same roots fuel) → leads M δ roots e.root e.word ≡ some e.at
  unfolding explore
  sound = rounds_all (λ e. e.at) same equal (children M δ) fuel Sound child_sound (starts 0 roots) start_sound

  reached : (y : Node) → Mem y (map (λ e. e.at) (explore M δ same roots fuel)) → Reached M δ roots y
  reached y m =
      let t = map_mem (λ e. e.at) y (explore M δ same roots fuel) m in
      (t.0.root, t.0.word, sound t.0 t.1 ∙ ap some t.2)

  pub at_most_space : (space : List Node) → ((y : Node) → Reached M δ roots y → Mem y space)
      → length (explore M δ same roots fuel) ≤ length space
  at_most_space space all =
      rw length-map at (at_most (map (λ e. e.at) (explore M δ same roots fuel)) space distinct (λ y m. all y (reached y m)))

  -- so a fuel as large as the space is enough
  pub enough_space : (space : List Node) → ((y : Node) → Reached M δ roots y → Mem y space) → length space ≤ fuel
      → length (explore M δ same roots fuel) ≤ fuel
  enough_space space all h = omega (arith, at_most_space space all)

  -- WHERE THE FUEL WAS ENOUGH: the list came out no longer than the fuel, so all of it is expanded
  module _ (enough : length (explore M δ same roots fuel) ≤ fuel) where
    whole : Whole (λ e. e.at) (children M δ) Precedes (starts 0 roots) (explore M δ same roots fuel)
    unfolding explore
    whole =
        rounds_whole (λ e. e.at) same equal (children M δ) fuel Precedes (steady M δ) (starts 0 roots) []
        (starts_ascend 0 roots)
        (λ s m e c p k. start_after 0 roots s m e c (ap (λ f. f.root) (child_is M δ e c k).is) p)
        (all_none (λ x. All (Precedes x) (starts 0 roots)))
        nothing
        enough
      where
        nothing : Ordered (λ e. e.at) (children M δ) Precedes [] []
        nothing = record { ascends = tt; ahead = λ f e c m. absurd (Memᴰ.not-nil m); closed = λ e c m. absurd (Memᴰ.not-nil m) }

    pub in_order : Ascending Precedes (explore M δ same roots fuel)
    in_order = rw append-nil at whole.ordered.ascends

    pub least_way : (i : ℕ) (w : List ℕ) (y : Node) → leads M δ roots i w ≡ some y
        → (e : Entry Node) × Mem e (explore M δ same roots fuel) × (e.at ≡ y) × NotAfter e.root e.word i w
    least_way i [] y h =
        let s : Entry Node = record { at = y; root = i; word = [] } in
        let m : Mem s (starts 0 roots) = rw zero-add at (is_starts 0 roots i y (sym (leads_nil M δ roots i) ∙ h)) in
        let t = whole.started s m in
        (t.0, t.1, t.2, not_after t.0 s t.3)
    least_way i (m ∷ w) y h =
        let k = is_along M δ (leads M δ roots i w) m y (sym (leads_cons M δ roots i m w) ∙ h) in
        let t = least_way i w k.from k.was in
        let e : Entry Node = t.0 in
        let c : Entry Node = extend e m y in
        let f = whole.ordered.closed e c t.1 (is_child M δ e m y k.letter (ap (λ x. δ x m) t.2 ∙ k.step)) in
        let first : NotAfter f.0.root f.0.word e.root (m ∷ e.word) = not_after f.0 c f.3 in
        let then : NotAfter e.root (m ∷ e.word) i (m ∷ w) = not_after_cons m e.root e.word i w t.3 in
        (f.0, rw append-nil at f.1, f.2, not_after_transitive f.0.root f.0.word e.root (m ∷ e.word) i (m ∷ w) first then)

    pub complete : (y : Node) → Reached M δ roots y → (e : Entry Node) × Mem e (explore M δ same roots fuel) × (e.at ≡ y)
    complete y h = let t = least_way h.0 h.1 y h.2 in (t.0, t.1, t.2)

    pub size : Size (Reached M δ roots) (length (explore M δ same roots fuel))
    size =
        record {
          members = map (λ e. e.at) (explore M δ same roots fuel);
          distinct = distinct;
          only = reached;
          each = λ y h. let t = complete y h in Memᴰ.cast (sym t.2) (mem_map (λ e. e.at) t.1);
          count = length-map (explore M δ same roots fuel) (λ e. e.at);
        }

    pub first_is_least : (p : Node → Bool) (e : Entry Node) → first_by (λ f. p f.at) (explore M δ same roots fuel) ≡ some e
        → (i : ℕ) (w : List ℕ) (y : Node) → leads M δ roots i w ≡ some y → p y ≡ true → NotAfter e.root e.word i w
    first_is_least p e first i w y h py =
        let t = least_way i w y h in
        let f : Entry Node = t.0 in
        let q = first_precedes (λ f. p f.at) Precedes (explore M δ same roots fuel) in_order e first f t.1 (ap p t.2 ∙ py) in
        not_after_transitive e.root e.word f.root f.word i w (not_after e f q) t.3

    pub none_has_it : (p : Node → Bool) → first_by (λ f. p f.at) (explore M δ same roots fuel) ≡ none
        → (y : Node) → Reached M δ roots y → p y ≡ true → ⊥
    none_has_it p first y h py =
        let t = complete y h in
        none_has (λ f. p f.at) (explore M δ same roots fuel) first t.0 t.1 (ap p t.2 ∙ py)

-- OF ONE ROOT, in words alone
module _ {Node : Type 0} (M : ℕ) (δ : Node → ℕ → Option Node) (same : Node → Node → Bool) (equal : IsEquality same)
    (r : Node) (fuel : ℕ) where
  from_root : (y : Node) → Reached M δ (r ∷ []) y → ReachedFrom M δ r y
  from_root y t = (t.1, leads_one M δ r t.0 t.1 y t.2)

  pub sound_word : (e : Entry Node) → Mem e (explore M δ same (r ∷ []) fuel) → reach M δ r e.word ≡ some e.at
  sound_word e m = leads_one M δ r e.root e.word e.at (sound M δ same equal (r ∷ []) fuel e m)

  pub enough_from : (space : List Node) → ((y : Node) → ReachedFrom M δ r y → Mem y space) → length space ≤ fuel
      → length (explore M δ same (r ∷ []) fuel) ≤ fuel
  enough_from space all h = enough_space M δ same equal (r ∷ []) fuel space (λ y t. all y (from_root y t)) h

  module _ (enough : length (explore M δ same (r ∷ []) fuel) ≤ fuel) where
    pub size_from : Size (ReachedFrom M δ r) (length (explore M δ same (r ∷ []) fuel))
    size_from = size_same (λ y. (from_root y, λ t. (0, t.0, t.1))) (size M δ same equal (r ∷ []) fuel enough)

    pub least_word : (p : Node → Bool) (e : Entry Node) → first_by (λ f. p f.at) (explore M δ same (r ∷ []) fuel) ≡ some e
        → (w : List ℕ) (y : Node) → reach M δ r w ≡ some y → p y ≡ true → AtMost (reverse e.word) (reverse w)
    least_word p e first w y h py =
        not_after_reads e.root e.word w (first_is_least M δ same equal (r ∷ []) fuel enough p e first 0 w y h py)

    pub none_from : (p : Node → Bool) → first_by (λ f. p f.at) (explore M δ same (r ∷ []) fuel) ≡ none
        → (w : List ℕ) (y : Node) → reach M δ r w ≡ some y → p y ≡ true → ⊥
    none_from p first w y h py = none_has_it M δ same equal (r ∷ []) fuel enough p first y (0, w, h) py
