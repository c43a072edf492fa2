-- The states are numbered by the shortest, lowest word, and each but the start is a set that words end on.
use Rattle.std.specs.Prelude.{◌≡◌, refl, ◌↔◌, true, ℕ, zero, suc, ◌≤◌, ◌<◌, eqb, length, get_or}
use Rattle.std.proofs.Common.{sym, ap, subst, ◌∙◌, ⊎_elim, arith}
use mathlib.Core.Logic.Iff
use Rattle.std.proofs.Math.Option.{Option, none, some, some-injective}
use mathlib.Core.List.{List, [], ◌∷◌, reverse, reverse-reverse, cons-ne-nil}
use Rattle.std.proofs.Math.ListN.{get_elem?}
use Rattle.std.proofs.lemmas.List.{length-map}
use Rattle.theory_exploration.specs.Mem.{Mem}
use Rattle.theory_exploration.specs.Order.{Before, Shortlex, AtMost}
use Rattle.theory_exploration.specs.Explore.{Entry, Precedes, reach, leads, explore}
use Rattle.theory_exploration.specs.Laws.Order.{before_is, not_after_reads}
use Rattle.theory_exploration.specs.Laws.Meaning.{sound, sound_word, in_order, least_way}
use Rattle.theory_model.specs.Diagram as Diagram
use Rattle.theory_model.specs.Laws.Basics.{none_not_some}
use Rattle.tables.specs.Limits.{most_pool, most_messages}
use Rattle.theory_tables.specs.Pool.{pool_of}
use Rattle.theory_grammar.specs.Tree.{Tree, size}
use Rattle.theory_grammar.specs.Offends.{most_occurrences}
use Rattle.theory_occurrences.specs.Sets.{has}
use Rattle.theory_occurrences.specs.Positions.{Automaton, automaton, move}
use Rattle.theory_occurrences.specs.EndsOn.{EndsOn}
use Rattle.theory_occurrences.specs.Laws.Sets.{some_member, same_members}
use Rattle.theory_occurrences.specs.Laws.Letters.{Low}
use Rattle.theory_occurrences.specs.Laws.Arrives.{node_set, node_none, start_alone}
use Rattle.expression_pool.specs.Filled.{pool_for}
use Rattle.expression.specs.Expression.{states}
use Rattle.expression.specs.Means.{Numbered, NumberedSo}
use Rattle.expression.specs.Laws.Lists.{member_at, place_of, ascending_at, mapped_at, one_place}
use Rattle.expression.specs.Laws.Standing.{eqb_equality, Stands, nowhere, at, stands, states_distinct}
use Rattle.expression.specs.Laws.Language.{drawing_of}

-- by where a word stands
stands_some : {N : List ℕ} {o r : Option ℕ} {i : ℕ} → Stands N o r → r ≡ some i → (i < length N) × (o ≡ some (get_or N i 0))
stands_some nowhere e = none_not_some refl e
stands_some {N} (at {x} {i = j} h g) e =
    let k = some-injective j _ e in
    (subst (λ n. n < length N) k h, ap some (sym g ∙ ap (λ n. get_or N n 0) k))

stands_none : {N : List ℕ} {o r : Option ℕ} → Stands N o r → r ≡ none → o ≡ none
stands_none nowhere e = refl
stands_none (at h g) e = none_not_some e refl

node_some : {N : List ℕ} {o r : Option ℕ} {x : ℕ} → Stands N o r → o ≡ some x → (i : ℕ) × (i < length N) × (get_or N i 0 ≡ x) × (r ≡ some i)
node_some nowhere e = none_not_some refl e
node_some (at {x} {i} h g) e = (i, h, g ∙ some-injective x _ e, refl)

module _ (A : Automaton) (few : length (states A) ≤ most_pool) where
  abbrev N : List ℕ
  N = states A

  abbrev P : Diagram.Pool
  P = pool_of (pool_for A N)

  abbrev Q : List (Entry ℕ)
  Q = explore most_messages (move A) eqb (0 ∷ []) most_pool

  as_many : length N ≡ length Q
  as_many = length-map Q (λ (e : Entry ℕ). e.at)

  enough : length Q ≤ most_pool
  enough = omega (arith, as_many)

  abbrev pub word_of : Option (Entry ℕ) → List ℕ
  word_of o = elim o [ none ↦ [] | some e ↦ reverse e.word ]

  -- the entry of a state
  entry : (i : ℕ) → i < length N → (e : Entry ℕ) × Mem e Q × (get_elem? Q i ≡ some e) × (get_or N i 0 ≡ e.at)
  entry i h =
      let r = member_at Q i (omega (arith, as_many)) in
      (r.0, r.1, r.2, mapped_at (λ (e : Entry ℕ). e.at) Q i 0 r.2)

  -- there is one root
  at_root : (e : Entry ℕ) → Mem e Q → e.root ≡ 0
  at_root e m = go e.root (sound most_messages (move A) eqb eqb_equality (0 ∷ []) most_pool e m)
    where
      go : (k : ℕ) → leads most_messages (move A) (0 ∷ []) k e.word ≡ some e.at → k ≡ 0
      go zero h = refl
      go (suc k) h = none_not_some refl h

  word_leads : (i : ℕ) → i < length N → Diagram.follow P (some 0) (word_of (get_elem? Q i)) ≡ some i
  word_leads i h =
      let (e, m, g, f) = entry i h in
      let s = stands A few (reverse e.word) in
      let there : reach most_messages (move A) 0 (reverse (reverse e.word)) ≡ some e.at =
      ap (reach most_messages (move A) 0) (reverse-reverse e.word) ∙ sound_word most_messages (move A) eqb eqb_equality 0 most_pool e m in
      let (j, l, x, r) = node_some s there in
      ap (λ o. Diagram.follow P (some 0) (word_of o)) g ∙ r ∙ ap some (one_place N (states_distinct A few) j i l h (x ∙ sym f))

  word_least : (i : ℕ) → i < length N → (w : List ℕ) → Diagram.follow P (some 0) w ≡ some i → AtMost (word_of (get_elem? Q i)) w
  word_least i h w k =
      let (l, x) = stands_some (stands A few w) k in
      let (f, m, y, n) = least_way most_messages (move A) eqb eqb_equality (0 ∷ []) most_pool enough 0 (reverse w) (get_or N i 0) x in
      let (j, b, g) = place_of m in
      let same : j ≡ i = one_place N (states_distinct A few) j i (omega (arith, as_many)) h (mapped_at (λ (e : Entry ℕ). e.at) Q j 0 g ∙ y) in
      let here : word_of (get_elem? Q i) ≡ reverse f.word = ap (λ q. word_of (get_elem? Q q)) (sym same) ∙ ap word_of g in
      subst (λ u. AtMost u w) (sym here)
      (subst (AtMost (reverse f.word)) (reverse-reverse w) (not_after_reads f.root f.word (reverse w) n))

  words_ascend : (i j : ℕ) → i < j → j < length N → Shortlex (word_of (get_elem? Q i)) (word_of (get_elem? Q j))
  words_ascend i j l h =
      let (e, m, g, a) = entry i (omega arith) in
      let (f, n, k, b) = entry j h in
      let order = ascending_at Precedes Q (in_order most_messages (move A) eqb eqb_equality (0 ∷ []) most_pool enough) i j l g k in
      let before : Before e.word f.word =
      ⊎_elim (λ z. absurd (omega (arith, at_root e m, at_root f n))) (λ z. z.1) order in
      subst (λ o. Shortlex (word_of o) (word_of (get_elem? Q j))) (sym g)
      (subst (λ o. Shortlex (reverse e.word) (word_of o)) (sym k) ((before_is e.word f.word).0 before))

module _ (t : Tree) (small : size t ≤ most_occurrences) (low : Low t) (few : length (states (automaton t)) ≤ most_pool) where
  abbrev B : Automaton
  B = automaton t

  stood : (w : List ℕ) → Stands (states B) (reach most_messages (move B) 0 (reverse w)) (Diagram.follow (pool_of (pool_for B (states B))) (some 0) w)
  stood = stands B few

  first_is_start : (0 < length (states B)) × (get_or (states B) 0 0 ≡ 0)
  first_is_start = let (l, x) = stands_some (stood []) refl in (l, sym (some-injective 0 _ x))

  pub numbered : Numbered t (pool_of (pool_for B (states B)))
  numbered =
      record {
        word = λ i. word_of B few (get_elem? (Q B few) i);
        leads = word_leads B few;
        least = word_least B few;
        ascend = words_ascend B few;
        below = λ w i e. (stands_some (stood w) e).0;
        start = λ w e. (start_alone t small low w).0 ((stands_some (stood w) e).1 ∙ ap some first_is_start.1);
        nowhere = λ w e. node_none t small low w (stands_none (stood w) e);
        somewhere =
            λ m w i e.
            let n = node_set t small low (m ∷ w) (cons-ne-nil m w) _ (stands_some (stood (m ∷ w)) e).1 in
            let (p, h) = some_member _ n.not_empty in
            (p, (n.members p).0 h);
        same_set =
            λ m n u v i j e f.
            let a = stands_some (stood (m ∷ u)) e in
            let b = stands_some (stood (n ∷ v)) f in
            let x = node_set t small low (m ∷ u) (cons-ne-nil m u) _ a.1 in
            let y = node_set t small low (n ∷ v) (cons-ne-nil n v) _ b.1 in (
              λ s p. Iff.trans (Iff.symm (x.members p)) (subst (λ k. (has (get_or (states B) k 0) p ≡ true) ↔ EndsOn t (n ∷ v) p) (sym s) (y.members p)),
              λ s. one_place (states B) (states_distinct B few) i j a.0 b.0
                  (same_members _ _ (λ p. Iff.trans (x.members p) (Iff.trans (s p) (Iff.symm (y.members p))))),
            );
      }

pub numbered_so : NumberedSo
numbered_so s P d t w =
    let r = drawing_of s P d t w in
    subst (λ Q. Numbered t (pool_of Q)) (sym r.pool) (numbered t r.small r.low r.few)
