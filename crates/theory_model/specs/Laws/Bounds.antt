-- How many pairs an item has at most, and all items of a file.
use Rattle.std.specs.Prelude.{◌≡◌, List, [], ◌∷◌, ◌++◌, ℕ, zero, suc, ◌+◌, ◌*◌, ◌≤◌, ◌<◌, length}
use Rattle.std.proofs.Math.Path.{refl, subst}
use Rattle.std.proofs.Common.{sym, ap, zero-le, arith, le_trans, mul-le-mul, suc-mul, length-append}
use Rattle.std.proofs.Math.Option.{Option, none, some}
use mathlib.Core.List.Memᴰ
use Rattle.theory_exploration.specs.Mem.{Mem, here, there}
use Rattle.theory_exploration.specs.Size.{Size}
use Rattle.theory_exploration.specs.Laws.Size.{size_at_most}
use Rattle.theory_model.specs.Model.{Action, local, send, receive, Transition, Model, controls, is_at}
use Rattle.theory_model.specs.Diagram.{along, follow}
use Rattle.theory_model.specs.Session.{Session, WellFormed}
use Rattle.theory_model.specs.Verdict.{Item, start, step, entry, steps_at, steps_from, entries_from, items, Pair, before, after, StepPair, BadPair}
use Rattle.theory_model.specs.Verdict.{Visited, Sum, most_pairs, most_in_all, most}
use Rattle.theory_model.specs.Laws.Basics.{by_test, none_not_some}
use Rattle.theory_model.specs.Laws.Items.{IsItem, item_is, at_place, step_here, step_not_here, entries_from_lem}
use Rattle.theory_model.specs.Laws.Spaces.{Standing, step_space, step_space_length, before_in_space, after_in_space, entry_space, entry_space_length}
use Rattle.theory_model.specs.Laws.Spaces.{in_entry_space}

module _ (S : Session) (wf : WellFormed S) where
  abbrev n : ℕ
  n = S.pool.states

  along_standing : (o : Option ℕ) (m : ℕ) → Standing n (along S.pool o m)
  along_standing none m s e = none_not_some refl e
  along_standing (some r) m s e = wf.arcs r m s e

  pub follow_standing : (o : Option ℕ) (u : List ℕ) → Standing n o → Standing n (follow S.pool o u)
  follow_standing o [] h = h
  follow_standing o (m ∷ u) h = follow_standing (along S.pool o m) u (along_standing o m)

  module _ (o o' : Option ℕ) (h : Standing n o) (h' : Standing n o') where
    stood : (u v : List ℕ) (s : ℕ) (t : Option ℕ) → follow S.pool o u ≡ some s → follow S.pool o' v ≡ t → (s < n) × Standing n t
    stood u v s t p q = (follow_standing o u h s p, subst (Standing n) q (follow_standing o' v h'))

    step_pair_in_space : (a : Action) (x : Pair) → StepPair S o o' a x → Mem x (step_space n)
    step_pair_in_space local (before s t) k = absurd k
    step_pair_in_space local (after s t) (u, b, (p, q)) = let (l, k) = stood u u s t p q in after_in_space n s t l k
    step_pair_in_space (send i w) (before s t) (u, b, (p, q)) = let (l, k) = stood u u s t p q in before_in_space n s t l k
    step_pair_in_space (send i w) (after s t) (u, v, b, c, (p, q)) = let (l, k) = stood (u ++ v) (u ++ (w ++ v)) s t p q in after_in_space n s t l k
    step_pair_in_space (receive i w) (before s t) (u, b, (p, q)) = let (l, k) = stood u u s t p q in before_in_space n s t l k
    step_pair_in_space (receive i w) (after s t) (u, v, b, c, (p, q)) = let (l, k) = stood (u ++ (w ++ v)) (u ++ v) s t p q in after_in_space n s t l k

    bad_pair_in_space : (x : Pair) → BadPair S o o' x → Mem x (entry_space n)
    bad_pair_in_space (before s t) k = absurd k
    bad_pair_in_space (after s none) k = absurd k
    bad_pair_in_space (after s (some t)) (u, b, (p, q)) = let (l, k) = stood u u s (some t) p q in in_entry_space n s t l (k t refl)

  -- a list that has all pairs of the item
  pub space : Item → List Pair
  space start = []
  space (step c t τ) = step_space n
  space (entry b e) = entry_space n

  pub space_length : (i : Item) → length (space i) ≡ most S i
  unfolding space
  space_length start = refl
  space_length (step c t τ) = step_space_length n
  space_length (entry b e) = entry_space_length n

  pub visited_in_space : (i : Item) → IsItem S i → (x : Pair) → Visited S i x → Mem x (space i)
  unfolding space
  visited_in_space start h x v = absurd v
  visited_in_space (step c t τ) h x v = step_pair_in_space (S.root c) _ (wf.roots c) (wf.roots _) τ.action x v
  visited_in_space (entry b e) h x v =
      bad_pair_in_space (S.root e.0) (some e.1) (wf.roots e.0)
      (λ s p. let same : e.1 ≡ s = cc in subst (λ k. k < n) same (wf.entries e.0 e.1 (at_place S.bad b h))) x v

  pub item_bound : (i : Item) → Mem i (items S) → (k : ℕ) → Size (Visited S i) k → k ≤ most S i
  item_bound i m k s = subst (λ l. k ≤ l) (space_length i) (size_at_most s (space i) (visited_in_space i (item_is S i m)))

-- THE WHOLE FILE
module _ (S : Session) where
  sum_append : (is js : List Item) (k : ℕ) → Sum S (is ++ js) k → (a b : ℕ) × Sum S is a × Sum S js b × (k ≡ a + b)
  sum_append [] js k s = (0, k, refl, s, omega arith)
  sum_append (i ∷ is) js k (j, m, z, s, e) = let (a, b, x, y, e') = sum_append is js m s in (j + a, b, (j, a, z, x, refl), y, omega arith)

  sum_most_lem : (b : ℕ) (is : List Item) (k : ℕ) → ((i : Item) → Mem i is → (k : ℕ) → Size (Visited S i) k → k ≤ b) → Sum S is k → k ≤ length is * b
  sum_most_lem b [] k h s = omega arith
  sum_most_lem b (i ∷ is) k h (j, m, z, s, e) = omega (arith, h i (here refl) j z, sum_most_lem b is m (λ i' n. h i' (there n)) s, suc-mul (length is) b)

steps_at_length : (M : Model) (c t : ℕ) (τs : List Transition) → length (steps_at M c t τs) ≤ length τs
steps_at_length M c t [] = omega arith
steps_at_length M c t (τ ∷ τs) =
    let rest = steps_at_length M c (suc t) τs in
    by_test (is_at M c τ) (λ a. omega (arith, ap length (step_here M c t τ τs a))) (λ a. omega (arith, ap length (step_not_here M c t τ τs a)))

steps_length : (M : Model) (c n : ℕ) → length (steps_from M c n) ≤ n * length M.transitions
steps_length M c zero = omega arith
steps_length M c (suc n) =
    omega (arith, length-append (steps_at M c 0 M.transitions) (steps_from M (suc c) n), steps_at_length M c 0 M.transitions, steps_length M (suc c) n, suc-mul n (length M.transitions))

entries_length : (b : ℕ) (es : List (ℕ × ℕ)) → length (entries_from b es) ≡ length es
entries_length b [] = refl
entries_length b (e ∷ es) = ap suc (entries_length (suc b) es)

-- within document 01's limits
pub record Within (S : Session) : Type 0 where
  pub states : S.pool.states ≤ 127
  pub controlled : controls S.model ≤ 256
  pub transitions : length S.model.transitions ≤ 128
  pub entries : length S.bad ≤ 64

module _ (S : Session) (wf : WellFormed S) (small : Within S) where
  step_most : (n : ℕ) → n ≤ 127 → most_pairs n ≤ 32512
  step_most n h = omega (arith, mul-le-mul h (let k : n + 1 ≤ 128 = omega arith in k))

  entry_most : (n : ℕ) → n ≤ 127 → n * n ≤ 16129
  entry_most n h = omega (arith, mul-le-mul h h)

  -- no item has more pairs than a step may have, and no bad entry more than the square
  any_most : (i : Item) → most S i ≤ 32512
  any_most start = zero-le
  any_most (step c t τ) = step_most S.pool.states small.states
  any_most (entry b e) = omega (arith, entry_most S.pool.states small.states)

  entries_most : (i : Item) → Mem i (entries_from 0 S.bad) → most S i ≤ 16129
  entries_most i m =
      let (b, e, p, g) = entries_from_lem 0 S.bad i m in
      subst (λ i. most S i ≤ 16129) (sym p) (entry_most S.pool.states small.states)

  pub file_bound : (k : ℕ) → Sum S (items S) k → k ≤ most_in_all
  file_bound k (j, m, z, s, e) =
      let M = S.model in
      let steps = steps_from M 0 (controls M) in
      let (a, b, x, y, e') = sum_append S steps (entries_from 0 S.bad) m s in
      let none_at_start : j ≤ 0 = item_bound S wf start (here refl) j z in
      let by_steps : a ≤ length steps * 32512 =
      sum_most_lem S 32512 steps a (λ i n l w. le_trans (item_bound S wf i (there (Memᴰ.append_left _ n)) l w) (any_most i)) x in
      let by_entries : b ≤ length (entries_from 0 S.bad) * 16129 =
      sum_most_lem S 16129 (entries_from 0 S.bad) b (λ i n l w. le_trans (item_bound S wf i (there (Memᴰ.append_right steps n)) l w) (entries_most i n)) y in
      omega (arith, steps_length M 0 (controls M), mul-le-mul small.controlled small.transitions, entries_length 0 S.bad, small.entries)
