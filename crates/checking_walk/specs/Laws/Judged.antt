-- What is shown is what the definition's word of letters stands for, and the judgement is the model's.
use Rattle.std.specs.Prelude.{◌≡◌, Bool, true, false, eqb, length, get_or, take, drop}
use Rattle.std.proofs.Math.Path.{refl, sym, ap}
use Rattle.std.proofs.Common.{ap₂, ◌∙◌, arith, take_at}
use mathlib.Core.List.{List, [], ◌∷◌, ◌++◌, reverse, append_assoc, append-nil, reverse-cons}
use Prim.Native.Nat.{ℕ, zero, suc, ◌<◌}
use Rattle.theory_exploration.specs.Search as Search
use Rattle.theory_exploration.specs.Search.{trace_from, trace}
use Rattle.theory_exploration.specs.Laws.Agree.{trace_step}
use Rattle.theory_model.specs.Session.{Session}
use Rattle.theory_model.specs.Verdict.{Pair}
use Rattle.theory_model.specs.Judge as Judge
use Rattle.theory_model.specs.Judge.{same, contents, passes, fails}
use Rattle.theory_model.specs.Searched.{settled, searched}
use Rattle.checking_pairs.specs.declared.pairs.Walk.{Walk}
use Rattle.std.specs.Prelude.{Some, None, Ok, Err}
use Rattle.checking_pairs.specs.Pairs.{most_codes}
use Rattle.checking_pairs.specs.Marks.{found_at, view, Tables, Blank}
use Rattle.checking_pairs.specs.Laws.Marks.{tables_most, view_length}
use Rattle.checking_pairs.specs.Over.{walk_over, go_over, search_over, Over}
use Rattle.checking_walk.specs.Laws.Over.{searched_over, go_is}
use Rattle.checking_walk.specs.Laws.Exploring.{view_place}
use Rattle.checking_walk.specs.Answers.{Answered}
use Rattle.checking_walk.specs.Shown.{parent_of, part_over, edge_letter, shown_from, shown_over, Shown}
use Rattle.checking_walk.specs.Judged.{contents_over, settled_over, judged_over, contents_shown, WalkJudged}

-- letters one after the other
contents_append : (rows : List ℕ) (w : Walk) (u v : List ℕ) → contents_over rows w (u ++ v) ≡ contents_over rows w u ++ contents_over rows w v
contents_append rows w [] v = refl
contents_append rows w (m ∷ u) v =
    ap (λ l. part_over rows w m ++ l) (contents_append rows w u v)
    ∙ sym (append_assoc (part_over rows w m) (contents_over rows w u) (contents_over rows w v))

contents_last : (rows : List ℕ) (w : Walk) (u : List ℕ) (m : ℕ) → contents_over rows w (u ++ (m ∷ [])) ≡ contents_over rows w u ++ part_over rows w m
contents_last rows w u m = contents_append rows w u (m ∷ []) ∙ ap (λ l. contents_over rows w u ++ l) (append-nil (part_over rows w m))

-- THE CONTENTS that are read back along the parents are those of the definition's word
module _ (arcs rows : List ℕ) (w : Walk) {seen queue : List ℕ} {tail : ℕ} (T : Tables seen queue tail) where
  in_queue : {k : ℕ} → k < tail → k < length queue
  in_queue l = omega (arith, tables_most T, T.queue_long)

  parent_below : (k : ℕ) → suc k < tail → parent_of seen queue (suc k) < suc k
  parent_below k l = omega (arith, T.earlier (suc k) (omega arith) l)

  shown_from_lem : (n k : ℕ) → k < tail
      → contents_over rows w (reverse (trace_from (suc w.sum) (go_over arcs rows w) same (view seen queue tail) n k))
      ≡ shown_from arcs rows w seen queue n k
  unfolding trace_from shown_from
  shown_from_lem zero k l = refl
  shown_from_lem (suc n) zero l = refl
  shown_from_lem (suc n) (suc k) l =
      let p : ℕ = parent_of seen queue (suc k) in
      let below = parent_below k l in
      let L = view seen queue tail in
      let step =
      trace_step (suc w.sum) (go_over arcs rows w) same L n k (found_at seen (get_or queue (suc k) 0)) (found_at seen (get_or queue p 0))
      (view_place seen queue tail (suc k) l (in_queue l)) (view_place seen queue tail p (omega arith) (in_queue (omega arith)))
      in
      let m = edge_letter arcs rows w seen queue (suc k) in
      let t = trace_from (suc w.sum) (go_over arcs rows w) same L n p in
      ap (λ u. contents_over rows w (reverse u)) step
      ∙ ap (contents_over rows w) (reverse-cons m t)
      ∙ contents_last rows w (reverse t) m
      ∙ ap (λ l. l ++ part_over rows w m) (shown_from_lem n p (omega arith))

-- THE JUDGEMENT, by the search's answer
module _ (arcs finals rows : List ℕ) (w : Walk) (root : Pair) {seen queue : List ℕ} where
  pub judged_finished : {tail : ℕ} → Answered seen queue tail None (search_over arcs finals rows w root)
      → judged_over arcs finals rows w root ≡ passes tail
  unfolding judged_over
  judged_finished a = sym (ap (settled_over arcs finals rows w) a.is) ∙ ap passes (view_length a.tables)

  pub judged_found : {k tail : ℕ} → Answered seen queue tail (Some k) (search_over arcs finals rows w root)
      → judged_over arcs finals rows w root ≡ fails (shown_over arcs rows w seen queue k)
  unfolding judged_over
  judged_found {k} a = sym (ap (settled_over arcs finals rows w) a.is) ∙ ap fails (shown_from_lem arcs rows w a.tables k k a.within)

as_cleared : {seen queue seen' queue' : List ℕ} → Blank seen queue → seen' ≡ seen → queue' ≡ queue → Blank seen' queue'
as_cleared b s q = rw (s, q) b

-- what the code answers then, over tables that were cleared
module _ {arcs finals rows : List ℕ} {w : Walk} {root : Pair} {contents seen queue seen' queue' : List ℕ} (b : Blank seen queue) (p : seen' ≡ seen)
    (q : queue' ≡ queue) where
  pub judges_passes : {n : ℕ} → judged_over arcs finals rows w root ≡ passes n
      → WalkJudged arcs finals rows w root contents seen' queue' contents (Ok n)
  judges_passes e =
      record {
        reply = sym e;
        blank = as_cleared b p q;
        number = ap (λ j. length (contents_shown j)) (sym e);
        shown = ap (λ j. contents_shown j ++ drop (length (contents_shown j)) contents) (sym e);
      }

  pub judges_fails : {u contents' : List ℕ} {n : ℕ} → judged_over arcs finals rows w root ≡ fails u → Shown u contents contents' n
      → WalkJudged arcs finals rows w root contents seen' queue' contents' (Err (record { 0 = n }))
  judges_fails {u} {contents'} {n} e s =
      record {
        reply =
            ap fails (ap (take n) s.is ∙ take_at u (drop n contents) n (sym s.number)) ∙ sym e;
        blank = as_cleared b p q;
        number = s.number ∙ ap (λ j. length (contents_shown j)) (sym e);
        shown =
            s.is ∙ ap (λ k. u ++ drop k contents) s.number
            ∙ ap (λ j. contents_shown j ++ drop (length (contents_shown j)) contents) (sym e);
      }

-- FOR A SESSION that the tables are of, the judgement is the model's
module _ (arcs finals rows : List ℕ) (w : Walk) (S : Session) (o : Over arcs finals w.sum S) where
  abbrev W : Judge.Walk
  W = walk_over rows w

  contents_are : (u : List ℕ) → contents S W u ≡ contents_over rows w u
  contents_are [] = refl
  contents_are (m ∷ u) =
      ap₂ {C = List ℕ} (λ k c. elim (eqb m k) [ true ↦ W.out ++ c | false ↦ m ∷ c ]) o.letters (contents_are u) ∙ by_letter (eqb m w.sum)
    where
      by_letter : (b : Bool) → ◌≡◌ {A = List ℕ} (elim b [ true ↦ W.out ++ contents_over rows w u | false ↦ m ∷ contents_over rows w u ])
          (elim b [ true ↦ W.out | false ↦ m ∷ [] ] ++ contents_over rows w u)
      by_letter true = refl
      by_letter false = refl

  settled_is : (r : Search.Outcome Pair) → settled S W r ≡ settled_over arcs finals rows w r
  settled_is (Search.found k L) =
      ap fails
      (ap₂ (λ n δ. contents S W (reverse (trace (suc n) δ same L k))) o.letters (go_is arcs finals rows w S o)
      ∙ contents_are (reverse (trace (suc w.sum) (go_over arcs rows w) same L k)))
  settled_is (Search.finished L) = refl

  pub judged_is : (root : Pair) → judged_over arcs finals rows w root ≡ searched S most_codes W root
  unfolding judged_over
  judged_is root = sym (searched_over arcs finals rows w S o root ∙ settled_is (search_over arcs finals rows w root))
