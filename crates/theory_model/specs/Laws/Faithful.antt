-- The walks of the judgement are faithful: that of a step, and that of a bad entry.
use Rattle.std.specs.Prelude.{◌≡◌, refl, true, false, ◌&&◌, not, List, [], ◌∷◌, ◌++◌, ℕ, suc}
use Rattle.std.proofs.Common.{sym, ap, ap₂, subst, ◌∙◌, zero-le, arith, le_of_eq}
use Rattle.std.proofs.Math.Option.{Option, none, some, map-eq-some_iff}
use Rattle.std.proofs.lemmas.Bool.{not-true}
use Rattle.theory_model.specs.Model.{Action, local, send, receive, Transition, Configuration, nothing, messages, moved}
use Rattle.theory_model.specs.Diagram.{follow, is_final, accepts, word}
use Rattle.theory_model.specs.Session.{Session, OwnWord, WellFormed}
use Rattle.theory_model.specs.Verdict.{step, entry, Pair, before, after, StepPair, BadPair, Meets, Item, start}
use Rattle.theory_model.specs.Judge.{Walk, wrong, contents, out, into, root_pair, step_walk, entry_walk, Begun, begin_step, begin_entry, walk_of}
use Rattle.theory_model.specs.Laws.Basics.{none_not_some, and_is, false_not_true}
use Rattle.theory_model.specs.Laws.Queues.{between_wide, first_total, word_between}
use Rattle.theory_model.specs.Laws.Items.{IsItem, at_place}
use Rattle.theory_model.specs.Laws.Walks.{Kept, walk, from_after, from_before, to_after, to_before, to_across}
use Rattle.theory_model.specs.Laws.Parts.{cut_among, Leaving, leaves_leaving, leaving_leaves}
use Rattle.theory_model.specs.Laws.Bounds.{space, space_length, visited_in_space}
use Rattle.theory_model.specs.Laws.Judging.{Faithful}
use Rattle.theory_model.specs.Laws.PartedWords.{ReadsParted, reads_before, reads_after}

module _ (S : Session) where
  -- an accepted word leads to a final state
  pub accepts_is : (o : Option ℕ) → is_final S.pool o ≡ true → (s : ℕ) × (o ≡ some s) × (S.pool.final s ≡ true)
  accepts_is none e = false_not_true refl e
  accepts_is (some s) e = (s, refl, e)

  -- a pair before the step is never wrong
  wrong_after : (W : Walk) (x : Pair) → wrong S W x ≡ true → (s : ℕ) × (t : Option ℕ) × (x ≡ after s t)
  wrong_after W (before s t) e = false_not_true refl e
  wrong_after W (after s t) e = (s, t, refl)

  -- THE PAIRS
  module _ (s₀ : ℕ) (t₀ : Option ℕ) where
    step_visits : (a : Action) (z : List ℕ) (x : Pair) → walk S (step_walk S a) (some (root_pair a s₀ t₀)) z ≡ some x → StepPair S (some s₀) t₀ a x
    step_visits local z (before s t) e = from_after S (step_walk S local) zero-le s₀ t₀ z (before s t) tt e
    step_visits local z (after s t) e = let w = from_after S (step_walk S local) zero-le s₀ t₀ z (after s t) tt e in (z, w.high, (w.source, w.target))
    step_visits (send q w) z (before s t) e =
        let A = from_before S (step_walk S (send q w)) (cut_among S (send q w)) s₀ t₀ z (before s t) tt e in
        (z, A.low, (A.source, A.target))
    step_visits (send q w) z (after s t) e =
        let A = from_before S (step_walk S (send q w)) (cut_among S (send q w)) s₀ t₀ z (after s t) tt e in
        (A.u, A.v, A.low, A.high, (A.source, A.target))
    step_visits (receive q w) z (before s t) e =
        let A = from_before S (step_walk S (receive q w)) (cut_among S (receive q w)) s₀ t₀ z (before s t) tt e in
        (z, A.low, (A.source, A.target))
    step_visits (receive q w) z (after s t) e =
        let A = from_before S (step_walk S (receive q w)) (cut_among S (receive q w)) s₀ t₀ z (after s t) tt e in
        (A.u, A.v, A.low, A.high, (A.source, A.target))

    step_visited : (a : Action) (x : Pair) → StepPair S (some s₀) t₀ a x → (z : List ℕ) × (walk S (step_walk S a) (some (root_pair a s₀ t₀)) z ≡ some x)
    step_visited local (before s t) k = absurd k
    step_visited local (after s t) (u, b, (p, q)) = (u, to_after S (step_walk S local) zero-le s₀ t₀ u b p tt ∙ ap (λ o. some (after s o)) q)
    step_visited (send i w) (before s t) (u, b, (p, q)) =
        (u, to_before S (step_walk S (send i w)) (cut_among S (send i w)) s₀ t₀ u b p tt ∙ ap (λ o. some (before s o)) q)
    step_visited (send i w) (after s t) (u, v, b, c, (p, q)) =
        (u ++ (messages S.model ∷ v), to_across S (step_walk S (send i w)) (cut_among S (send i w)) s₀ t₀ u v b c p tt ∙ ap (λ o. some (after s o)) q)
    step_visited (receive i w) (before s t) (u, b, (p, q)) =
        (u, to_before S (step_walk S (receive i w)) (cut_among S (receive i w)) s₀ t₀ u b p tt ∙ ap (λ o. some (before s o)) q)
    step_visited (receive i w) (after s t) (u, v, b, c, (p, q)) =
        (u ++ (messages S.model ∷ v), to_across S (step_walk S (receive i w)) (cut_among S (receive i w)) s₀ t₀ u v b c p tt ∙ ap (λ o. some (after s o)) q)

    -- the words of a step, whatever its action
    step_reads : (a : Action) → OwnWord S.model a → ReadsParted S (step_walk S a) (root_pair a s₀ t₀) s₀ t₀
    step_reads local o = reads_after S false s₀ t₀ tt
    step_reads (send q w) o = reads_before S (step_walk S (send q w)) (cut_among S (send q w)) nothing s₀ t₀ tt
    step_reads (receive q w) (l, b) =
        reads_before S (step_walk S (receive q w)) (cut_among S (receive q w)) (between_wide (omega arith) (first_total S.model.queues (suc q)) b) s₀ t₀ tt

-- A STEP
module _ (S : Session) (wf : WellFormed S) (c t : ℕ) (τ : Transition) (item : IsItem S (step c t τ)) (s₀ : ℕ) (root : S.root c ≡ some s₀) where
  abbrev a : Action
  a = τ.action

  abbrev W : Walk
  W = step_walk S a

  abbrev t₀ : Option ℕ
  t₀ = S.root (moved S.model c τ)

  abbrev r : Pair
  r = root_pair a s₀ t₀

  words : ReadsParted S W r s₀ t₀
  words = step_reads S s₀ t₀ a (wf.words τ (at_place S.model.transitions t item.1))

  parted_leaving : (z : List ℕ) (s : ℕ) (u : Option ℕ) → walk S W (some r) z ≡ some (after s u) → wrong S W (after s u) ≡ true → Leaving S c τ (contents S W z)
  parted_leaving z s u e b =
      let P = words.parted z s u e in
      let (f, g) = and_is (S.pool.final s) (not (is_final S.pool u)) b in
      record {
        u = P.u;
        v = P.v;
        low = P.low;
        high = P.high;
        whole = P.shown;
        inside = ap (λ o. accepts S.pool o (P.u ++ (out a ++ P.v))) root ∙ ap (is_final S.pool) P.source ∙ f;
        outside = ap (is_final S.pool) P.target ∙ not-true (is_final S.pool u) g;
      }

  leaving_parted : (x : List ℕ) → Leaving S c τ x → (z : List ℕ) × (y : Pair) × (walk S W (some r) z ≡ some y) × (wrong S W y ≡ true) × (contents S W z ≡ x)
  leaving_parted x L =
      let (s, p, f) = accepts_is S _ (sym (ap (λ o. accepts S.pool o (L.u ++ (out a ++ L.v))) root) ∙ L.inside) in
      let (z, e, k) = words.read L.u L.v s L.low L.high p tt in
      (z, after s (follow S.pool t₀ (L.u ++ (into a ++ L.v))), e, ap₂ (λ x y. x && not y) f L.outside, k ∙ sym L.whole)

  step_faithful : Faithful S (step c t τ) W r
  step_faithful =
      record {
        visits = λ z x e. subst (λ o. StepPair S o t₀ a x) (sym root) (step_visits S s₀ t₀ a z x e);
        visited = λ x v. step_visited S s₀ t₀ a x (subst (λ o. StepPair S o t₀ a x) root v);
        shows = λ z x e b.
            let (s, u, p) = wrong_after S W x b in
            leaving_leaves S wf c t τ item (contents S W z) (parted_leaving z s u (e ∙ ap some p) (ap (wrong S W) (sym p) ∙ b));
        shown = λ γ l. leaving_parted (word γ.queues) (leaves_leaving S wf c t τ item γ l);
        order = λ z z' x x' e b e' b' l.
            let (s, u, p) = wrong_after S W x b in
            let (s', u', p') = wrong_after S W x' b' in
            words.order z z' s s' u u' (e ∙ ap some p) (e' ∙ ap some p') l;
        short = λ z x e b. let (s, u, p) = wrong_after S W x b in words.short z s u (e ∙ ap some p);
        room = space S wf (step c t τ);
        fits = le_of_eq (space_length S wf (step c t τ));
        each = visited_in_space S wf (step c t τ) item;
      }

-- A BAD ENTRY
module _ (S : Session) (wf : WellFormed S) (b : ℕ) (e : ℕ × ℕ) (item : IsItem S (entry b e)) (s₀ : ℕ) (root : S.root e.0 ≡ some s₀) where
  abbrev Wᵇ : Walk
  Wᵇ = entry_walk S

  abbrev rᵇ : Pair
  rᵇ = after s₀ (some e.1)

  entry_visits : (z : List ℕ) (x : Pair) → walk S Wᵇ (some rᵇ) z ≡ some x → BadPair S (some s₀) (some e.1) x
  entry_visits z (before s t) p = from_after S Wᵇ zero-le s₀ (some e.1) z (before s t) tt p
  entry_visits z (after s none) p = (from_after S Wᵇ zero-le s₀ (some e.1) z (after s none) tt p).kept
  entry_visits z (after s (some t)) p = let A = from_after S Wᵇ zero-le s₀ (some e.1) z (after s (some t)) tt p in (z, A.high, (A.source, A.target))

  entry_visited : (x : Pair) → BadPair S (some s₀) (some e.1) x → (z : List ℕ) × (walk S Wᵇ (some rᵇ) z ≡ some x)
  entry_visited (before s t) k = absurd k
  entry_visited (after s none) k = absurd k
  entry_visited (after s (some t)) (u, h, (p, q)) =
      (u, to_after S Wᵇ zero-le s₀ (some e.1) u h p (subst (Kept true) (sym q) tt) ∙ ap (λ o. some (after s o)) q)

  wordsᵇ : ReadsParted S Wᵇ rᵇ s₀ (some e.1)
  wordsᵇ = reads_after S true s₀ (some e.1) tt

  parted_meets : (z : List ℕ) (s : ℕ) (u : Option ℕ) → walk S Wᵇ (some rᵇ) z ≡ some (after s u) → wrong S Wᵇ (after s u) ≡ true
      → (γ : Configuration) × Meets S e γ × (word γ.queues ≡ contents S Wᵇ z)
  parted_meets z s u p h =
      let P = wordsᵇ.parted z s u p in
      let (f, g) = and_is (S.pool.final s) (is_final S.pool u) h in
      let x : List ℕ = P.u ++ P.v in
      let inner : accepts S.pool (S.root e.0) x ≡ true = ap (λ o. accepts S.pool o x) root ∙ ap (is_final S.pool) P.source ∙ f in
      let (qs, k, q) = wf.ordered e.0 x inner in (
        record { control = e.0; queues = qs },
        record {
          contents = k;
          inside = ap (accepts S.pool (S.root e.0)) q ∙ inner;
          listed = (refl, ap (accepts S.pool (some e.1)) q ∙ ap (is_final S.pool) P.target ∙ g);
        },
        q ∙ sym P.shown,
      )

  meets_parted : (γ : Configuration) → Meets S e γ
      → (z : List ℕ) × (y : Pair) × (walk S Wᵇ (some rᵇ) z ≡ some y) × (wrong S Wᵇ y ≡ true) × (contents S Wᵇ z ≡ word γ.queues)
  meets_parted γ m =
      let x = word γ.queues in
      let (s, p, f) = accepts_is S (follow S.pool (some s₀) x) (sym (ap (λ o. accepts S.pool o x) (ap S.root m.listed.0 ∙ root)) ∙ m.inside) in
      let (t, q, g) = accepts_is S (follow S.pool (some e.1) x) m.listed.1 in
      let (z, w, k) = wordsᵇ.read [] x s nothing (between_wide (omega arith) (omega arith) (word_between m.contents)) p (subst (Kept true) (sym q) tt) in
      (z, after s (follow S.pool (some e.1) x), w, ap₂ ◌&&◌ f m.listed.1, k)

  entry_faithful : Faithful S (entry b e) Wᵇ rᵇ
  entry_faithful =
      record {
        visits = λ z x p. subst (λ o. BadPair S o (some e.1) x) (sym root) (entry_visits z x p);
        visited = λ x v. entry_visited x (subst (λ o. BadPair S o (some e.1) x) root v);
        shows = λ z x p h. let (s, u, q) = wrong_after S Wᵇ x h in parted_meets z s u (p ∙ ap some q) (ap (wrong S Wᵇ) (sym q) ∙ h);
        shown = meets_parted;
        order = λ z z' x x' p h p' h' l.
            let (s, u, q) = wrong_after S Wᵇ x h in
            let (s', u', q') = wrong_after S Wᵇ x' h' in
            wordsᵇ.order z z' s s' u u' (p ∙ ap some q) (p' ∙ ap some q') l;
        short = λ z x p h. let (s, u, q) = wrong_after S Wᵇ x h in wordsᵇ.short z s u (p ∙ ap some q);
        room = space S wf (entry b e);
        fits = omega (arith, space_length S wf (entry b e));
        each = visited_in_space S wf (entry b e) item;
      }

-- ANY ITEM
module _ (S : Session) (wf : WellFormed S) where
  pub item_faithful : (i : Item) → IsItem S i → (B : Begun) → walk_of S i ≡ some B → Faithful S i B.walk B.root
  item_faithful start item B e = none_not_some refl e
  item_faithful (step c t τ) item B e =
      let (s, root, same) = (map-eq-some_iff (begin_step S c τ) (S.root c)).0 e in
      subst (λ B. Faithful S (step c t τ) B.walk B.root) same (step_faithful S wf c t τ item s root)
  item_faithful (entry b e) item B p =
      let (s, root, same) = (map-eq-some_iff (begin_entry S e) (S.root e.0)).0 p in
      subst (λ B. Faithful S (entry b e) B.walk B.root) same (entry_faithful S wf b e item s root)
