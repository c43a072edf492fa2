-- A step parts the contents: before it they are u, out, v; after it u, into, v. So a step that leaves is said in words alone.
use Rattle.std.specs.Prelude.{◌≡◌, refl, true, false, List, [], ◌++◌, ℕ, suc, ◌≤◌, get_or, set}
use Rattle.std.proofs.Common.{sym, ap, ap₂, subst, ◌∙◌, append_assoc, zero-le, arith}
use Rattle.std.proofs.Math.Option.{some}
use Rattle.theory_model.specs.Model.{Action, local, send, receive, Transition, Configuration, Between, nothing, act, messages, first, Contents, moved}
use Rattle.theory_model.specs.Diagram.{accepts, word}
use Rattle.theory_model.specs.Session.{Session, OwnWord, WellFormed}
use Rattle.theory_model.specs.Verdict.{step, Leaves}
use Rattle.theory_model.specs.Judge.{cut, out, into}
use Rattle.theory_model.specs.Laws.Queues.{between_wide, between_append, between_back, cut_once, within, word_between, first_rises, first_total}
use Rattle.theory_model.specs.Laws.Queues.{around}
use Rattle.theory_model.specs.Laws.Items.{IsItem, at_place}
use Rattle.theory_model.specs.Laws.Steps.{taken_is, is_taken, receive_is}

module _ (S : Session) where
  abbrev N : ℕ
  N = messages S.model

  -- contents before and after an action, parted
  pub record Parted (a : Action) (qs qs' : List (List ℕ)) : Type 0 where
    pub u : List ℕ
    pub v : List ℕ
    pub low : Between 0 (cut S a) u
    pub high : Between (cut S a) N v
    pub earlier : word qs ≡ u ++ (out a ++ v)
    pub later : word qs' ≡ u ++ (into a ++ v)

  rises : (q : ℕ) → first S.model q ≤ first S.model (suc q)
  rises q = first_rises S.model.queues q

  most : (q : ℕ) → first S.model q ≤ N
  most q = first_total S.model.queues q

  pub cut_among : (a : Action) → cut S a ≤ N
  cut_among local = zero-le
  cut_among (send q w) = most (suc q)
  cut_among (receive q w) = most q

  pub act_parts : (a : Action) (qs qs' : List (List ℕ)) → OwnWord S.model a → Contents S.model qs → act a qs ≡ some qs' → Parted a qs qs'
  act_parts local qs qs' o h e =
      let same : qs' ≡ qs = cc in
      record {
        u = [];
        v = word qs;
        low = nothing;
        high = between_wide (omega arith) (omega arith) (word_between h);
        earlier = refl;
        later = ap word same;
      }
  act_parts (send q w) qs qs' (l, b) h e =
      let A = around q l h in
      let same : qs' ≡ set qs q (get_or qs q [] ++ w) = cc in
      record {
        u = A.front ++ get_or qs q [];
        v = A.rest;
        low = between_append (between_wide (omega arith) (omega (arith, rises q)) A.low) (between_wide (omega arith) (omega arith) A.own);
        high = between_wide (omega arith) (omega arith) A.high;
        earlier = A.whole ∙ sym (append_assoc A.front (get_or qs q []) A.rest);
        later = ap word same ∙ A.changed (get_or qs q [] ++ w) ∙ simp append_assoc;
      }
  act_parts (receive q w) qs qs' (l, b) h e =
      let A = around q l h in
      let (r, whole, same) = (receive_is q w qs qs').0 e in
      record {
        u = A.front;
        v = r ++ A.rest;
        low = between_wide (omega arith) (omega arith) A.low;
        high =
            between_append (between_wide (omega arith) (omega (arith, most (suc q))) (between_back w r (subst (Between _ _) whole A.own))) (between_wide (omega (arith, rises q)) (omega arith) A.high);
        earlier = A.whole ∙ ap (λ x. A.front ++ (x ++ A.rest)) whole ∙ ap (λ x. A.front ++ x) (append_assoc w r A.rest);
        later = ap word (sym same) ∙ A.changed r;
      }

  -- and back: where the contents are parted so, the action is possible
  pub parts_act : (a : Action) (qs : List (List ℕ)) (u v : List ℕ) → OwnWord S.model a → Contents S.model qs → Between 0 (cut S a) u → Between (cut S a) N v
      → word qs ≡ u ++ (out a ++ v) → (qs' : List (List ℕ)) × (act a qs ≡ some qs') × (word qs' ≡ u ++ (into a ++ v))
  parts_act local qs u v o h x y e = (qs, refl, e)
  parts_act (send q w) qs u v (l, b) h x y e =
      let A = around q l h in
      let own = get_or qs q [] in
      let (p, s) = cut_once (A.front ++ own) A.rest u v (append_assoc A.front own A.rest ∙ sym A.whole ∙ e)
      (between_append (between_wide (omega arith) (omega (arith, rises q)) A.low) (between_wide (omega arith) (omega arith) A.own))
      (between_wide (omega arith) (omega arith) A.high) x y in (
        set qs q (own ++ w),
        refl,
        A.changed (own ++ w) ∙ ap (λ l. A.front ++ l) (append_assoc own w A.rest) ∙ sym (append_assoc A.front own (w ++ A.rest))
            ∙ ap₂ (λ a b. a ++ (w ++ b)) p s,
      )
  parts_act (receive q w) qs u v (l, b) h x y e =
      let A = around q l h in
      let own = get_or qs q [] in
      let (p, s) = cut_once A.front (own ++ A.rest) u (w ++ v) (sym A.whole ∙ e)
      (between_wide (omega arith) (omega arith) A.low)
      (between_append (between_wide (omega arith) (omega (arith, most (suc q))) A.own) (between_wide (omega (arith, rises q)) (omega arith) A.high))
      x (between_append (between_wide (omega arith) (omega (arith, most (suc q))) b) y) in
      let (r, p', s') = within {top = N} own A.rest w v s b (between_wide (omega arith) (omega arith) A.high) in (
        set qs q r,
        (receive_is q w qs (set qs q r)).1 (r, p', refl),
        A.changed r ∙ ap₂ (λ a b. a ++ b) p (sym s'),
      )

  -- a step that leaves, in words
  pub record Leaving (c : ℕ) (τ : Transition) (x : List ℕ) : Type 0 where
    pub u : List ℕ
    pub v : List ℕ
    pub low : Between 0 (cut S τ.action) u
    pub high : Between (cut S τ.action) N v
    pub whole : x ≡ u ++ (out τ.action ++ v)
    pub inside : accepts S.pool (S.root c) (u ++ (out τ.action ++ v)) ≡ true
    pub outside : accepts S.pool (S.root (moved S.model c τ)) (u ++ (into τ.action ++ v)) ≡ false

  module _ (wf : WellFormed S) (c t : ℕ) (τ : Transition) (item : IsItem S (step c t τ)) where
    owned : OwnWord S.model τ.action
    owned = wf.words τ (at_place S.model.transitions t item.1)

    pub leaves_leaving : (γ : Configuration) → Leaves S c t γ → Leaving c τ (word γ.queues)
    leaves_leaving γ L =
        let T = taken_is S.model t γ L.after L.taken in
        let same : T.transition ≡ τ = cc (T.numbered, item.1) in
        let P = act_parts τ.action γ.queues L.after.queues owned L.contents (ap (λ σ. act σ.action γ.queues) (sym same) ∙ T.acted) in
        let control : L.after.control ≡ moved S.model c τ = T.led ∙ ap₂ (moved S.model) L.control same in
        record {
          u = P.u;
          v = P.v;
          low = P.low;
          high = P.high;
          whole = P.earlier;
          inside = sym (ap₂ (λ d x. accepts S.pool (S.root d) x) L.control P.earlier) ∙ L.inside;
          outside = sym (ap₂ (λ d x. accepts S.pool (S.root d) x) control P.later) ∙ L.outside;
        }

    pub leaving_leaves : (x : List ℕ) → Leaving c τ x → (γ : Configuration) × Leaves S c t γ × (word γ.queues ≡ x)
    leaving_leaves x L =
        let (qs, h, e) = wf.ordered c (L.u ++ (out τ.action ++ L.v)) L.inside in
        let (qs', a, e') = parts_act τ.action qs L.u L.v owned h L.low L.high e in
        let γ : Configuration = record { control = c; queues = qs } in (
          γ,
          record {
            control = refl;
            contents = h;
            inside = ap (accepts S.pool (S.root c)) e ∙ L.inside;
            after = record { control = moved S.model c τ; queues = qs' };
            taken = is_taken S.model t γ τ qs' item.1 item.2 a;
            outside = ap (accepts S.pool (S.root (moved S.model c τ))) e' ∙ L.outside;
          },
          e ∙ sym L.whole,
        )
