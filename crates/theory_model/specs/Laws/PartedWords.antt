-- The words that lead to a pair after the step, and the contents they stand for: from a pair before the step, and from one after it.
use Rattle.std.specs.Prelude.{◌≡◌, Bool, List, [], ◌∷◌, ◌++◌, ℕ, ◌+◌, ◌≤◌, length}
use Rattle.std.proofs.Common.{sym, ap, subst₂, ◌∙◌, inl, inr, zero-le, arith}
use Rattle.std.proofs.Math.Option.{Option, some}
use Rattle.theory_exploration.specs.Order.{Shortlex, AtMost}
use Rattle.theory_model.specs.Model.{messages, Between, nothing}
use Rattle.theory_model.specs.Diagram.{follow}
use Rattle.theory_model.specs.Session.{Session}
use Rattle.theory_model.specs.Verdict.{Pair, before, after}
use Rattle.theory_model.specs.Judge.{Walk, contents}
use Rattle.theory_model.specs.Laws.Queues.{between_wide, between_append}
use Rattle.theory_model.specs.Laws.Walks.{Kept, walk, Afterwards, Across, from_after, from_before, to_after, to_across}
use Rattle.theory_model.specs.Laws.Shown.{contents_plain, contents_across, length_across, same_order}

module _ (S : Session) (W : Walk) (r : Pair) (s₀ : ℕ) (t₀ : Option ℕ) where
  -- the word z parts into u and v, around the step
  pub record PartedWord (z : List ℕ) (s : ℕ) (t : Option ℕ) : Type 0 where
    pub u : List ℕ
    pub v : List ℕ
    pub low : Between 0 W.cut u
    pub high : Between W.cut (messages S.model) v
    pub shown : contents S W z ≡ u ++ (W.out ++ v)
    pub source : follow S.pool (some s₀) (u ++ (W.out ++ v)) ≡ some s
    pub target : follow S.pool t₀ (u ++ (W.into ++ v)) ≡ t
    pub kept : Kept W.entry t

  -- a walk that reads every parted word, and nothing else
  pub record ReadsParted : Type 0 where
    pub parted : (z : List ℕ) (s : ℕ) (t : Option ℕ) → walk S W (some r) z ≡ some (after s t) → PartedWord z s t
    pub read : (u v : List ℕ) (s : ℕ) → Between 0 W.cut u → Between W.cut (messages S.model) v
        → follow S.pool (some s₀) (u ++ (W.out ++ v)) ≡ some s → Kept W.entry (follow S.pool t₀ (u ++ (W.into ++ v)))
        → (z : List ℕ) × (walk S W (some r) z ≡ some (after s (follow S.pool t₀ (u ++ (W.into ++ v))))) × (contents S W z ≡ u ++ (W.out ++ v))
    pub order : (z z' : List ℕ) (s s' : ℕ) (t t' : Option ℕ) → walk S W (some r) z ≡ some (after s t) → walk S W (some r) z' ≡ some (after s' t')
        → AtMost z z' → AtMost (contents S W z) (contents S W z')
    -- the contents are no longer than the word and what the step takes out
    pub short : (z : List ℕ) (s : ℕ) (t : Option ℕ) → walk S W (some r) z ≡ some (after s t) → length (contents S W z) ≤ length z + length W.out

-- FROM BEFORE THE STEP
module _ (S : Session) (W : Walk) (among : W.cut ≤ messages S.model) (own : Between W.cut (messages S.model) W.out) (s₀ : ℕ) (t₀ : Option ℕ) (k : Kept W.entry t₀) where
  abbrev N : ℕ
  N = messages S.model

  module _ (z : List ℕ) (s : ℕ) (t : Option ℕ) (e : walk S W (some (before s₀ t₀)) z ≡ some (after s t)) where
    across : Across S W among s₀ t₀ z s t
    across = from_before S W among s₀ t₀ z (after s t) k e

    across_contents : (A : Across S W among s₀ t₀ z s t) → contents S W z ≡ A.u ++ (W.out ++ A.v)
    across_contents A = ap (contents S W) A.letters ∙ contents_across S W (between_wide zero-le among A.low) A.high

    across_parted : PartedWord S W (before s₀ t₀) s₀ t₀ z s t
    across_parted =
        let A = across in
        record { u = A.u; v = A.v; low = A.low; high = A.high; shown = across_contents A; source = A.source; target = A.target; kept = A.kept }

    across_short : length (contents S W z) ≤ length z + length W.out
    across_short = let A = across in omega (arith, ap length (across_contents A), ap length A.letters, length_across N W.cut W.out among own A.u A.v)

  across_order : (z z' : List ℕ) (s s' : ℕ) (t t' : Option ℕ) → walk S W (some (before s₀ t₀)) z ≡ some (after s t) → walk S W (some (before s₀ t₀)) z' ≡ some (after s' t')
      → AtMost z z' → AtMost (contents S W z) (contents S W z')
  across_order z z' s s' t t' e e' (inl l) =
      let A = across z s t e in
      let A' = across z' s' t' e' in
      let ordered = same_order N W.cut W.out among own A.u A.v A'.u A'.v A.low A.high A'.low A'.high (subst₂ Shortlex A.letters A'.letters l) in
      inl (subst₂ Shortlex (sym (across_contents z s t e A)) (sym (across_contents z' s' t' e' A')) ordered)
  across_order z z' s s' t t' e e' (inr p) = inr (ap (contents S W) p)

  pub reads_before : ReadsParted S W (before s₀ t₀) s₀ t₀
  reads_before =
      record {
        parted = across_parted;
        read = λ u v s a b p q. (u ++ (N ∷ v), to_across S W among s₀ t₀ u v a b p q, contents_across S W (between_wide zero-le among a) b);
        order = across_order;
        short = across_short;
      }

-- FROM AFTER THE STEP: there is nothing to part
abbrev pub plain_walk : Bool → Walk
plain_walk b = record { cut = 0; out = []; into = []; entry = b }

module _ (S : Session) (b : Bool) (s₀ : ℕ) (t₀ : Option ℕ) (k : Kept b t₀) where
  abbrev W : Walk
  W = plain_walk b

  module _ (z : List ℕ) (s : ℕ) (t : Option ℕ) (e : walk S W (some (after s₀ t₀)) z ≡ some (after s t)) where
    afterwards : Afterwards S W zero-le s₀ t₀ z s t
    afterwards = from_after S W zero-le s₀ t₀ z (after s t) k e

    plain : contents S W z ≡ z
    plain = contents_plain S W afterwards.high

    plain_parted : PartedWord S W (after s₀ t₀) s₀ t₀ z s t
    plain_parted =
        let A = afterwards in
        record { u = []; v = z; low = nothing; high = A.high; shown = plain; source = A.source; target = A.target; kept = A.kept }

  pub reads_after : ReadsParted S W (after s₀ t₀) s₀ t₀
  reads_after =
      record {
        parted = plain_parted;
        read = λ u v s x y p q.
            let all : Between 0 (messages S.model) (u ++ v) = between_append (between_wide zero-le zero-le x) y in
            (u ++ v, to_after S W zero-le s₀ t₀ (u ++ v) all p q, contents_plain S W all);
        order = λ z z' s s' t t' e e' l. subst₂ AtMost (sym (plain z s t e)) (sym (plain z' s' t' e')) l;
        short = λ z s t e. omega (arith, ap length (plain z s t e));
      }
