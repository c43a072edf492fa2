-- Document 01's file R is well formed, so the theorems speak of something; what follows for its runs is in proofs/Witness.antt.
use Rattle.std.specs.Prelude.{◌≡◌, refl, Bool, true, false, List, [], ◌∷◌, ◌++◌, ℕ, ◌<◌, eqb, get_or}
use Rattle.std.proofs.Common.{sym, ap, subst, zero-le, arith, eqb-true}
use Rattle.std.proofs.Math.Option.{Option, none, some}
use mathlib.Core.List.Memᴰ
use Rattle.theory_exploration.specs.Mem.{Mem, here, there}
use Rattle.theory_model.specs.Model.{Between, nothing, message, none_left, queue, queue_of}
use Rattle.theory_model.specs.Diagram.{OutOfOrder}
use Rattle.theory_model.specs.Session.{Session, OwnWord, WellFormed}
use Rattle.theory_model.specs.Examples.{sender, receiver, model_r, session_r, any_number}
use Rattle.theory_model.specs.Laws.Basics.{none_not_some}
use Rattle.theory_model.specs.Laws.Ordered.{in_order, accepted_between}

abbrev pub R : Session
R = session_r any_number []

-- the pool has arcs for message 0 alone, and one state
arc_is : (s m s' : ℕ) → any_number.arc s m ≡ some s' → (m ≡ 0) × (s' ≡ 0)
arc_is s m s' e = by_message (eqb m 0) refl e
  where
    by_message : (b : Bool) → eqb m 0 ≡ b → ◌≡◌ {A = Option ℕ} (elim b [ true ↦ some 0 | false ↦ none ]) (some s') → (m ≡ 0) × (s' ≡ 0)
    by_message true t p = (eqb-true m 0 t, cc)
    by_message false t p = none_not_some refl p

of_two : {A : Type 0} (P : A → Type 0) (x y : A) → P x → P y → (z : A) → Mem z (x ∷ y ∷ []) → P z
of_two P x y p q z (here e) = subst P (sym e) p
of_two P x y p q z (there (here e)) = subst P (sym e) q
of_two P x y p q z (there (there m)) = absurd (Memᴰ.not-nil m)

pub r_well_formed : WellFormed R
r_well_formed =
    record {
      starts = (omega arith, (omega arith, tt));
      starting = queue nothing none_left;
      moves = of_two (λ τ. τ.to < get_or (1 ∷ 1 ∷ []) τ.machine 0) sender receiver (omega arith) (omega arith);
      words = of_two (λ τ. OwnWord model_r τ.action) sender receiver (omega arith, message zero-le (omega arith) nothing) (omega arith, message zero-le (omega arith) nothing);
      arcs = λ s m s' e. omega (arith, arc_is s m s' e);
      roots = λ c s e. let z : 0 ≡ s = cc in omega arith;
      entries = λ c s m. absurd (Memᴰ.not-nil m);
      ordered = λ c u e. let b = accepted_between any_number 1 (λ s m s' p. omega (arith, arc_is s m s' p)) (some 0) u e in in_order (1 ∷ []) u b (order u b);
    }
  where
    -- of one queue, no message is of a later one
    first : (a : List ℕ) (m : ℕ) (b : List ℕ) → Between 0 1 (a ++ (m ∷ b)) → m ≡ 0
    first [] m b (message l h _) = omega arith
    first (k ∷ a) m b (message l h z) = first a m b z

    order : (u : List ℕ) → Between 0 1 u → OutOfOrder (1 ∷ []) u → ⊥
    order u b o =
        let z = first o.before o.later (o.between ++ (o.earlier ∷ o.after)) (subst (Between 0 1) o.is b) in
        let n : queue_of (1 ∷ []) o.later ≡ 0 = ap (queue_of (1 ∷ [])) z in
        omega (arith, o.back)
