-- Where the parse is stuck, a text leaves the grammar: what was read is some text's beginning, and one byte more is none's.
use Rattle.std.specs.Prelude.{◌≡◌, refl, ◌↔◌, List, [], ◌∷◌, ◌++◌, ℕ, zero, suc, ◌-◌, ◌≤◌, ◌<◌, length, take}
use Rattle.std.proofs.Common.{sym, ap, ◌∙◌, arith}
use Rattle.std.proofs.Math.Option.{Option, none, some}
use Rattle.theory_grammar.specs.Tree.{Tree}
use Rattle.theory_grammar.specs.Grammar.{Begins, Outside}
use Rattle.theory_grammar.specs.Parse.{Mode, item, Frame, frame, State, state, whole, step, sign, Parsed, parsed, stuck, run, parse}
use Rattle.theory_grammar.specs.Laws.Running.{goes, run_step, stuck_not_parsed}
use Rattle.theory_grammar.specs.Laws.Sound.{parsed_spelled}
use Rattle.theory_grammar.specs.Laws.Complete.{spelled_parsed}

same_left : {n k : ℕ} → stuck n ≡ stuck k → n ≡ k
same_left e = cc

-- which way the step of the first byte went
stuck_first : (b : ℕ) (s : List ℕ) (σ : State) (n : ℕ) → run (b ∷ s) σ ≡ stuck n
    → {X : Type 0} → (step (sign b) σ ≡ none → n ≡ suc (length s) → X)
    → ((τ : State) → step (sign b) σ ≡ some τ → run s τ ≡ stuck n → X) → X
stuck_first b s σ n e {X} stops goes_on = by (step (sign b) σ) refl (sym (run_step b s σ) ∙ e)
  where
    by : (o : Option State) → step (sign b) σ ≡ o → goes o s ≡ stuck n → X
    by none f g = stops f (sym (same_left g))
    by (some τ) f g = goes_on τ f g

pub stuck_left : (s : List ℕ) (σ : State) (n : ℕ) → run s σ ≡ stuck n → n ≤ length s
unfolding run
stuck_left [] (state [] ds is m) n e = stuck_not_parsed e refl
stuck_left [] (state (f ∷ fs) ds is m) n e = let z = same_left e in omega arith
stuck_left (b ∷ s) σ n e = stuck_first b s σ n e (λ _ h. omega arith) (λ τ _ g. let h = stuck_left s τ n g in omega arith)

pub stuck_most : (s : List ℕ) (n : ℕ) → parse s ≡ stuck n → n ≤ length s
stuck_most s n e = stuck_left s _ n e

-- from a state on, some text that begins so is read to its end
record Ends (u : List ℕ) (σ : State) : Type 0 where
  rest : List ℕ
  tree : Tree
  read : run (u ++ rest) σ ≡ parsed tree

-- closing brackets end every group
ends_closing : (fs : List Frame) (ds is : List Tree) (m : Mode) → Ends [] (state fs ds is m)
unfolding run
ends_closing [] ds is m = record { rest = []; tree = whole ds is m; read = refl }
ends_closing (frame ds' is' ∷ fs) ds is m =
    let r = ends_closing fs ds' is' (item (whole ds is m)) in
    record { rest = 41 ∷ r.rest; tree = r.tree; read = r.read }

ends_any : (σ : State) → Ends [] σ
ends_any (state fs ds is m) = ends_closing fs ds is m

ends_before : (b : ℕ) (u : List ℕ) (σ τ : State) → step (sign b) σ ≡ some τ → Ends u τ → Ends (b ∷ u) σ
ends_before b u σ τ e r =
    record { rest = r.rest; tree = r.tree; read = run_step b (u ++ r.rest) σ ∙ ap (λ o. goes o (u ++ r.rest)) e ∙ r.read }

-- what was read is shared
stuck_shared : (s : List ℕ) (σ : State) (n k : ℕ) → run s σ ≡ stuck n → k ≡ length s - n → Ends (take k s) σ
stuck_shared s σ n zero e h = ends_any σ
stuck_shared [] σ n (suc k) e h = absurd (omega arith)
stuck_shared (b ∷ s) σ n (suc k) e h =
    stuck_first b s σ n e (λ _ g. absurd (omega arith))
    (λ τ f g. ends_before b (take k s) σ τ f (stuck_shared s τ n k g (omega arith)))

-- one byte more is not
stuck_longest : (s : List ℕ) (σ : State) (n q : ℕ) → run s σ ≡ stuck n → length s - n < q → q ≤ length s → Ends (take q s) σ → ⊥
stuck_longest s σ n zero e h l r = omega arith
stuck_longest [] σ n (suc q) e h l r = omega arith
stuck_longest (b ∷ s) σ n (suc q) e h l r =
    let u : List ℕ = take q s ++ r.rest in
    let f : goes (step (sign b) σ) u ≡ parsed r.tree = sym (run_step b u σ) ∙ r.read in
    stuck_first b s σ n e (λ o g. stuck_not_parsed (ap (λ x. goes x u) o) f)
    (λ τ o g.
    let m = stuck_left s τ n g in
    stuck_longest s τ n q g (omega arith) (omega arith)
    (record { rest = r.rest; tree = r.tree; read = sym (ap (λ x. goes x u) o) ∙ f }))

ends_begins : (u : List ℕ) → Ends u (state [] [] [] Mode.fresh) → Begins u
ends_begins u r = record { rest = r.rest; tree = r.tree; text = parsed_spelled (u ++ r.rest) r.tree r.read }

begins_ends : (u : List ℕ) → Begins u → Ends u (state [] [] [] Mode.fresh)
begins_ends u b = record { rest = b.rest; tree = b.tree; read = spelled_parsed (u ++ b.rest) b.tree b.text }

stuck_outside : (s : List ℕ) (n p : ℕ) → parse s ≡ stuck n → p ≡ length s - n → Outside s p
stuck_outside s n p e h =
    let m = stuck_most s n e in
    record {
      within = omega arith;
      shared = ends_begins (take p s) (stuck_shared s _ n p e h);
      longest = λ q l g b. stuck_longest s _ n q e (omega arith) g (begins_ends (take q s) b);
      spells_none = λ t x. stuck_not_parsed e (spelled_parsed s t x);
    }

-- a text has only one such place
outside_one : (s : List ℕ) (p q : ℕ) → Outside s p → Outside s q → p ≡ q
outside_one s p q a b =
    let h : p < q → ⊥ = λ l. a.longest q l b.within b.shared in
    let g : q < p → ⊥ = λ l. b.longest p l a.within a.shared in
    omega arith

-- WHERE THE PARSE IS STUCK is the place of a text outside the grammar, and there is no other
pub outside_is : (s : List ℕ) (p : ℕ) → ((n : ℕ) × (parse s ≡ stuck n) × (p ≡ length s - n)) ↔ Outside s p
outside_is s p = (λ (n, e, h). stuck_outside s n p e h, λ o. by o (parse s) refl)
  where
    by : Outside s p → (r : Parsed) → parse s ≡ r → (n : ℕ) × (parse s ≡ stuck n) × (p ≡ length s - n)
    by o (parsed t) e = absurd (o.spells_none t (parsed_spelled s t e))
    by o (stuck n) e = (n, e, outside_one s p (length s - n) o (stuck_outside s n (length s - n) e refl))
