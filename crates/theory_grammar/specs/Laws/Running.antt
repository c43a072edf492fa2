-- One byte of the parse: where the step goes, the parse goes on from there.
use Rattle.std.specs.Prelude.{◌≡◌, refl, List, ◌∷◌, ℕ, suc, length}
use Rattle.std.proofs.Math.Option.{Option, none, some}
use Rattle.std.proofs.Common.{arith}
use Rattle.theory_grammar.specs.Tree.{Tree}
use Rattle.theory_grammar.specs.Parse.{State, Parsed, parsed, stuck, sign, step, run}

abbrev pub goes : Option State → List ℕ → Parsed
goes none s = stuck (suc (length s))
goes (some σ) s = run s σ

pub run_step : (b : ℕ) (s : List ℕ) (σ : State) → run (b ∷ s) σ ≡ goes (step (sign b) σ) s
unfolding run
run_step b s σ = by (step (sign b) σ)
  where
    by : (o : Option State) → elim o [ none ↦ stuck (suc (length s)) | some τ ↦ run s τ ] ≡ goes o s
    by none = refl
    by (some τ) = refl

pub stuck_not_parsed : {X : Type 0} {p : Parsed} {n : ℕ} {t : Tree} → p ≡ stuck n → p ≡ parsed t → X
stuck_not_parsed a b = let z : ◌≡◌ {A = ℕ} 0 1 = cc in absurd (omega arith)
