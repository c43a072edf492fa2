-- Lookup in tables that were read: what the entries that are found say.
use Rattle.std.specs.Prelude.{ℕ, ◌+◌, ◌-◌, ◌*◌, ◌/◌, ◌%◌, ◌≤◌, ◌<◌, ◌≡◌, refl, Bool, true, false, List, length, get_or, eqb}
use Rattle.std.proofs.Common.{sym, ap, ◌∙◌, arith, eq-eqb, ne_eqb, eqb-true}
use Rattle.std.proofs.Math.Option.{none, some}
use Rattle.std.proofs.Math.Decide.{dec_lt}
use Rattle.std.proofs.lemmas.Bool.{eqb-false}
use Rattle.tables.specs.Limits.{most_pool, most_messages}
use Rattle.tables.specs.Kinds.{reached_of}
use Rattle.tables.specs.Pool.{arc_from, arc_at}
use Rattle.tables.specs.Lookup.{root_of, along_arc, ArcsSmall, AlongTo}
use Rattle.tables.specs.Valid.{PoolValid}
use Rattle.tables.specs.Laws.Pool.{arc_entry_lem}
use Rattle.tables.specs.declared.tables.Pool.{Pool}

-- PLACES: nowhere, or a state
pub reached_nowhere : {t : ℕ} → t ≡ most_pool → reached_of t ≡ none
reached_nowhere {t} e = rw (eq-eqb t most_pool e, reached_of)

pub reached_state : {t : ℕ} → (t ≡ most_pool → ⊥) → reached_of t ≡ some t
reached_state {t} e = rw (ne_eqb t most_pool e, reached_of)

pub reached_small : {t : ℕ} → t < most_pool → reached_of t ≡ some t
reached_small h = reached_state (λ e. omega arith)

-- the test for nowhere, either way
pub nowhere_true : {b : Bool} (t : ℕ) → b ≡ eqb t most_pool → b ≡ true → t ≡ most_pool
nowhere_true t e h = eqb-true t most_pool (sym e ∙ h)

pub nowhere_false : {b : Bool} (t : ℕ) → b ≡ eqb t most_pool → b ≡ false → t ≡ most_pool → ⊥
nowhere_false t e h = eqb-false t most_pool (sym e ∙ h)

pub state_below : {t : ℕ} → t ≤ most_pool → (t ≡ most_pool → ⊥) → t < most_pool
state_below h k = omega (arith, k)

-- A ROOT
-- an entry that is not 0 is 1 plus the root
pub root_entry : (roots : List ℕ) (c : ℕ) {s : ℕ} → root_of roots c ≡ some s → get_or roots c 0 ≡ s + 1
root_entry roots c {s} e = by_entry (eqb (get_or roots c 0) 0) refl e
  where
    by_entry : (b : Bool) → eqb (get_or roots c 0) 0 ≡ b → elim b [ true ↦ none | false ↦ some (get_or roots c 0 - 1) ] ≡ some s → get_or roots c 0 ≡ s + 1
    by_entry true f e' = let z : ◌≡◌ {A = ℕ} 0 1 = cc in absurd (omega arith)
    by_entry false f e' = let x : get_or roots c 0 - 1 ≡ s = cc in omega (arith, eqb-false (get_or roots c 0) 0 f)

-- AN ARC
-- every state has an entry for every message
pub entry_within : {arcs : List ℕ} {s m : ℕ} → ArcsSmall arcs → s < most_pool → m < most_messages → s * most_messages + m < length arcs
entry_within a h k = omega (arith, a.long)

-- an arc leads to a state
pub arc_small : {arcs : List ℕ} (row m : ℕ) {t : ℕ} → ArcsSmall arcs → arc_from arcs row m ≡ some t → t < most_pool
arc_small {arcs} row m h e = omega (arith, arc_entry_lem arcs row m e, h.each (row + m))

-- the table of arcs of a pool that was read
pub arcs_small : {sum : ℕ} {P : Pool} → PoolValid sum P → ArcsSmall P.arcs
arcs_small {sum} {P} z = record { long = z.arcs_long; each = λ k. by_state k (dec_lt k (P.count * most_messages)) }
  where
    by_state : (k : ℕ) → Dec (k < P.count * most_messages) → get_or P.arcs k 0 ≤ most_pool
    by_state k (yes l) =
        let i : ℕ = k / most_messages in
        let m : ℕ = k % most_messages in
        let same_entry : i * most_messages + m ≡ k = omega arith in
        let small : get_or P.arcs k 0 ≤ P.count = rw same_entry at (z.arcs i m (omega arith) (omega arith)) in
        omega (arith, z.most)
    by_state k (no g) = omega (arith, z.arcs_rest k (omega arith))

-- ONE MESSAGE MORE
module _ {arcs : List ℕ} {t m : ℕ} where
  module _ (n : t ≡ most_pool → ⊥) {s : ℕ} (same : s ≡ t) where
    pub along_missing : arc_at arcs s m ≡ none → {r : ℕ} → r ≡ most_pool → AlongTo arcs t m r
    along_missing e h =
        record {
          is = reached_nowhere h ∙ sym (ap (λ o. along_arc arcs o m) (reached_state n) ∙ ap (λ k. arc_at arcs k m) (sym same) ∙ e);
          most = omega arith;
        }

    pub along_arc_lem : ArcsSmall arcs → {next r : ℕ} → arc_at arcs s m ≡ some next → r ≡ next → AlongTo arcs t m r
    along_arc_lem small e h =
        let below = arc_small (s * most_messages) m small e in
        record {
          is =
              reached_small (omega arith)
              ∙ ap some h
              ∙ sym (ap (λ o. along_arc arcs o m) (reached_state n) ∙ ap (λ k. arc_at arcs k m) (sym same) ∙ e);
          most = omega arith;
        }
