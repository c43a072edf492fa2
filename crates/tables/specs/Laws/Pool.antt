-- Arcs of the table, and where those of a pool that was read lead.
use Rattle.std.specs.Prelude.{ℕ, suc, ◌+◌, ◌-◌, ◌*◌, ◌<◌, ◌≡◌, refl, Bool, true, false, cond, List, get_or, eqb, ltb}
use Rattle.std.proofs.Common.{ap, ◌∙◌, ne_eqb, ltb-true, ltb-false, arith}
use Rattle.std.proofs.Math.Option.{none, some}
use Rattle.std.proofs.lemmas.Bool.{eqb-false}
use Rattle.tables.specs.Limits.{most_messages}
use Rattle.tables.specs.Pool.{arc_from, arc_at}
use Rattle.tables.specs.Valid.{PoolValid}
use Rattle.tables.specs.declared.tables.Pool.{Pool}

-- an arc of the table is an entry that is not 0
pub arc_entry_lem : (arcs : List ℕ) (row m : ℕ) {t : ℕ} → arc_from arcs row m ≡ some t → get_or arcs (row + m) 0 ≡ suc t
arc_entry_lem arcs row m {t} e = go (eqb (get_or arcs (row + m) 0) 0) refl e
  where
    go : (b : Bool) → eqb (get_or arcs (row + m) 0) 0 ≡ b → cond b none (some (get_or arcs (row + m) 0 - 1)) ≡ some t → get_or arcs (row + m) 0 ≡ suc t
    go true f e' = let z : ◌≡◌ {A = ℕ} 0 1 = cc in omega arith
    go false f e' =
        let n : get_or arcs (row + m) 0 - 1 ≡ t = cc in
        let p = eqb-false (get_or arcs (row + m) 0) 0 f in
        omega arith

pub entry_arc : (arcs : List ℕ) (i m : ℕ) {t : ℕ} → get_or arcs (i * most_messages + m) 0 ≡ suc t → arc_at arcs i m ≡ some t
entry_arc arcs i m {t} e =
    let f : eqb (get_or arcs (i * most_messages + m) 0) 0 ≡ false = ne_eqb (get_or arcs (i * most_messages + m) 0) 0 (omega arith) in
    let n : get_or arcs (i * most_messages + m) 0 - 1 ≡ t = omega arith in
    ap (λ b. cond b none (some (get_or arcs (i * most_messages + m) 0 - 1))) f ∙ ap some n

-- where an arc of a pool that was read comes from and leads to
pub record ArcValid (sum n i m t : ℕ) : Type 0 where
  pub from : i < n
  pub message : m < sum
  pub to : t < n

pub arc_valid : {sum : ℕ} {P : Pool} (i m : ℕ) {t : ℕ} → PoolValid sum P → m < most_messages → arc_at P.arcs i m ≡ some t
    → ArcValid sum P.count i m t
arc_valid {sum} {P} i m {t} z h e = go (ltb i P.count) refl (ltb m sum) refl
  where
    entry : get_or P.arcs (i * most_messages + m) 0 ≡ suc t
    entry = arc_entry_lem P.arcs (i * most_messages) m e

    go : (b : Bool) → ltb i P.count ≡ b → (c : Bool) → ltb m sum ≡ c → ArcValid sum P.count i m t
    go false f c g =
        let l = ltb-false i P.count f in
        absurd (omega (arith, z.arcs_rest (i * most_messages + m) (omega arith), entry))
    go true f false g =
        absurd (omega (arith, z.arcs_above i m (ltb-true i P.count f) (ltb-false m sum g) h, entry))
    go true f true g =
        let l = ltb-true i P.count f in
        record { from = l; message = ltb-true m sum g; to = omega (arith, z.arcs i m l h, entry) }
