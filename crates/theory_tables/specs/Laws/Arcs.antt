-- An arc of the pool is one of the table, and so leads from a state to a state for a message that there is.
use Rattle.std.specs.Prelude.{ℕ, ◌<◌, ◌≡◌, refl, Bool, true, false, ltb}
use Rattle.std.proofs.Math.Option.{none, some}
use Rattle.std.proofs.Common.{ltb-true}
use Rattle.tables.specs.Limits.{most_messages}
use Rattle.tables.specs.Pool.{arc_at}
use Rattle.tables.specs.Valid.{PoolValid}
use Rattle.tables.specs.Laws.Pool.{ArcValid, arc_valid}
use Rattle.tables.specs.declared.tables.Pool as Declared
use Rattle.theory_model.specs.Laws.Basics.{none_not_some}
use Rattle.theory_tables.specs.Pool.{arc_of}

-- for a message that the table has room for
pub arc_is : (P : Declared.Pool) (s m : ℕ) {t : ℕ} → arc_of P.arcs s m ≡ some t → (m < most_messages) × (arc_at P.arcs s m ≡ some t)
arc_is P s m {t} e = go (ltb m most_messages) refl e
  where
    go : (b : Bool) → ltb m most_messages ≡ b → elim b [ true ↦ arc_at P.arcs s m | false ↦ none ] ≡ some t
        → (m < most_messages) × (arc_at P.arcs s m ≡ some t)
    go true f e' = (ltb-true m most_messages f, e')
    go false f e' = none_not_some refl e'

pub arc_within : {sum : ℕ} (P : Declared.Pool) → PoolValid sum P → (s m t : ℕ) → arc_of P.arcs s m ≡ some t → ArcValid sum P.count s m t
arc_within P G s m t e = let a = arc_is P s m e in arc_valid s m G a.0 a.1
