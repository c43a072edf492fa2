-- The lent tables stay those that the caller lent.
use Rattle.std.specs.Prelude.{◌≡◌}
use Rattle.checking_pairs.specs.declared.marks.Marks.{Marks}

abbrev pub Kept : Marks → Marks → Type 0
Kept m m' = (m'.seen.ghost_name ≡ m.seen.ghost_name) × (m'.queue.ghost_name ≡ m.queue.ghost_name)
