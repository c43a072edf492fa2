-- What the kind of a transition is, by its number in the table of transitions: 0 local, 1 send, else receive.
use Rattle.std.specs.Prelude.{ℕ, ◌≡◌}
use Rattle.tables.specs.declared.kinds.Kind.{Kind}
use Rattle.tables.specs.declared.kinds.Kind.TheVariants.{Local, Send, Receive}

abbrev pub KindIs : ℕ → Kind → Type 0
KindIs number Local = number ≡ 0
KindIs number Send = number ≡ 1
KindIs number Receive = (number ≡ 0 → ⊥) × (number ≡ 1 → ⊥)
