use Prim.Native.Nat.{◌-◌}
use mathlib.Core.Path.{◌≡◌}
use Rattle.reading_file.specs.Bad.{read_entries}
use Rattle.reading_file.proofs.bad.read_entries.Given as goal

abbrev pub invariant-loop-b : goal.invariant-loop-b
invariant-loop-b l =
    (read_entries l.r.bytes.now l.r.place l.product l.n (l.count - l.b) l.b l.rows ≡ read_entries l.initial.r.bytes.now l.initial.r.place l.product l.n l.count 0 l.initial.rows)
    × (l.r.bytes ≡ l.initial.r.bytes)
