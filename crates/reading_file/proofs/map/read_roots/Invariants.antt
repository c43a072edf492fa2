use Prim.Native.Nat.{◌-◌}
use mathlib.Core.Path.{◌≡◌}
use Rattle.reading_file.specs.Map.{read_roots}
use Rattle.reading_file.proofs.map.read_roots.Given as goal

abbrev pub invariant-loop-i : goal.invariant-loop-i
invariant-loop-i l =
    (read_roots l.r.bytes.now l.r.place l.n (l.count - l.i) l.i l.roots ≡ read_roots l.initial.r.bytes.now l.initial.r.place l.n l.count 0 l.initial.roots)
    × (l.r.bytes ≡ l.initial.r.bytes)
