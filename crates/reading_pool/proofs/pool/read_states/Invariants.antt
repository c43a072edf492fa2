use Rattle.std.proofs.Common.{◌≡◌, ◌-◌}
use Rattle.reading_pool.specs.Pool.{read_states}
use Rattle.reading_pool.proofs.pool.read_states.Given as goal

abbrev pub invariant-loop-i : goal.invariant-loop-i
invariant-loop-i l =
    record {
      rest : read_states l.r.bytes.now l.r.place l.b.states l.b.messages (l.i-end - l.i) l.i l.finals l.arcs ≡ read_states l.fn.r.bytes.now l.fn.r.place l.b.states l.b.messages l.i-end 0 l.initial.finals l.initial.arcs;
      bytes : l.r.bytes ≡ l.fn.r.bytes;
    }
