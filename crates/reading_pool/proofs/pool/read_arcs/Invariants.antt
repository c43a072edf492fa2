use Rattle.std.proofs.Common.{◌≡◌, ◌-◌}
use Rattle.reading_pool.specs.Pool.{read_arcs}
use Rattle.reading_pool.proofs.pool.read_arcs.Given as goal

abbrev pub invariant-loop-i : goal.invariant-loop-i
invariant-loop-i l =
    record {
      rest : read_arcs l.r.bytes.now l.r.place l.b.states l.b.messages l.least l.row (l.count - l._i) l.arcs ≡ read_arcs l.fn.r.bytes.now l.fn.r.place l.b.states l.b.messages 0 l.row l.count l.initial.arcs;
      bytes : l.r.bytes ≡ l.fn.r.bytes;
    }
