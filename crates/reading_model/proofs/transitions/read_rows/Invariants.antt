use Rattle.std.proofs.Common.{◌≡◌, ◌-◌}
use Rattle.reading_model.specs.Transitions.{read_rows}
use Rattle.reading_model.proofs.transitions.read_rows.Given as goal

abbrev pub invariant-loop-t : goal.invariant-loop-t
invariant-loop-t l =
    record {
      rest : read_rows l.r.bytes.now l.r.place l.w.machines.now l.w.queues.now (l.t-end - l.t) l.t l.rows ≡ read_rows l.fn.r.bytes.now l.fn.r.place l.w.machines.now l.w.queues.now l.t-end 0 l.initial.rows;
      bytes : l.r.bytes ≡ l.fn.r.bytes;
    }
