use Rattle.std.proofs.Common.{◌≡◌, ◌-◌, replicate}
use Rattle.reading_model.specs.Queues.{read_contents}
use Rattle.reading_model.specs.Lent.{lent_contents}
use Rattle.reading_model.proofs.starting.read_contents.Given as goal

abbrev pub invariant-loop-i : goal.invariant-loop-i
invariant-loop-i l =
    record {
      rest : read_contents l.r.bytes.now l.r.place l.c.queues (l.c.queues.count - l.i) l.i (lent_contents l.lengths l.contents) ≡ read_contents l.fn.r.bytes.now l.fn.r.place l.c.queues l.c.queues.count 0 (replicate 4 0, replicate 32 0);
      bytes : l.r.bytes ≡ l.fn.r.bytes;
    }
