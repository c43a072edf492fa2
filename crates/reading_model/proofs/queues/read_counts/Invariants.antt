use Rattle.std.proofs.Common.{◌≡◌, ◌≤◌, ◌-◌, replicate}
use Rattle.reading_model.specs.Queues.{read_counts}
use Rattle.reading_model.proofs.queues.read_counts.Given as goal

abbrev pub invariant-loop-i : goal.invariant-loop-i
invariant-loop-i l =
    record {
      rest : read_counts l.r.bytes.now l.r.place l.sum (l.count - l.i) l.i l.counts ≡ read_counts l.fn.r.bytes.now l.fn.r.place 0 l.count 0 (replicate 4 0);
      bytes : l.r.bytes ≡ l.fn.r.bytes;
      most : l.sum ≤ 32;
    }
