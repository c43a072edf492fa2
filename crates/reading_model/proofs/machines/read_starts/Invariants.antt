use Rattle.std.proofs.Common.{◌≡◌, ◌-◌, replicate}
use Rattle.reading_model.specs.Machines.{read_starts}
use Rattle.reading_model.proofs.machines.read_starts.Given as goal

abbrev pub invariant-loop-i : goal.invariant-loop-i
invariant-loop-i l =
    record {
      rest : read_starts l.r.bytes.now l.r.place l.sizes (l.i-end - l.i) l.i l.starts ≡ read_starts l.fn.r.bytes.now l.fn.r.place l.sizes l.i-end 0 (replicate 4 0);
      bytes : l.r.bytes ≡ l.fn.r.bytes;
    }
