use Rattle.std.proofs.Common.{◌≡◌, ◌≤◌, ◌-◌, replicate}
use Rattle.reading_model.specs.Machines.{read_sizes}
use Rattle.reading_model.proofs.machines.read_sizes.Given as goal

abbrev pub invariant-loop-i : goal.invariant-loop-i
invariant-loop-i l =
    record {
      rest : read_sizes l.r.bytes.now l.r.place l.product (l.i-end - l.i) l.i l.sizes ≡ read_sizes l.fn.r.bytes.now l.fn.r.place 1 l.i-end 0 (replicate 4 0);
      bytes : l.r.bytes ≡ l.fn.r.bytes;
      most : l.product ≤ 256;
    }
