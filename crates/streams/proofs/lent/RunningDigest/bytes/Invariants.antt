use Rattle.std.proofs.Common.{◌≡◌, drop}
use Rattle.streams.specs.Lent.{digest_from}
use Rattle.streams.proofs.lent.RunningDigest.bytes.Given as goal

abbrev pub invariant-loop-byte : goal.invariant-loop-byte
invariant-loop-byte l = digest_from l.self.sum (drop l.byte-index l.memory) ≡ digest_from l.fn.self.sum l.memory
