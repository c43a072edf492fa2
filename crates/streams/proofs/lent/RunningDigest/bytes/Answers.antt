use Rattle.std.proofs.Common.{sym, ap, ◌∙◌, drop, ℕ, ◌+◌}
use Rattle.streams.specs.Lent.{digest_from}
use Rattle.streams.specs.Laws.Lent.{digest_more, digest_done}
use Rattle.streams.proofs.lent.RunningDigest.bytes.Goals as goal

pub loop-byte-preserved : goal.loop-byte-preserved
loop-byte-preserved c =
    ap (λ (h : ℕ). digest_from h (drop (c.loop-byte.byte-index + 1) c.args.memory.now)) c.number.ensures
    ∙ sym (digest_more _ _ _ c.loop-byte-test.true) ∙ c.loop-byte.invariant

pub returns : goal.returns
returns c = sym (digest_done _ _ _ c.loop-byte-test.false) ∙ c.loop-byte.invariant
