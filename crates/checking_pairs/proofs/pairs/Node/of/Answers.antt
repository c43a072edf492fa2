use Rattle.checking_pairs.specs.Laws.Pairs.{node_low, node_high}
use Rattle.checking_pairs.proofs.pairs.Node.of.Goals as goal

pub returns-then-code-lt-AFTER : goal.returns-then-code-lt-AFTER
returns-then-code-lt-AFTER c = node_low _ c.if-code-lt-AFTER.true

pub returns : goal.returns
returns c = node_high _ c.if-code-lt-AFTER.false c.requires
