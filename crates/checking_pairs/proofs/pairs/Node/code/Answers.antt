use Rattle.checking_pairs.specs.Laws.Pairs.{node_coded}
use Rattle.checking_pairs.proofs.pairs.Node.code.Goals as goal

pub returns : goal.returns
returns c = rw (c.from.ensures, c.from-2.ensures) (node_coded c.args.self c.requires)
