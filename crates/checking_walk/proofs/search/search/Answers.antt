use Rattle.checking_pairs.specs.Laws.Clearing.{tables_blank}
use Rattle.checking_walk.proofs.search.search.Goals as goal

pub mark-requires-clause-tables : goal.mark-requires-clause-tables
mark-requires-clause-tables c = rw c.requires.none_found (tables_blank c.requires.blank c.requires.seen_len c.requires.queue_len)
