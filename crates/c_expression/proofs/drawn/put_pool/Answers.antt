use native.Mathlib.Omega.{arith}
use mathlib.Core.Path.{◌≡◌}
use lib.ListN.{length}
use Rattle.tables.specs.Limits.{most_pool}
use Rattle.tables.specs.Pool.{pool_arcs}
use Rattle.c_expression.specs.Laws.{pool_front}
use borrow.Author.Rules.{rules}
use Rattle.c_expression.proofs.drawn.put_pool.Goals as goal

pub put_word-next-requires : goal.put_word-next-requires
put_word-next-requires c = let f : length c.args.pool.now.finals ≡ most_pool = search (rules, c.well_formed) in omega (arith, c.requires)

pub put_word-requires : goal.put_word-requires
put_word-requires c = let f : length c.args.pool.now.finals ≡ most_pool = search (rules, c.well_formed) in let a : length c.args.pool.now.arcs ≡ pool_arcs = search (rules, c.well_formed) in omega (arith, c.requires, c.put_word-next.ensures.next)

pub returns : goal.returns
returns c = pool_front (search (rules, c.well_formed)) (search (rules, c.well_formed)) c.requires c.put_word-next.ensures c.put_word.ensures
