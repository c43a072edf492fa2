-- What an expression tells, and its pool as bytes.
use Rattle.std.specs.Prelude.{ℕ, ◌+◌, List, ◌++◌, drop}
use Rattle.tables.specs.Limits.{most_pool}
use Rattle.tables.specs.Pool.{pool_arcs}
use Rattle.tables.specs.declared.tables.Pool.{Pool}
use Rattle.expression.specs.Expression.{Reply, root, refused}
use Rattle.c_replies.specs.Told.{told_of, told_refusal}
use Rattle.c_replies.specs.declared.told.Told.{Told}

abbrev pub DRAWN : ℕ
DRAWN = 15

-- the root, and how many states there are
abbrev pub told_drawn : Reply → ℕ → Told
told_drawn (root r) count = told_of DRAWN r count 0 0
told_drawn (refused k p) count = told_refusal k p

-- final marks, then arcs, as they lie in the tables of a file
abbrev pub pool_out : Pool → List ℕ
pool_out P = P.finals ++ P.arcs

abbrev pub pool_least : ℕ
pool_least = most_pool + pool_arcs

-- the pool's space at exit: the pool fills its front; after a refusal it is as it was
abbrev pub pool_after : Reply → Pool → List ℕ → List ℕ
pool_after (root r) P space = pool_out P ++ drop pool_least space
pool_after (refused k p) P space = space
