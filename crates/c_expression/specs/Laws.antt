-- A pool that is put as two words stands at the front.
use Rattle.std.specs.Prelude.{◌≡◌, List, ◌++◌, ℕ, ◌+◌, ◌≤◌, length, drop}
use Rattle.std.proofs.Common.{ap, ◌∙◌, arith, length-append}
use Rattle.numbers.specs.Put.{Put}
use Rattle.numbers.specs.Laws.Put.{put_then, put_front}
use Rattle.tables.specs.Limits.{most_pool}
use Rattle.tables.specs.Pool.{pool_arcs}
use Rattle.c_expression.specs.Drawn.{pool_least}

pub pool_front : {entry mid exit finals arcs : List ℕ} {p r : ℕ} → length finals ≡ most_pool → length arcs ≡ pool_arcs → pool_least ≤ length entry
    → Put entry 0 (length finals) finals mid p → Put mid p (length arcs) arcs exit r → exit ≡ (finals ++ arcs) ++ drop pool_least entry
pool_front {entry} {finals = finals} {arcs = arcs} f a h v w =
    let long : length (finals ++ arcs) ≡ pool_least = omega (arith, length-append finals arcs) in
    put_front (put_then {most = length finals + length arcs} v w (omega arith)) (omega arith)
    ∙ ap (λ k. (finals ++ arcs) ++ drop k entry) long
