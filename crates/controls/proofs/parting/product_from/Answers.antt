use mathlib.Core.Path.{◌≡◌, ap, ◌∙◌}
use lib.ListN.{drop}
use native.Mathlib.Omega.{arith}
use Rattle.theory_model.specs.Model.{sizes_product}
use Rattle.controls.specs.Controls.{sizes_of}
use Rattle.controls.proofs.parting.product_from.Goals as goal

pub returns : goal.returns
returns c =
    let e : c.loop-j.j ≡ c.args.i = omega (arith, c.loop-j.invariant.1, c.loop-j-test.false) in
    c.loop-j.invariant.0 ∙ ap (λ n. sizes_product (drop n (sizes_of c.args.m.now))) e
