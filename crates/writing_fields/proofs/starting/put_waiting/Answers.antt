use Prim.Native.Nat.{◌<◌}
use mathlib.Core.Path.{sym, refl, ◌∙◌}
use native.Mathlib.Omega.{arith}
use Rattle.theory_format.specs.Spelled.{contents}
use Rattle.writing_fields.specs.Laws.Waiting.{waiting_none, waiting_some}
use borrow.Author.Rules.{rules}
use Rattle.writing_fields.proofs.starting.put_waiting.Goals as goal

pub returns-then-waits : goal.returns-then-waits
unfolding contents
returns-then-waits c =
    let few : c.args.q.count < 256 = search rules in
    record {
      put = waiting_some c.args.q 130560 (sym c.waits.ensures ∙ c.if-waits.true) c.put_contents.ensures.put (omega arith);
      same = c.put_contents.ensures.same;
    }

pub returns-else-waits : goal.returns-else-waits
returns-else-waits c = record { put = waiting_none c.args.q _ _ _ (sym c.waits.ensures ∙ c.if-waits.false); same = refl }
