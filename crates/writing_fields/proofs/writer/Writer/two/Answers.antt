use mathlib.Core.Path.{sym, refl, ◌∙◌}
use native.Mathlib.Omega.{arith}
use lib.ListN.{length}
use Rattle.writing_fields.specs.Laws.Numbers.{put_both}
use Rattle.writing_fields.specs.Laws.Writers.{puts_then}
use Rattle.writing_fields.proofs.writer.Writer.two.Goals as goal

pub returns-then-both_short : goal.returns-then-both_short
returns-then-both_short c = record {
  put = put_both c.args.self.now.bytes.now c.args.self.now.place c.args.a c.args.b (length c.args.self.now.bytes.now) (sym c.both_short.ensures ∙ c.if-both_short.true);
  same = refl;
}

pub returns : goal.returns
returns c = puts_then c.number.ensures c.number-2.ensures (omega arith)
