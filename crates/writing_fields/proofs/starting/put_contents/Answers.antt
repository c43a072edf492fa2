use Rattle.theory_format.specs.Spelled.{content}
use Rattle.writing_fields.specs.Laws.Writers.{rounds_on, rounds_end}
use Rattle.writing_fields.proofs.starting.put_contents.Goals as goal

pub loop-i-preserved : goal.loop-i-preserved
loop-i-preserved c = rounds_on (content c.args.lengths.now c.args.table.now) 512 c.loop-i-test.true c.loop-i.invariant c.put_content.ensures

pub returns : goal.returns
returns c = rounds_end (content c.args.lengths.now c.args.table.now) 512 c.loop-i-test.false c.loop-i.invariant
