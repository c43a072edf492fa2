use Rattle.checking_line.specs.Laws.Line.{put_bad}
use Rattle.checking_line.proofs.verdict.put_bad.Goals as goal

pub returns : goal.returns
returns c = put_bad _ _ c.put_word-word.ensures c.put_spaced-number.ensures c.put_spaced-counted.ensures c.put_listed-messages.ensures c.put_byte.ensures
