use Rattle.checking_line.specs.Laws.Line.{put_refused}
use Rattle.checking_line.proofs.verdict.put_refused.Goals as goal

pub returns : goal.returns
returns c = put_refused _ _ c.put_word-word.ensures c.put_spaced-number.ensures c.put_word-before.ensures c.put_spaced-after.ensures c.put_byte.ensures
