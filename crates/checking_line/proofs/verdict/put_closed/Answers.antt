use Rattle.checking_line.specs.Laws.Line.{put_closed}
use Rattle.checking_line.proofs.verdict.put_closed.Goals as goal

pub returns : goal.returns
returns c = put_closed _ c.put_word-word.ensures c.put_spaced-number.ensures c.put_byte.ensures
