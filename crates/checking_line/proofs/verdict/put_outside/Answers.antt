use Rattle.checking_line.specs.Laws.Line.{put_outside}
use Rattle.checking_line.proofs.verdict.put_outside.Goals as goal

pub returns : goal.returns
returns c = put_outside c.put_word-word.ensures c.put_byte.ensures
