use Rattle.numbers.specs.Laws.Put.{put_four}
use Rattle.numbers.proofs.put.put_four.Goals as goal

pub returns : goal.returns
returns c = put_four c.put_word-second.ensures c.put_word-third.ensures c.put_word-fourth.ensures c.put_word.ensures
