use Rattle.checking_line.specs.Laws.Line.{put_leaves}
use Rattle.checking_line.proofs.verdict.put_leaves.Goals as goal

pub returns : goal.returns
returns c =
    put_leaves _ _ _ _ c.put_word-word.ensures c.put_spaced-from.ensures c.put_spaced-step.ensures c.put_spaced-counted.ensures
    c.put_spaced-followed.ensures c.put_listed-messages.ensures c.put_byte.ensures
