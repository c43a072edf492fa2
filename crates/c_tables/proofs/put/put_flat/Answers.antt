use Rattle.c_tables.specs.Laws.Put.{put_small, put_starting, put_large, put_flat}
use Rattle.c_tables.proofs.put.put_flat.Goals as goal

pub returns : goal.returns
returns c =
    let t = c.args.t in
    let v = c.requires.valid in
    put_flat t v (put_small t v c.put_four-second.ensures) (put_starting t v c.put_word-third.ensures c.put_word-fourth.ensures)
    (put_large t v c.put_four-fifth.ensures) c.put_word.ensures
