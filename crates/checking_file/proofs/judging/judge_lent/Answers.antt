use mathlib.Core.Path.{refl}
use Rattle.reading_file.specs.Session.{tables_in}
use Rattle.checking_file.specs.Laws.Check.{room_scratch, items_conclude}
use Rattle.checking_file.proofs.judging.judge_lent.Goals as goal

pub judge_all-requires : goal.judge_all-requires
judge_all-requires c = record { ready = record { scratch = room_scratch c.requires.room; room = c.requires.room.contents_long } }

pub returns : goal.returns
returns c =
    items_conclude (tables_in c.args.s.now) c.requires.room c.judge_all.ensures c.from.ensures refl refl
