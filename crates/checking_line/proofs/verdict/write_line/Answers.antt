use Rattle.checking_line.specs.Laws.Line.{writes, writes_none}
use Rattle.checking_line.proofs.verdict.write_line.Goals as goal

pub returns-then-has_room : goal.returns-then-has_room
returns-then-has_room c = writes c.messages_shown.ensures c.has_room.ensures c.if-has_room.true c.put_line.ensures

pub returns-else-has_room : goal.returns-else-has_room
returns-else-has_room c = writes_none c.messages_shown.ensures c.has_room.ensures c.if-has_room.false
