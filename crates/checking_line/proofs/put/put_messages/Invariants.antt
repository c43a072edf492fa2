use Rattle.std.proofs.Common.{length, drop, ◌-◌, ◌≤◌, ◌+◌, ◌*◌}
use Rattle.numbers.specs.Laws.Put.{Left}
use Rattle.theory_model.specs.Line.{spaced_all}
use Rattle.checking_line.proofs.put.put_messages.Given as goal

abbrev pub invariant-loop-message : goal.invariant-loop-message
invariant-loop-message l =
    Left l.initial.s l.at (spaced_all l.messages) l.s l.next (spaced_all (drop l.message-index l.messages))
    × (l.next + 4 * (length l.messages - l.message-index) ≤ l.at + 4 * length l.messages)
