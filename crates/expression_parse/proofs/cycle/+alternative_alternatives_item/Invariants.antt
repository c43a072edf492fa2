use Rattle.std.proofs.Common.{◌+◌, ◌-◌, ◌*◌, length}
use Rattle.expression_parse.proofs.cycle.+alternative_alternatives_item.Given as goal

abbrev pub decreases-alternative : goal.decreases-alternative
decreases-alternative l = 3 * (length l.s.now - l.at) + 1

abbrev pub decreases-alternatives : goal.decreases-alternatives
decreases-alternatives l = 3 * (length l.s.now - l.at) + 2

abbrev pub decreases-item : goal.decreases-item
decreases-item l = 3 * (length l.s.now - l.at)
