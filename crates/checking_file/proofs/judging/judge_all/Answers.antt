use mathlib.Core.Path.{◌≡◌}
use Rattle.std.proofs.Common.{rules}
use Rattle.checking_file.proofs.judging.judge_all.Goals as goal

pub returns : goal.returns
returns c =
    let same = c.judge_from.ensures.same in
    let ns = same.seen in
    let nq = same.queue in
    let nc = same.contents in
    let es : c.seen-1.given.0 ≡ c.judge_from.new.m.seen.now = search rules in
    let eq : c.queue-1.given.0 ≡ c.judge_from.new.m.queue.now = search rules in
    let ec : c.contents-1.given.0 ≡ c.judge_from.new.m.contents.now = search rules in
    rw (es, eq, ec) c.judge_from.ensures.judged
