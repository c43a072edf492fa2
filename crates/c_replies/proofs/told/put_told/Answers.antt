use mathlib.Core.Path.{refl}
use lib.ListN.{set, length-set}
use native.Mathlib.Omega.{arith}
use Rattle.c_replies.specs.Laws.{told_stored}
use Rattle.c_replies.proofs.told.put_told.Goals as goal

pub bounds-reply-1 : goal.bounds-reply-1
bounds-reply-1 c = omega (arith, length-set c.args.reply.now 0 c.args.t.first, c.requires)

pub bounds-reply-2 : goal.bounds-reply-2
bounds-reply-2 c = omega (arith, length-set (set c.args.reply.now 0 c.args.t.first) 1 c.args.t.second, length-set c.args.reply.now 0 c.args.t.first, c.requires)

pub returns : goal.returns
returns c =
    record {
      kind = refl;
      reply = told_stored c.args.reply.now c.args.t.first c.args.t.second c.args.t.third c.args.t.fourth c.requires;
    }
