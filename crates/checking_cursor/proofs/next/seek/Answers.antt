use Prim.Native.Nat.{◌<◌}
use mathlib.Core.Path.{sym, subst}
use Rattle.tables.specs.Laws.Kinds.{control_made}
use Rattle.checking_cursor.specs.Laws.Seeking.{seek_begins, none_found}
use Rattle.checking_cursor.proofs.Seeking.{seek_step, seek_on, seek_entries}
use Rattle.checking_cursor.proofs.next.seek.Goals as goal

pub loop-c-init : goal.loop-c-init
loop-c-init c = seek_begins c.requires.movable _ _ c.requires.from_lt_product.0 c.requires.from_lt_product.1

pub at_control-requires : goal.at_control-requires
at_control-requires c = record { movable = c.requires.movable; c_lt_product = (subst (λ n. n < c.args.h.machines.product) (sym (control_made c.requires.movable.machines _ c.loop-c-test.true c.new-control.ensures)) c.loop-c-test.true, c.loop-c.invariant.most) }

pub returns-in-Some : goal.returns-in-Some
returns-in-Some c = seek_step c.requires.movable c.loop-c.invariant _ c.at_control.ensures (control_made c.requires.movable.machines _ c.loop-c-test.true c.new-control.ensures) c.loop-c-test.true _ c.in-Some.is

pub loop-c-preserved : goal.loop-c-preserved
loop-c-preserved c = seek_on c.requires.movable c.loop-c.invariant c.new-control.result c.at_control.ensures (control_made c.requires.movable.machines _ c.loop-c-test.true c.new-control.ensures) c.loop-c-test.true (none_found _ c.in_default.not-Some)

pub returns : goal.returns
returns c = seek_entries c.requires.movable c.loop-c.invariant c.loop-c-test.false (c.entry_from.ensures _)
