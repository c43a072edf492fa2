use native.Mathlib.Omega.{arith}
use Rattle.checking_pairs.specs.Laws.Marks.{tables_most, tables_room, pushed_old, pushed_new}
use Rattle.checking_pairs.proofs.marks.Marks.mark.Goals as goal

pub returns-then-self-code-ne0-clause-pushed : goal.returns-then-self-code-ne0-clause-pushed
returns-then-self-code-ne0-clause-pushed c = pushed_old c.requires.tables _ _ c.if-self-code-ne0.true

pub overflow_add-self : goal.overflow_add-self
overflow_add-self c = omega (arith, tables_most c.requires.tables, c.requires.from_bound)

pub overflow_cast-self : goal.overflow_cast-self
overflow_cast-self c = omega (arith, tables_most c.requires.tables, c.requires.from_bound)

pub offset_bounds-self-self : goal.offset_bounds-self-self
offset_bounds-self-self c = omega (arith, tables_most c.requires.tables)

pub bounds-self-self : goal.bounds-self-self
bounds-self-self c = omega (arith, tables_room c.requires.tables c.args.from c.args.code c.requires.code_lt_most_codes c.if-self-code-ne0.false, c.requires.tables.queue_long)

pub overflow_add-self-2 : goal.overflow_add-self-2
overflow_add-self-2 c = omega (arith, tables_most c.requires.tables)

pub returns-clause-pushed : goal.returns-clause-pushed
returns-clause-pushed c = pushed_new c.requires.tables _ _ c.requires.code_lt_most_codes c.if-self-code-ne0.false c.requires.from_bound
