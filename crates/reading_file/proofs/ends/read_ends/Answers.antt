use mathlib.Core.Path.{refl, sym, ◌∙◌}
use borrow.Author.Tests.{le-leb, lt-leb}
use Rattle.numbers.specs.Laws.Parts.{handed_on_with}
use Rattle.tables.specs.Laws.Lookup.{arcs_small}
use Rattle.reading_pool.specs.Lent.{lent_pool}
use Rattle.reading_file.specs.Ends.{read_ends}
use Rattle.reading_file.specs.Laws.Valid.{sets_valid, roots_small, bad_small}
use Rattle.reading_file.proofs.ends.read_ends.Goals as goal

pub returns-in_err-read_sets-clause-read : goal.returns-in_err-read_sets-clause-read
unfolding read_ends
returns-in_err-read_sets-clause-read c = handed_on_with _ _ _ _ c.from_residual.ensures.1 ∙ rw (← c.in_err-read_sets.ensures.read)

pub in_queue_order-requires-clause-arcs_small : goal.in_queue_order-requires-clause-arcs_small
in_queue_order-requires-clause-arcs_small c = arcs_small c.requires.pool_valid

pub in_queue_order-requires-clause-roots_small : goal.in_queue_order-requires-clause-roots_small
in_queue_order-requires-clause-roots_small c =
    roots_small (sets_valid _ _ _ _ c.requires.product_le_most_controls (sym c.in_ok-read_sets.ensures.read)) c.requires.pool_valid.most

pub in_queue_order-requires-clause-bad_small : goal.in_queue_order-requires-clause-bad_small
in_queue_order-requires-clause-bad_small c =
    bad_small (sets_valid _ _ _ _ c.requires.product_le_most_controls (sym c.in_ok-read_sets.ensures.read)) c.requires.pool_valid.most

pub returns-then-not-in_queue_order-clause-read : goal.returns-then-not-in_queue_order-clause-read
unfolding read_ends
returns-then-not-in_queue_order-clause-read c =
    rw (← c.in_ok-read_sets.ensures.read, sym (c.in_queue_order.ensures (lent_pool c.args.states _ _) refl refl) ∙ c.if-not-in_queue_order.true)

pub returns-then-r-clause-read : goal.returns-then-r-clause-read
unfolding read_ends
returns-then-r-clause-read c =
    rw (
      ← c.in_ok-read_sets.ensures.read,
      sym (c.in_queue_order.ensures (lent_pool c.args.states _ _) refl refl) ∙ c.if-not-in_queue_order.false,
      ← c.read_sets.ensures.bytes,
      lt-leb _ _ c.if-r.true,
    )

pub returns-clause-read : goal.returns-clause-read
unfolding read_ends
returns-clause-read c =
    rw (
      ← c.in_ok-read_sets.ensures.read,
      sym (c.in_queue_order.ensures (lent_pool c.args.states _ _) refl refl) ∙ c.if-not-in_queue_order.false,
      ← c.read_sets.ensures.bytes,
      le-leb _ _ c.if-r.false,
    )
