use mathlib.Core.Path.{sym, ◌∙◌}
use borrow.Author.Tests.{le-leb, lt-leb}
use Rattle.numbers.specs.Laws.Parts.{handed_on_with}
use Rattle.reading_model.specs.Laws.Model.{model_valid}
use Rattle.reading_pool.specs.Laws.Pool.{pool_valid}
use Rattle.reading_file.specs.File.{read_with, read_file}
use Rattle.reading_file.proofs.reading.read_open.Goals as goal

pub returns-then-r-gt-MOST_BYTES : goal.returns-then-r-gt-MOST_BYTES
unfolding read_file read_with
returns-then-r-gt-MOST_BYTES c = rw (lt-leb _ _ c.if-r-gt-MOST_BYTES.true)

pub returns-in_err-model : goal.returns-in_err-model
unfolding read_file read_with
returns-in_err-model c =
    let e = rw c.requires.begins at c.in_err-model.ensures.read in
    handed_on_with _ _ _ _ c.from_residual.ensures.1 ∙ rw (le-leb _ _ c.if-r-gt-MOST_BYTES.false, ← e)

pub read_pool-requires-clause-sum_le_most_messages : goal.read_pool-requires-clause-sum_le_most_messages
read_pool-requires-clause-sum_le_most_messages c = (model_valid _ _ (sym c.in_ok-model.ensures.read)).queues.sum_most

pub returns-in_err-states : goal.returns-in_err-states
unfolding read_file read_with
returns-in_err-states c =
    let e = rw c.requires.begins at c.in_ok-model.ensures.read in
    handed_on_with _ _ _ _ c.from_residual-in_err-states.ensures.1
    ∙ rw (le-leb _ _ c.if-r-gt-MOST_BYTES.false, ← e, ← c.read_model.ensures.bytes, ← c.in_err-states.ensures.read)

pub read_ends-requires-clause-product_le_most_controls : goal.read_ends-requires-clause-product_le_most_controls
read_ends-requires-clause-product_le_most_controls c = (model_valid _ _ (sym c.in_ok-model.ensures.read)).machines.product_most

pub read_ends-requires-clause-queues_valid : goal.read_ends-requires-clause-queues_valid
read_ends-requires-clause-queues_valid c = (model_valid _ _ (sym c.in_ok-model.ensures.read)).queues

pub read_ends-requires-clause-pool_valid : goal.read_ends-requires-clause-pool_valid
read_ends-requires-clause-pool_valid c =
    pool_valid _ _ _ (model_valid _ _ (sym c.in_ok-model.ensures.read)).queues.sum_most (sym c.in_ok-states.ensures.read)

pub returns-in_err-read_ends : goal.returns-in_err-read_ends
unfolding read_file read_with
returns-in_err-read_ends c =
    let e = rw c.requires.begins at c.in_ok-model.ensures.read in
    handed_on_with _ _ _ _ c.from_residual-in_err-read_ends.ensures.1
    ∙ rw (le-leb _ _ c.if-r-gt-MOST_BYTES.false, ← e, ← c.read_model.ensures.bytes, ← c.in_ok-states.ensures.read, ← c.read_pool.ensures.bytes, ← c.in_err-read_ends.ensures.read)

pub returns : goal.returns
unfolding read_file read_with
returns c =
    let e = rw c.requires.begins at c.in_ok-model.ensures.read in
    rw (le-leb _ _ c.if-r-gt-MOST_BYTES.false, ← e, ← c.read_model.ensures.bytes, ← c.in_ok-states.ensures.read, ← c.read_pool.ensures.bytes, ← c.in_ok-read_ends.ensures.read)
