use mathlib.Core.Path.{refl, sym, subst, ◌∙◌}
use native.Mathlib.Omega.{arith}
use Rattle.tables.specs.Limits.{most_messages}
use Rattle.tables.specs.Laws.Lookup.{nowhere_true}
use Rattle.theory_model.specs.Model.{Between}
use Rattle.following.specs.Laws.Rows.{followed_at, followed_lost}
use Rattle.following.specs.Laws.Follow.{follow_begin, follow_lost, follows_as, follows_word}
use Rattle.following.specs.Laws.Words.{word_small}
use Rattle.following.specs.Laws.Standing.{word_standing, word_ring}
use Rattle.following.proofs.messages.follow_word.Goals as goal

pub returns-then-is_nowhere : goal.returns-then-is_nowhere
returns-then-is_nowhere c =
    let a = c.args in
    let e = nowhere_true _ c.is_nowhere.ensures c.if-is_nowhere.true in
    follow_lost (follow_begin c.requires.from_le_most_pool (word_small a.table.now a.at a.n c.requires.word_within) refl) e e

pub follow-requires : goal.follow-requires
follow-requires c = let a = c.args in
    let p = c.requires in
    let word = word_standing a.table.now a.at a.n p.word_within in
    (omega arith, (p.arcs_small, (c.row_of.ensures.begins, (word_ring p.word_within, subst (Between 0 most_messages) (sym word) (word_small a.table.now a.at a.n p.word_within)))))

pub returns-in-Err : goal.returns-in-Err
returns-in-Err c =
    let a = c.args in
    let word = word_standing a.table.now a.at a.n c.requires.word_within in
    follows_as (c.row_of.ensures.state ∙ c.state.ensures) c.nowhere.ensures (follows_word word (followed_lost c.follow.ensures c.in-Err.is).0)

pub returns-in-Ok : goal.returns-in-Ok
returns-in-Ok c =
    let a = c.args in
    let word = word_standing a.table.now a.at a.n c.requires.word_within in
    follows_as (c.row_of.ensures.state ∙ c.state.ensures) (c.at.ensures ∙ c.state_of.ensures) (follows_word word (followed_at c.follow.ensures c.in-Ok.is).1)
