use mathlib.Core.Path.{sym, subst}
use native.Mathlib.Omega.{arith}
use Rattle.tables.specs.Limits.{most_messages}
use Rattle.theory_model.specs.Model.{Between}
use Rattle.following.specs.Laws.Words.{word_small}
use Rattle.following.specs.Laws.Standing.{word_standing, word_ring}
use Rattle.following.specs.Laws.After.{contents_ring, first_ring, kept_most, front_between, end_between, behind_less, both_most, part_most, far_without, far_with}
use Rattle.following.proofs.after.far_after.Goals as goal

pub follow_part-front-requires : goal.follow_part-front-requires
follow_part-front-requires c = let p = c.requires in
    (omega arith, (p.arcs_small, (p.target_le_most_pool, (first_ring p.contents_at, front_between p.contents_at c.front_of-kept.ensures))))

pub follow_part-word-requires : goal.follow_part-word-requires
follow_part-word-requires c = let p = c.requires in
    let a = c.args in
    let word = word_standing a.rows.now a.x.word a.x.into p.word_within in
    (omega arith, (p.arcs_small, (c.follow_part-front.ensures.leads.most, (word_ring p.word_within, subst (Between 0 most_messages) (sym word) (word_small a.rows.now a.x.word a.x.into p.word_within)))))

pub overflow_sub-shown : goal.overflow_sub-shown
overflow_sub-shown c = kept_most c.requires.contents_at c.front_of-kept.ensures

pub overflow_add-result : goal.overflow_add-result
overflow_add-result c =
    let p = c.requires in
    omega (arith, both_most p.contents_at c.front_of-kept.ensures p.word_within c.args.x.out c.follow_part-front.ensures c.follow_part-word.ensures, p.contents_at.most)

pub returns-then-shown-kept : goal.returns-then-shown-kept
returns-then-shown-kept c =
    let p = c.requires in
    far_without p.contents_at c.front_of-kept.ensures p.word_within c.args.x.out c.follow_part-front.ensures c.follow_part-word.ensures c.if-shown-kept.true

pub follow_part-rest-requires : goal.follow_part-rest-requires
follow_part-rest-requires c = let p = c.requires in
    let less = behind_less p.contents_at c.front_of-kept.ensures c.args.x.out c.if-shown-kept.false in
    (omega arith, (p.arcs_small, (c.follow_part-word.ensures.leads.most, (contents_ring p.contents_at (omega (arith, less)), end_between p.contents_at _ (omega (arith, less))))))

pub overflow_add-result-2 : goal.overflow_add-result-2
overflow_add-result-2 c =
    let p = c.requires in
    omega (arith, both_most p.contents_at c.front_of-kept.ensures p.word_within c.args.x.out c.follow_part-front.ensures c.follow_part-word.ensures, p.contents_at.most)

pub overflow_add-result-3 : goal.overflow_add-result-3
overflow_add-result-3 c =
    let p = c.requires in
    let most = both_most p.contents_at c.front_of-kept.ensures p.word_within c.args.x.out c.follow_part-front.ensures c.follow_part-word.ensures in
    omega (arith, most, part_most _ _ _ _ _ c.follow_part-rest.ensures, p.contents_at.most)

pub returns : goal.returns
returns c =
    let p = c.requires in
    let K = c.front_of-kept.ensures in
    let out = c.args.x.out in
    let less = behind_less p.contents_at K out c.if-shown-kept.false in
    far_with p.contents_at K p.word_within out c.follow_part-front.ensures c.follow_part-word.ensures less c.follow_part-rest.ensures
