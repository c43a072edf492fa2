use Rattle.std.proofs.Common.{refl, rules}
use Rattle.checking_pairs.specs.Pairs.{pair_of}
use Rattle.checking_walk.specs.Laws.Judged.{judged_finished, judged_found, judges_passes, judges_fails}
use Rattle.checking_walk.specs.Laws.Items.{judged_counts}
use Rattle.checking_walk.proofs.judge.judge.Goals as goal

pub show-n-requires-clause-k_len_bound : goal.show-n-requires-clause-k_len_bound
show-n-requires-clause-k_len_bound c =
    let t = c.args.t.now in
    c.requires.shown_fits.most _ (judged_found t.arcs.now t.finals.now t.rows.now t.walk (pair_of c.args.root) c.in-Some.ensures.answered)

pub returns-in-None-clause-walk_judged : goal.returns-in-None-clause-walk_judged
returns-in-None-clause-walk_judged c =
    let t = c.args.t.now in
    judges_passes c.clear.ensures (search rules) (search rules) (judged_finished t.arcs.now t.finals.now t.rows.now t.walk (pair_of c.args.root) c.in-None.ensures.answered)

pub returns-in-None-clause-counts : goal.returns-in-None-clause-counts
returns-in-None-clause-counts c =
    let t = c.args.t.now in
    judged_counts {contents = c.args.contents.now} (judges_passes c.clear.ensures refl refl (judged_finished t.arcs.now t.finals.now t.rows.now t.walk (pair_of c.args.root) c.in-None.ensures.answered))

pub returns-in-Some-clause-walk_judged : goal.returns-in-Some-clause-walk_judged
returns-in-Some-clause-walk_judged c =
    let t = c.args.t.now in
    judges_fails c.clear-in-Some.ensures (search rules) (search rules) (judged_found t.arcs.now t.finals.now t.rows.now t.walk (pair_of c.args.root) c.in-Some.ensures.answered) c.show-n.ensures
