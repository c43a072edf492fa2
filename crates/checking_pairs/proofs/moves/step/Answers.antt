use Rattle.tables.specs.Kinds.{reached_of}
use Rattle.tables.specs.Laws.Lookup.{nowhere_true, nowhere_false}
use Rattle.checking_pairs.specs.Laws.Moves.{leads_nowhere, leads_as, jump_missing, jump_is}
use Rattle.checking_pairs.proofs.moves.step.Goals as goal

pub returns-then-is_nowhere : goal.returns-then-is_nowhere
returns-then-is_nowhere c =
    let a = c.args in
    let p = c.requires in
    leads_nowhere (jump_missing a.t.now.walk a.t.now.lent p.source c.at.ensures c.follow_word-source.ensures (reached_of a.x.target.0) (nowhere_true _ c.is_nowhere.ensures c.if-is_nowhere.true))

pub returns : goal.returns
returns c =
    let p = c.requires in
    leads_as (jump_is c.args.t.now.walk c.args.t.now.lent p.source c.at.ensures c.follow_word-source.ensures (nowhere_false _ c.is_nowhere.ensures c.if-is_nowhere.false) c.state.ensures c.follow_word-target.ensures) c.pair_to.ensures
