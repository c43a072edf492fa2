-- The judgement by search is the judgement of the item.
use Rattle.std.specs.Prelude.{◌+◌, ◌*◌, ◌≤◌, ◌≡◌}
use Rattle.std.proofs.Common.{sym, arith, mul-le-mul}
use Rattle.tables.specs.Limits.{most_pool}
use Rattle.tables.specs.declared.tables.Tables.{Tables}
use Rattle.reading_file.specs.Valid.{Valid}
use Rattle.theory_model.specs.Session.{Session}
use Rattle.theory_model.specs.Verdict.{Item, most_pairs}
use Rattle.theory_model.specs.Judge.{judge}
use Rattle.theory_model.specs.Searched.{judge_by_search}
use Rattle.theory_model.specs.Laws.Items.{IsItem}
use Rattle.theory_model.specs.Laws.Searches.{search_is}
use Rattle.theory_files.specs.Tables.{session_of}
use Rattle.theory_files.specs.Laws.Sessions.{well_formed}
use Rattle.checking_pairs.specs.Pairs.{most_codes, stride}

module _ (T : Tables) (v : Valid T) where
  abbrev S : Session
  S = session_of T

  pub few_pairs : most_pairs S.pool.states ≤ most_codes
  few_pairs =
      let n : T.pool.count ≤ most_pool = v.pool.most in
      let p : T.pool.count * (T.pool.count + 1) ≤ most_pool * stride = mul-le-mul {n₁ = T.pool.count} {m₁ = T.pool.count + 1} {n₂ = most_pool} {m₂ = stride} n (omega arith) in
      omega arith

  pub judged_item : (i : Item) → IsItem S i → judge S i ≡ judge_by_search S most_codes i
  judged_item i item = sym (search_is S (well_formed T v) most_codes few_pairs i item)
