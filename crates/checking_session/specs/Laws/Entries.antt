-- One bad entry: it passes, or it fails.
use Rattle.std.specs.Prelude.{ℕ, ◌+◌, ◌*◌, ◌<◌, ◌≡◌, Result, Ok, Err, take}
use Rattle.std.proofs.Math.Path.{sym, ap, subst}
use Rattle.std.proofs.Common.{◌∙◌, arith}
use mathlib.Core.List.{List, [], ◌∷◌}
use Rattle.std.proofs.Math.ListN.{get_or}
use Rattle.tables.specs.declared.tables.Tables.{Tables}
use Rattle.reading_file.specs.Valid.{Valid}
use Rattle.theory_model.specs.Session.{Session}
use Rattle.theory_model.specs.Verdict.{Item, entry}
use Rattle.theory_model.specs.Judge as Model
use Rattle.theory_model.specs.Judge.{decide}
use Rattle.theory_model.specs.Searched.{judge_by_search}
use Rattle.theory_model.specs.Laws.Items.{IsItem}
use Rattle.theory_model.specs.Laws.Deciding.{decide_passes, decide_fails}
use Rattle.theory_files.specs.Tables.{session_of, entry_at}
use Rattle.checking_pairs.specs.Pairs.{most_codes}
use Rattle.checking_walk.specs.declared.judge.Shown.{Shown}
use Rattle.checking_cursor.specs.Laws.Standing.{entry_item}
use Rattle.checking_items.specs.Judging.{Judging, EntryOf, EntryAsked}
use Rattle.checking_items.specs.Laws.Judge.{judged_item}
use Rattle.checking_session.specs.Judges.{Judges}
use Rattle.checking_session.specs.Laws.Links.{head_of}
use Rattle.verdicts.specs.declared.verdict.Failing.TheVariants.{Bad}

module _ {T : Tables} (v : Valid T) (b : ℕ) (h : b < T.bad.count) where
  abbrev S : Session
  S = session_of T

  abbrev this : Item
  this = entry b (entry_at T.bad.rows b)

  item : IsItem S this
  item = entry_item (head_of T) T.transitions.rows T.pool.finals T.pool.arcs T.map.roots T.bad.rows b h

  pub entry_asked : EntryAsked T (get_or T.bad.rows (b * 2) 0) (get_or T.bad.rows (b * 2 + 1) 0)
  entry_asked = record { number = b; valid = v; item = item }

  -- of numbers that are the entry's
  module _ {control root : ℕ} (e : control ≡ get_or T.bad.rows (b * 2) 0) (f : root ≡ get_or T.bad.rows (b * 2 + 1) 0) where
    pub entry_of : EntryOf T control root
    entry_of = subst (λ n. EntryOf T n root) (sym e) (subst (λ n. EntryOf T (get_or T.bad.rows (b * 2) 0) n) (sym f) (record { number = b; item = item }))

    module _ (pairs : ℕ) (contents contents₁ seen₁ queue₁ : List ℕ) where
      abbrev Entry : Result ℕ Shown → Type 0
      Entry r = Judging (judge_by_search S most_codes (entry 0 (control, root))) contents r contents₁ seen₁ queue₁

      judged : {o : Model.Judged} → o ≡ judge_by_search S most_codes (entry 0 (control, root)) → Model.judge S this ≡ o
      unfolding judge_by_search
      judged {o} z =
          judged_item T v this item
          ∙ ap (λ n. judge_by_search S most_codes (entry 0 (n, get_or T.bad.rows (b * 2 + 1) 0))) (sym e)
          ∙ ap (λ n. judge_by_search S most_codes (entry 0 (control, n))) (sym f)
          ∙ sym z

      pub entry_passes : (r : Result ℕ Shown) (more : ℕ) → r ≡ Ok more → Entry r
          → Judges (pairs + most_codes) (decide S (this ∷ []) pairs) contents (Ok (pairs + more)) contents₁ seen₁ queue₁
      unfolding decide
      entry_passes r more z j =
          let k = subst Entry z j in
          record {
            is = sym (decide_passes S this [] pairs more (judged k.is));
            few = omega (arith, k.few);
            kept = k.kept;
            scratch = k.scratch;
          }

      pub entry_fails : (r : Result ℕ Shown) (shown : Shown) → r ≡ Err shown → Entry r
          → Judges (pairs + most_codes) (decide S (this ∷ []) pairs) contents (Err (Bad b shown.0)) contents₁ seen₁ queue₁
      entry_fails r shown z j =
          let k = subst Entry z j in
          record {
            is = sym (decide_fails S this [] pairs (take shown.0 contents₁) (judged k.is));
            few = omega arith;
            kept = k.kept;
            scratch = k.scratch;
          }
