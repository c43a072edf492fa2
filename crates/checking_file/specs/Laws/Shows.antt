-- How many messages are shown: the number that checking's answer carries is that of the contents at the front of the buffer.
use Rattle.std.specs.Prelude.{ℕ, ◌≤◌, List, length, Result}
use Rattle.std.proofs.Common.{sym, ap, subst, ◌∙◌, arith}
use Rattle.theory_files.specs.Reply.{reply_to, shown_of}
use Rattle.theory_files.specs.Checking.{read_lent, Checks, most_shown}
use Rattle.theory_files.specs.Laws.Checking.{Ways, long, little, whole, ways, enough_long, lent_sound}
use Rattle.theory_files.specs.Laws.Shown.{shown_fits, contents_kept}
use Rattle.verdicts.specs.Said.{said_verdict, Shows}
use Rattle.verdicts.specs.Laws.Shown.{shows_fewer, shows_refused}
use Rattle.verdicts.specs.declared.verdict.Verdict.{Verdict}
use Rattle.verdicts.specs.declared.verdict.CheckRefusal.{CheckRefusal}

-- THE NUMBER OF MESSAGES SHOWN, of what checking promises
pub checks_shows : {file seen queue contents seen₁ queue₁ contents₁ : List ℕ} (r : Result Verdict CheckRefusal)
    → Checks file seen queue contents (said_verdict r contents₁) seen₁ queue₁ contents₁ → Shows r contents₁
checks_shows {file} {seen} {queue} {contents} {seen₁} {queue₁} {contents₁} r checks = go (ways file seen queue contents)
  where
    go : Ways file seen queue contents (read_lent file seen queue contents) → Shows r contents₁
    go (long e) = shows_refused r contents₁ (checks.reply ∙ ap reply_to e)
    go (little h l e) = shows_refused r contents₁ (checks.reply ∙ ap reply_to e)
    go (whole h e) =
        let few =
        subst (λ x. length (shown_of x) ≤ most_shown) (sym checks.reply)
        (shown_fits (read_lent file seen queue contents) (lent_sound file seen queue contents))
        in
        let kept = ap length checks.contents ∙ contents_kept file seen queue contents in
        shows_fewer r contents₁ (omega (arith, few, kept, (enough_long file seen queue contents h).2))
