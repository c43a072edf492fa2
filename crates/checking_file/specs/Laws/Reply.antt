-- Checking's promises, from what its parts say.
use Rattle.std.specs.Prelude.{ℕ, ◌≤◌, ◌<◌, ◌≡◌, refl, true, false, Result, Ok, Err, List, ◌++◌, length, take, drop, replicate}
use Rattle.std.proofs.Common.{sym, ap, subst, ◌∙◌, arith, take-append-drop, length-take-le}
use Rattle.std.proofs.lemmas.List.{length-replicate}
use Rattle.checking_pairs.specs.Pairs.{most_codes}
use Rattle.numbers.specs.Said.{number_of, place_of}
use Rattle.numbers.specs.Part.{got}
use Rattle.reading_file.specs.Said.{said_answer}
use Rattle.reading_file.specs.File.{Reads, read_file, handed}
use Rattle.reading_file.specs.Valid.{Valid}
use Rattle.reading_file.specs.Laws.Reading.{answer_refused, answer_read, answer_valid}
use Rattle.tables.specs.declared.tables.Tables.{Tables}
use Rattle.numbers.specs.declared.refusal.Refusal.{Refusal}
use Rattle.numbers.specs.declared.refusal.Refusal.TheVariants.{TooLong}
use Rattle.theory_files.specs.Reply.{verdict, reply_to}
use Rattle.theory_files.specs.Checking.{enough, read_lent, contents_after, Checks, CheckMeans, CheckTwoRuns}
use Rattle.theory_files.specs.Laws.Checking.{lent_long, lent_little, lent_enough, enough_long, checks_made, checks_refused, check_means, check_two_runs}
use Rattle.checking_items.specs.Judging.{Kept}
use Rattle.checking_items.specs.Promises.{Memory}
use Rattle.checking_file.specs.Check.{Room, Concludes}
use Rattle.verdicts.specs.Said.{said_verdict, shown_in, Shows}
use Rattle.verdicts.specs.Laws.Shown.{shown_front}
use Rattle.checking_file.specs.Laws.Shows.{checks_shows}
use Rattle.verdicts.specs.declared.verdict.Verdict.{Verdict}
use Rattle.verdicts.specs.declared.verdict.CheckRefusal.{CheckRefusal}
use Rattle.verdicts.specs.declared.verdict.CheckRefusal.TheVariants.{File, ShortMemory}

-- all four promises come from the first
abbrev pub Promised : List ℕ → List ℕ → List ℕ → List ℕ → Result Verdict CheckRefusal → List ℕ → List ℕ → List ℕ → Type 0
Promised file seen queue contents v seen₁ queue₁ contents₁ =
    Checks file seen queue contents (said_verdict v contents₁) seen₁ queue₁ contents₁
    × (((ts : List ℕ) → CheckTwoRuns file seen queue contents (said_verdict v contents₁) ts)
    × (CheckMeans file seen queue contents (said_verdict v contents₁) × Shows v contents₁))

pub promised : (file seen queue contents : List ℕ) (v : Result Verdict CheckRefusal) {seen₁ queue₁ contents₁ : List ℕ}
    → Checks file seen queue contents (said_verdict v contents₁) seen₁ queue₁ contents₁ → Promised file seen queue contents v seen₁ queue₁ contents₁
promised file seen queue contents v k =
    (k, (check_two_runs file seen queue contents k, (check_means file seen queue contents k, checks_shows v k)))

-- the contents shown fill the front of the buffer, and the rest is kept
contents_after_lem : (r : Result Verdict CheckRefusal) (contents contents₁ : List ℕ) → Kept (shown_in r) contents contents₁
    → contents₁ ≡ contents_after (said_verdict r contents₁) contents
contents_after_lem r contents contents₁ k =
    sym (take-append-drop (shown_in r) contents₁)
    ∙ ap (λ l. take (shown_in r) contents₁ ++ l) k.rest
    ∙ ap (λ n. take (shown_in r) contents₁ ++ drop n contents) (sym (length-take-le (shown_in r) contents₁ (omega (arith, k.long, k.within))))
    ∙ ap (λ u. u ++ drop (length u) contents) (sym (shown_front r contents₁))

-- tables that were read are valid
pub read_valid : (file : List ℕ) {r : Result Tables Refusal} {T : Tables} → Reads (read_file file) r → r ≡ Ok T → Valid T
read_valid file {r} read e = subst Valid (ap handed e) (answer_valid file r read (ap said_answer e))

module _ (file seen queue contents : List ℕ) where
  pub too_long_lem : 16384 < length file → Promised file seen queue contents (Err (File TooLong)) seen queue contents
  too_long_lem h = promised file seen queue contents (Err (File TooLong)) (checks_refused file seen queue contents 1 16384 (lent_long file seen queue contents h) refl)

  pub too_little : length file ≤ 16384 → enough seen queue contents ≡ false → Promised file seen queue contents (Err ShortMemory) seen queue contents
  too_little h e = promised file seen queue contents (Err ShortMemory) (checks_refused file seen queue contents 2 0 (lent_little file seen queue contents h e) refl)

  module _ {r : Result Tables Refusal} (read : Reads (read_file file) r) (long : enough seen queue contents ≡ true) where
    given : read_lent file seen queue contents ≡ read_file file
    given = lent_enough file seen queue contents long

    pub not_read : (why : Refusal) → r ≡ Err why → Promised file seen queue contents (Err (File why)) seen queue contents
    not_read why e =
        promised file seen queue contents (Err (File why))
        (checks_refused file seen queue contents (number_of why) (place_of why)
        (given ∙ answer_refused (read_file file) r read (number_of why) (place_of why) (ap said_answer e)) refl)

    pub judged : (T : Tables) → r ≡ Ok T → (v : Verdict) (M₀ M₁ : Memory)
        → M₀.seen ≡ replicate (length seen) 0 → M₀.queue ≡ replicate (length queue) 0 → M₀.contents ≡ contents
        → Concludes T M₀ v M₁ → Promised file seen queue contents (Ok v) M₁.seen M₁.queue M₁.contents
    judged T e v M₀ M₁ es eq ec k =
        let (next, all) = answer_read (read_file file) r read (ap said_answer e) in
        promised file seen queue contents (Ok v)
        (checks_made file seen queue contents
        (ap verdict k.is ∙ sym (ap reply_to (given ∙ all ∙ ap (λ t. got t next) (ap handed e))))
        (k.seen ∙ es)
        (k.queue ∙ eq)
        (contents_after_lem (Ok v) contents M₁.contents (subst (λ l. Kept (shown_in (Ok v)) l M₁.contents) ec k.kept)))

-- tables that were set to 0 are room enough
pub blank_room : (file seen queue contents : List ℕ) {seen' queue' : List ℕ} → enough seen queue contents ≡ true
    → seen' ≡ replicate (length seen) 0 → queue' ≡ replicate (length queue) 0 → Room most_codes seen' queue' contents
blank_room file seen queue contents long es eq =
    let (s, q, c) = enough_long file seen queue contents long in
    let ls = ap length es ∙ length-replicate (length seen) 0 in
    let lq = ap length eq ∙ length-replicate (length queue) 0 in
    record {
      front = refl;
      seen_long = omega (arith, s, ls);
      queue_long = omega (arith, q, lq);
      contents_long = c;
      seen_blank = es ∙ ap (λ n. replicate n 0) (sym ls);
      queue_blank = eq ∙ ap (λ n. replicate n 0) (sym lq);
    }
