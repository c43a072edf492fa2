-- Checking over lent memory: tables set to 0, their fronts lent, and the verdict from the items.
use Rattle.std.specs.Prelude.{ℕ, ◌+◌, ◌-◌, ◌≤◌, ◌≡◌, Result, Ok, List, ◌++◌, length, take, drop, replicate}
use Rattle.std.proofs.Common.{sym, ap, subst, ◌∙◌, arith, take-append-drop, take_at, length-take-le}
use Rattle.std.proofs.lemmas.List.{length-replicate, replicate-append-replicate}
use Rattle.tables.specs.declared.tables.Tables.{Tables}
use Rattle.theory_model.specs.Verdict.{items}
use Rattle.theory_model.specs.Judge as Model
use Rattle.theory_model.specs.Judge.{decide}
use Rattle.theory_files.specs.Tables.{session_of}
use Rattle.checking_pairs.specs.Pairs.{most_codes}
use Rattle.checking_items.specs.Judging.{Kept, Scratch}
use Rattle.checking_session.specs.Judges.{Judges}
use Rattle.checking_file.specs.Check.{Room, lent, Concludes}
use Rattle.verdicts.specs.Said.{said, concluded, shown_in}
use Rattle.verdicts.specs.Laws.Shown.{concluded_says, concluded_shows}
use Rattle.verdicts.specs.declared.verdict.Failing.{Failing}
use Rattle.verdicts.specs.declared.verdict.Verdict.{Verdict}

-- THE FRONT of a table that is 0
front_zeros : (t : List ℕ) (n : ℕ) → n ≤ length t → t ≡ replicate (length t) 0 → take n t ≡ replicate n 0
front_zeros t n h e =
    ap (take n) (e ∙ ap (λ k. replicate k 0) more ∙ sym (replicate-append-replicate n (length t - n) 0))
    ∙ take_at (replicate n 0) (replicate (length t - n) 0) n (length-replicate n 0)
  where
    more : length t ≡ n + (length t - n)
    more = omega arith

front_blank : (t : List ℕ) (n : ℕ) → n ≤ length t → t ≡ replicate (length t) 0 → take n t ≡ replicate (length (take n t)) 0
front_blank t n h e = front_zeros t n h e ∙ ap (λ k. replicate k 0) (sym (length-take-le n t h))

pub room_scratch : {n : ℕ} {seen queue contents : List ℕ} → Room n seen queue contents → Scratch (take n seen) (take n queue)
room_scratch {n} {seen} {queue} r =
    record {
      seen_long = length-take-le n seen r.seen_long ∙ r.front;
      queue_long = length-take-le n queue r.queue_long ∙ r.front;
      blank =
          record { seen_blank = front_blank seen n r.seen_long r.seen_blank; queue_blank = front_blank queue n r.queue_long r.queue_blank };
    }

-- a front that is 0 again leaves the table as it was
pub front_again : (t front : List ℕ) (n : ℕ) → n ≡ most_codes → n ≤ length t → t ≡ replicate (length t) 0 → length front ≡ most_codes
    → front ≡ replicate (length front) 0 → front ++ drop n t ≡ t
front_again t front n k h e l b =
    ap (λ f. f ++ drop n t) (b ∙ ap (λ j. replicate j 0) (l ∙ sym k) ∙ sym (front_zeros t n h e)) ∙ take-append-drop n t

-- ALL ITEMS judged over the fronts give the verdict
pub items_conclude : (T : Tables) {most n : ℕ} {seen queue contents : List ℕ} → Room n seen queue contents
    → {j : Result ℕ Failing} {v : Verdict} {seen' queue' contents₁ seen₁ queue₁ : List ℕ}
    → Judges most (decide (session_of T) (items (session_of T)) 0) contents j contents₁ seen' queue' → v ≡ concluded j
    → seen₁ ≡ seen' ++ drop n seen → queue₁ ≡ queue' ++ drop n queue
    → Concludes T (lent contents seen queue) v (lent contents₁ seen₁ queue₁)
unfolding Model.verdict
items_conclude T {n = n} {seen} {queue} {contents} room {j} {v} {seen' = seen'} {queue'} {contents₁} k e es eq =
    record {
      is = ap (λ x. said x contents₁) e ∙ concluded_says j contents₁ ∙ k.is;
      seen = es ∙ front_again seen seen' n room.front room.seen_long room.seen_blank k.scratch.seen_long k.scratch.blank.seen_blank;
      queue = eq ∙ front_again queue queue' n room.front room.queue_long room.queue_blank k.scratch.queue_long k.scratch.blank.queue_blank;
      kept = subst (λ n. Kept n contents contents₁) (sym (ap (λ x. shown_in (Ok x)) e ∙ concluded_shows j)) k.kept;
    }
