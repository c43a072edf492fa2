-- How many messages are shown: the number that an answer carries is that of the contents at the front of the buffer.
use Rattle.std.specs.Prelude.{ℕ, ◌<◌, ◌≡◌, refl, List, length, take, Result, Ok, Err}
use Rattle.std.proofs.Common.{zero-le, length-take, arith}
use Rattle.theory_files.specs.Reply.{refused, shown_of}
use Rattle.verdicts.specs.Said.{said_failing, said_items, said, said_verdict, concluded, shown_items, shown_in, Shows}
use Rattle.verdicts.specs.declared.verdict.Failing.{Failing}
use Rattle.verdicts.specs.declared.verdict.Failing.TheVariants.{Outside, Leaves, Bad}
use Rattle.verdicts.specs.declared.verdict.Verdict.{Verdict}
use Rattle.verdicts.specs.declared.verdict.Verdict.TheVariants.{Closed, Fails}
use Rattle.verdicts.specs.declared.verdict.CheckRefusal.{CheckRefusal}
use Rattle.verdicts.specs.declared.verdict.CheckRefusal.TheVariants.{File, ShortMemory}

-- the contents shown are the front of the buffer
pub shown_front : (r : Result Verdict CheckRefusal) (contents₁ : List ℕ) → shown_of (said_verdict r contents₁) ≡ take (shown_in r) contents₁
shown_front (Ok (Closed n)) l = refl
shown_front (Ok (Fails Outside)) l = refl
shown_front (Ok (Fails (Leaves c t n f))) l = refl
shown_front (Ok (Fails (Bad b n))) l = refl
shown_front (Err (File why)) l = refl
shown_front (Err ShortMemory) l = refl

-- the verdict on items judged says what judging said, and shows as many messages
pub concluded_says : (j : Result ℕ Failing) (contents : List ℕ) → said (concluded j) contents ≡ said_items j contents
concluded_says (Ok n) contents = refl
concluded_says (Err f) contents = refl

pub concluded_shows : (j : Result ℕ Failing) → shown_in (Ok (concluded j)) ≡ shown_items j
concluded_shows (Ok n) = refl
concluded_shows (Err f) = refl

-- a front of fewer messages than there are has as many as were asked for
front_number : (n : ℕ) (contents : List ℕ) → length (take n contents) < length contents → n ≡ length (take n contents)
front_number n contents h = omega (arith, length-take n contents)

-- an answer that shows fewer than the buffer has
pub shows_fewer : (r : Result Verdict CheckRefusal) (contents : List ℕ) → length (shown_of (said_verdict r contents)) < length contents → Shows r contents
shows_fewer (Ok (Closed n)) contents h = record { number = refl; within = zero-le }
shows_fewer (Ok (Fails Outside)) contents h = record { number = refl; within = zero-le }
shows_fewer (Ok (Fails (Leaves c t n f))) contents h = let e = front_number n contents h in record { number = e; within = omega arith }
shows_fewer (Ok (Fails (Bad b n))) contents h = let e = front_number n contents h in record { number = e; within = omega arith }
shows_fewer (Err (File why)) contents h = record { number = refl; within = zero-le }
shows_fewer (Err ShortMemory) contents h = record { number = refl; within = zero-le }

-- and a refusal
pub shows_refused : (r : Result Verdict CheckRefusal) (contents : List ℕ) {k p : ℕ} → said_verdict r contents ≡ refused k p → Shows r contents
shows_refused (Ok v) contents e = absurd (let z : ◌≡◌ {A = ℕ} 0 1 = cc in omega arith)
shows_refused (Err (File why)) contents e = record { number = refl; within = zero-le }
shows_refused (Err ShortMemory) contents e = record { number = refl; within = zero-le }
