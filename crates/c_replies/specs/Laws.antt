-- Laws of numbers that are stored one by one.
use Rattle.std.specs.Prelude.{ℕ, ◌≤◌, ◌≡◌, refl, List, [], ◌∷◌, ◌++◌, length, drop, get_or}
use Rattle.std.proofs.Common.{sym, ◌∙◌, arith}
use Rattle.std.proofs.lemmas.List.Edits.{sets, sets-eq}
use Rattle.replaying_step.specs.declared.runs.RunRecord.{RunRecord}
use Rattle.c_replies.specs.Told.{reply_least}
use Rattle.c_replies.specs.Replays.{record_out, record_least}

-- four numbers stored one by one
pub told_stored : (reply : List ℕ) (w x y z : ℕ) → reply_least ≤ length reply → sets reply 0 (w ∷ x ∷ y ∷ z ∷ []) ≡ w ∷ x ∷ y ∷ z ∷ drop reply_least reply
told_stored reply w x y z h = sets-eq (w ∷ x ∷ y ∷ z ∷ []) reply 0 h

-- a table of four, written out before others
abbrev four_then : List ℕ → List ℕ → List ℕ
four_then l rest = get_or l 0 0 ∷ get_or l 1 0 ∷ get_or l 2 0 ∷ get_or l 3 0 ∷ rest

four_is : (l : List ℕ) → length l ≡ 4 → l ≡ four_then l []
four_is [] h = absurd (omega arith)
four_is (a ∷ []) h = absurd (omega arith)
four_is (a ∷ b ∷ []) h = absurd (omega arith)
four_is (a ∷ b ∷ c ∷ []) h = absurd (omega arith)
four_is (a ∷ b ∷ c ∷ d ∷ []) h = refl
four_is (a ∷ b ∷ c ∷ d ∷ e ∷ l) h = absurd (omega arith)

-- twelve numbers stored one by one
pub record_stored : (run : List ℕ) (r : RunRecord) → record_least ≤ length run → length r.states ≡ 4 → length r.heads ≡ 4
    → length r.lengths ≡ 4
    → sets run 0 (four_then r.states (four_then r.heads (four_then r.lengths []))) ≡ record_out r ++ drop record_least run
record_stored run r h a b c =
    sets-eq (four_then r.states (four_then r.heads (four_then r.lengths []))) run 0 h
    ∙ sym (rw (four_is r.states a, four_is r.heads b, four_is r.lengths c))
