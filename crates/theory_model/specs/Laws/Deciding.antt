-- The items one after the other: what one judgement does to the verdict, and that a list may be judged part by part.
use Rattle.std.specs.Prelude.{◌≡◌, ℕ, ◌+◌}
use Rattle.std.proofs.Math.Path.{refl}
use Rattle.std.proofs.Common.{sym, ap, ◌∙◌}
use mathlib.Core.List.{List, [], ◌∷◌, ◌++◌}
use Rattle.theory_model.specs.Session.{Session}
use Rattle.theory_model.specs.Verdict.{Item, start, step, entry, Reply, closed, outside, leaves, bad}
use Rattle.theory_model.specs.Judge.{Judged, passes, fails, judge, reply, decide}

module _ (S : Session) where
  pub decide_passes : (i : Item) (is : List Item) (n k : ℕ) → judge S i ≡ passes k → decide S (i ∷ is) n ≡ decide S is (n + k)
  unfolding decide
  decide_passes i is n k e = rw (e, decide)

  pub decide_fails : (i : Item) (is : List Item) (n : ℕ) (w : List ℕ) → judge S i ≡ fails w → decide S (i ∷ is) n ≡ reply S i w
  unfolding decide
  decide_fails i is n w e = rw (e, decide)

-- goes on where nothing has failed so far
abbrev pub unless_failed : Reply → (ℕ → Reply) → Reply
unless_failed (closed n) next = next n
unless_failed outside next = outside
unless_failed (leaves c t w f) next = leaves c t w f
unless_failed (bad b w) next = bad b w

failed : (S : Session) (i : Item) (w : List ℕ) (next : ℕ → Reply) → unless_failed (reply S i w) next ≡ reply S i w
failed S start w next = refl
failed S (step c t τ) w next = refl
failed S (entry b e) w next = refl

module _ (S : Session) where
  pub decide_append : (is js : List Item) (n : ℕ) → decide S (is ++ js) n ≡ unless_failed (decide S is n) (decide S js)
  unfolding decide
  decide_append [] js n = refl
  decide_append (i ∷ is) js n = by_judgement (judge S i) refl (λ k. decide_append is js (n + k))
    where
      after : Reply → Reply
      after r = unless_failed r (decide S js)

      by_judgement : (j : Judged) → judge S i ≡ j → ((k : ℕ) → decide S (is ++ js) (n + k) ≡ after (decide S is (n + k))) → decide S (i ∷ (is ++ js)) n ≡ after (decide S (i ∷ is) n)
      by_judgement (passes k) e rest = decide_passes S i (is ++ js) n k e ∙ rest k ∙ ap after (sym (decide_passes S i is n k e))
      by_judgement (fails w) e rest = decide_fails S i (is ++ js) n w e ∙ sym (failed S i w (decide S js)) ∙ ap after (sym (decide_fails S i is n w e))
