-- The pass over a text finds its leftmost offender, of any text, in the grammar or not.
use Rattle.std.specs.Prelude.{◌≡◌, refl, Bool, false, not, ◌&&◌, ◌↔◌, List, [], ◌∷◌, ◌++◌, ℕ, zero, suc, ◌+◌, ◌≤◌, ◌<◌, eqb, length}
use Rattle.std.proofs.Common.{sym, ap₂, subst, ◌∙◌, ⊎_elim, arith, eq-or-lt_of_le, length-append}
use Rattle.std.proofs.Math.Seq.{append_snoc}
use Rattle.theory_grammar.specs.Parse.{is_digit}
use Rattle.theory_grammar.specs.Offends.{numbers_from, times, Offends, Leftmost, Limit, kept, passed, offence, more, limits_from, limits}
use Rattle.theory_grammar.specs.Laws.Before.{ends_from, ends_more, times_more, count_more}
use Rattle.theory_grammar.specs.Laws.Places.{parted_at, Tested, nothing, something, tested, offends_here, here_offends, offends_within, offends_one}

-- what the pass says of a text from a place on
record Found (s : List ℕ) (from k p : ℕ) : Type 0 where
  offends : Offends s k p
  least : (j q : ℕ) → from ≤ q → q < p → Offends s j q → ⊥
  five : Offends s 5 p → k ≡ 5

abbrev Says : List ℕ → ℕ → Limit → Type 0
Says s from kept = (k p : ℕ) → from ≤ p → Offends s k p → ⊥
Says s from (passed k p) = Found s from k p

-- a place that does not offend may be put before
first_or_later : {s : List ℕ} {from k p : ℕ} → ((j : ℕ) → Offends s j from → ⊥) → (from < p → Offends s k p → ⊥)
    → from ≤ p → Offends s k p → ⊥
first_or_later {s} {from} {k} none later h o =
    ⊎_elim (λ e. none k (subst (Offends s k) (sym e) o)) (λ l. later l o) (eq-or-lt_of_le h)

says_before : {s : List ℕ} {from : ℕ} (r : Limit) → ((j : ℕ) → Offends s j from → ⊥) → Says s (suc from) r → Says s from r
says_before kept none later = λ k p h. first_or_later none (later k p) h
says_before (passed k p) none later =
    record {
      offends = later.offends;
      least = λ j q h l. first_or_later none (λ g. later.least j q g l) h;
      five = later.five;
    }

-- THE PASS, the bytes before it being given
abbrev onward : List ℕ → List ℕ → Limit
onward before u =
    limits_from (ends_from false before) (times 40 before) (times 41 before) (length (numbers_from false before)) (length before) u

abbrev tests : List ℕ → ℕ → List ℕ → ℕ
tests before b u = offence (ends_from false before) (times 40 before) (times 41 before) (length (numbers_from false before)) b u

onward_offence : (before : List ℕ) (b : ℕ) (u : List ℕ) (k : ℕ) → tests before b u ≡ suc k → onward before (b ∷ u) ≡ passed (suc k) (length before)
unfolding limits_from
onward_offence before b u k e = rw (e, limits_from)

limits_next : (inside : Bool) (opened closed count place b : ℕ) (u : List ℕ) → offence inside opened closed count b u ≡ 0
    → limits_from inside opened closed count place (b ∷ u)
    ≡ limits_from (is_digit b) (more (eqb b 40) opened) (more (eqb b 41) closed) (more (is_digit b && not inside) count) (place + 1) u
unfolding limits_from
limits_next inside opened closed count place b u e = rw (e, limits_from)

onward_next : (before : List ℕ) (b : ℕ) (u : List ℕ) → tests before b u ≡ 0 → onward before (b ∷ u) ≡ onward (before ++ (b ∷ [])) u
onward_next before b u e =
    limits_next (ends_from false before) (times 40 before) (times 41 before) (length (numbers_from false before)) (length before) b u e
    ∙ rw (ends_more false before b, times_more 40 before b, times_more 41 before b, count_more false before b, length-append before (b ∷ []))

says_step : (before : List ℕ) (b : ℕ) (u : List ℕ) (o : ℕ) → tests before b u ≡ o → Tested before b u o
    → Says ((before ++ (b ∷ [])) ++ u) (length (before ++ (b ∷ []))) (onward (before ++ (b ∷ [])) u)
    → Says (before ++ (b ∷ u)) (length before) (onward before (b ∷ u))
says_step before b u zero e (nothing none) later =
    let further : Limit = onward (before ++ (b ∷ [])) u in
    let text : List ℕ = before ++ (b ∷ u) in
    let one_more_lem : length (before ++ (b ∷ [])) ≡ suc (length before) = omega (arith, length-append before (b ∷ [])) in
    let same : Says text (length (before ++ (b ∷ []))) further = subst (λ l. Says l (length (before ++ (b ∷ []))) further) (append_snoc before b u) later in
    subst (Says text (length before)) (sym (onward_next before b u e))
    (says_before further (λ j o. none j (offends_here (parted_at before b u) o)) (subst (λ n. Says text n further) one_more_lem same))
says_step before b u (suc k) e (something h five) later =
    subst (Says (before ++ (b ∷ u)) (length before)) (sym (onward_offence before b u k e))
    (record {
      offends = here_offends (parted_at before b u) h;
      least = λ j q g l. absurd (omega arith);
      five = λ o. five (offends_here (parted_at before b u) o);
    })

onward_says : (u before : List ℕ) → Says (before ++ u) (length before) (onward before u)
unfolding limits_from
onward_says [] before = λ k p h o. let l = offends_within o in omega (arith, length-append before [])
onward_says (b ∷ u) before = says_step before b u (tests before b u) refl (tested before b u) (onward_says u (before ++ (b ∷ [])))

-- A TEXT IS WITHIN THE LIMITS if no place offends
pub limits_kept : (s : List ℕ) → (limits s ≡ kept) ↔ ((k p : ℕ) → Offends s k p → ⊥)
limits_kept s = (λ e k p o. subst (Says s 0) e (onward_says s []) k p (omega arith) o, λ none. by none (limits s) refl (onward_says s []))
  where
    by : ((k p : ℕ) → Offends s k p → ⊥) → (r : Limit) → limits s ≡ r → Says s 0 r → limits s ≡ kept
    by none kept e x = e
    by none (passed k p) e x = absurd (none k p x.offends)

-- ELSE THE LEFTMOST OFFENDER is what the pass answers
leftmost_one : (s : List ℕ) (j k p q : ℕ) → Found s 0 j p → Leftmost s k q → limits s ≡ passed j p → limits s ≡ passed k q
leftmost_one s j k p q f l e =
    let below : p < q → ⊥ = λ h. l.least j p h f.offends in
    let above : q < p → ⊥ = λ h. f.least k q (omega arith) h l.offends in
    let same : p ≡ q = omega arith in
    let kind : j ≡ k = offends_one f.offends (rw same l.offends) f.five (rw same l.before) in
    e ∙ ap₂ passed kind same

pub limits_passed : (s : List ℕ) (k p : ℕ) → (limits s ≡ passed k p) ↔ Leftmost s k p
limits_passed s k p = (λ e. leftmost (subst (Says s 0) e (onward_says s [])), λ l. by l (limits s) refl (onward_says s []))
  where
    leftmost : Found s 0 k p → Leftmost s k p
    leftmost f = record { offends = f.offends; least = λ j q h o. f.least j q (omega arith) h o; before = f.five }

    by : Leftmost s k p → (r : Limit) → limits s ≡ r → Says s 0 r → limits s ≡ passed k p
    by l kept e none = absurd (none k p (omega arith) l.offends)
    by l (passed j q) e f = leftmost_one s j k q p f l e
