-- Whether a place offends: the text is parted there, and the tests that the pass makes at that byte are right.
use Rattle.std.specs.Prelude.{◌≡◌, refl, Bool, true, false, cond, List, ◌∷◌, ◌++◌, ℕ, suc, ◌+◌, ◌≤◌, ◌<◌, ltb, eqb, length, take, drop}
use Rattle.std.proofs.Common.{sym, ap, subst, ◌∙◌, arith, length-append, take_at, drop_at, ltb-true, ltb-false, eqb-true}
use Rattle.std.proofs.lemmas.Bool.{eqb-false}
use Rattle.theory_model.specs.Laws.Basics.{false_not_true}
use Rattle.theory_grammar.specs.Grammar.{Digit, EndsInDigit}
use Rattle.theory_grammar.specs.Parse.{is_digit}
use Rattle.theory_grammar.specs.Offends.{most_depth, most_occurrences, message_limit, value_from, numbers_from, times, Offends, offence}
use Rattle.theory_grammar.specs.Laws.Signs.{is_digit_lem, is_other}
use Rattle.theory_grammar.specs.Laws.Before.{ends_from, is_ends, ends_is}

-- the text is parted at the place
pub record Parted (s : List ℕ) (p : ℕ) : Type 0 where
  pub before : List ℕ
  pub byte : ℕ
  pub after : List ℕ
  pub whole : s ≡ before ++ (byte ∷ after)
  pub place : p ≡ length before

abbrev pub parted_at : (before : List ℕ) (b : ℕ) (after : List ℕ) → Parted (before ++ (b ∷ after)) (length before)
parted_at before b after = record { before = before; byte = b; after = after; whole = refl; place = refl }

-- the byte between `before` and `after` offends
pub data Here (before : List ℕ) (b : ℕ) (after : List ℕ) : ℕ → Type 0 where
  large : Digit b → (EndsInDigit before → ⊥) → message_limit ≤ value_from 0 (b ∷ after) → Here before b after 5
  deep : b ≡ 40 → times 41 before + most_depth ≤ times 40 before → Here before b after 20
  many : Digit b → (EndsInDigit before → ⊥) → most_occurrences ≤ length (numbers_from false before) → Here before b after 21

pub offends_parted : {s : List ℕ} {k p : ℕ} → Offends s k p → Parted s p
offends_parted (Offends.large {before = before} {after = after} n _) =
    record { before = before; byte = n.first; after = after; whole = n.whole; place = refl }
offends_parted (Offends.deep before after e _) = record { before = before; byte = 40; after = after; whole = e; place = refl }
offends_parted (Offends.many {before = before} {after = after} n _) =
    record { before = before; byte = n.first; after = after; whole = n.whole; place = refl }

-- there is one way to part it
parted_before : {s : List ℕ} {p : ℕ} (d : Parted s p) → d.before ≡ take p s
parted_before {s} {p} d = sym (take_at d.before (d.byte ∷ d.after) p (sym d.place)) ∙ ap (take p) (sym d.whole)

parted_rest : {s : List ℕ} {p : ℕ} (d : Parted s p) → d.byte ∷ d.after ≡ drop p s
parted_rest {s} {p} d = sym (drop_at d.before (d.byte ∷ d.after) p (sym d.place)) ∙ ap (drop p) (sym d.whole)

here_same : {s : List ℕ} {k p : ℕ} (c d : Parted s p) → Here c.before c.byte c.after k → Here d.before d.byte d.after k
here_same c d h =
    let e : c.before ≡ d.before = parted_before c ∙ sym (parted_before d) in
    let f : c.byte ∷ c.after ≡ d.byte ∷ d.after = parted_rest c ∙ sym (parted_rest d) in
    let b : c.byte ≡ d.byte = cc in
    let a : c.after ≡ d.after = cc in
    rw (e, b, a) at h

pub offends_here : {s : List ℕ} {k p : ℕ} (d : Parted s p) → Offends s k p → Here d.before d.byte d.after k
unfolding offends_parted
offends_here d (Offends.large n v) = here_same (offends_parted (Offends.large n v)) d (large n.digit n.alone v)
offends_here d (Offends.deep before after e v) = here_same (offends_parted (Offends.deep before after e v)) d (deep refl v)
offends_here d (Offends.many n v) = here_same (offends_parted (Offends.many n v)) d (many n.digit n.alone v)

pub here_offends : {s : List ℕ} {k p : ℕ} (d : Parted s p) → Here d.before d.byte d.after k → Offends s k p
here_offends {s} {k} d h = subst (Offends s k) (sym d.place) (by h)
  where
    by : {j : ℕ} → Here d.before d.byte d.after j → Offends s j (length d.before)
    by (large g a v) = Offends.large {before = d.before} (record { first = d.byte; whole = d.whole; digit = g; alone = a }) v
    by (deep e v) = Offends.deep d.before d.after (d.whole ∙ ap (λ c. d.before ++ (c ∷ d.after)) e) v
    by (many g a v) = Offends.many {before = d.before} {after = d.after} (record { first = d.byte; whole = d.whole; digit = g; alone = a }) v

pub offends_within : {s : List ℕ} {k p : ℕ} → Offends s k p → p < length s
offends_within o =
    let d = offends_parted o in
    omega (arith, ap length d.whole, length-append d.before (d.byte ∷ d.after), d.place)

-- THE TESTS at a byte: that nothing offends there, or what does, 5 before all else
pub data Tested (before : List ℕ) (b : ℕ) (after : List ℕ) : ℕ → Type 0 where
  nothing : ((k : ℕ) → Here before b after k → ⊥) → Tested before b after 0
  something : {k : ℕ} → Here before b after (suc k) → (Here before b after 5 → suc k ≡ 5) → Tested before b after (suc k)

module _ (before : List ℕ) (b : ℕ) (after : List ℕ) where
  no_offence : (Digit b → (EndsInDigit before → ⊥) → (value_from 0 (b ∷ after) < message_limit) × (length (numbers_from false before) < most_occurrences))
      → (b ≡ 40 → times 40 before < times 41 before + most_depth) → (k : ℕ) → Here before b after k → ⊥
  no_offence number group k (large d a v) = let h = number d a in omega arith
  no_offence number group k (deep e v) = let h = group e in omega arith
  no_offence number group k (many d a v) = let h = number d a in omega arith

  not_both : {X : Type 0} → Digit b → b ≡ 40 → X
  not_both d e = absurd (omega arith)

  five_large : {k : ℕ} → k ≡ 5 → Here before b after k → Digit b × (message_limit ≤ value_from 0 (b ∷ after))
  five_large e (large d a v) = (d, v)
  five_large e (deep _ _) = absurd (omega arith)
  five_large e (many _ _ _) = absurd (omega arith)

  pub tested : Tested before b after (offence (ends_from false before) (times 40 before) (times 41 before) (length (numbers_from false before)) b after)
  tested =
      by (is_digit b) refl (ends_from false before) refl (ltb (value_from 0 (b ∷ after)) message_limit) refl
      (ltb (length (numbers_from false before)) most_occurrences) refl (eqb b 40) refl (ltb (times 40 before) (times 41 before + most_depth)) refl
    where
      by : (d : Bool) → is_digit b ≡ d → (i : Bool) → ends_from false before ≡ i
          → (l : Bool) → ltb (value_from 0 (b ∷ after)) message_limit ≡ l
          → (m : Bool) → ltb (length (numbers_from false before)) most_occurrences ≡ m
          → (o : Bool) → eqb b 40 ≡ o → (r : Bool) → ltb (times 40 before) (times 41 before + most_depth) ≡ r
          → Tested before b after (cond d (cond i 0 (cond l (cond m 0 21) 5)) (cond o (cond r 0 20) 0))
      by true e true f l _ m _ o _ r _ = nothing (no_offence (λ _ a. absurd (a (is_ends before f))) (λ h. not_both (is_digit_lem b e) h))
      by true e false f false g m _ o _ r _ = something (large (is_digit_lem b e) (λ x. false_not_true f (ends_is before x)) (ltb-false _ _ g)) (λ _. refl)
      by true e false f true g false h o _ r _ =
          something (many (is_digit_lem b e) (λ x. false_not_true f (ends_is before x)) (ltb-false _ _ h))
          (λ x. let v = five_large refl x in let w = ltb-true (value_from 0 (b ∷ after)) message_limit g in absurd (omega arith))
      by true e false f true g true h o _ r _ =
          nothing (no_offence (λ _ _. (ltb-true _ _ g, ltb-true _ _ h)) (λ x. not_both (is_digit_lem b e) x))
      by false e i _ l _ m _ true f false g =
          something (deep (eqb-true b 40 f) (ltb-false _ _ g)) (λ x. absurd (is_other b e (five_large refl x).0))
      by false e i _ l _ m _ true f true g = nothing (no_offence (λ d. absurd (is_other b e d)) (λ _. ltb-true _ _ g))
      by false e i _ l _ m _ false f r _ = nothing (no_offence (λ d. absurd (is_other b e d)) (λ x. absurd (eqb-false b 40 f x)))

  here_one : {j k : ℕ} → Here before b after j → Here before b after k → (Here before b after 5 → j ≡ 5) → (Here before b after 5 → k ≡ 5) → j ≡ k
  here_one (large d a v) y f g = sym (g (large d a v))
  here_one (deep e v) (large d a w) f g = f (large d a w)
  here_one (many d a v) (large c z w) f g = f (large c z w)
  here_one (deep e v) (deep e' v') f g = refl
  here_one (deep e v) (many d a w) f g = not_both d e
  here_one (many d a v) (deep e w) f g = not_both d e
  here_one (many d a v) (many c z w) f g = refl

-- at one place 5 comes first, and of the others there is only one
pub offends_one : {s : List ℕ} {j k p : ℕ} → Offends s j p → Offends s k p → (Offends s 5 p → j ≡ 5) → (Offends s 5 p → k ≡ 5) → j ≡ k
offends_one a b f g =
    let d = offends_parted a in
    here_one d.before d.byte d.after (offends_here d a) (offends_here d b) (λ h. f (here_offends d h)) (λ h. g (here_offends d h))
