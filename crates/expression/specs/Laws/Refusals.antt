-- What the refusals of the text mean: 18, 19, and 5, 20 and 21.
use Rattle.std.specs.Prelude.{◌≡◌, refl, ◌⊎◌, List, ℕ, ◌-◌, ◌<◌, length}
use Rattle.std.proofs.Common.{sym, ap, ap₂, ◌∙◌, inl, inr, ⊎_elim, arith}
use Rattle.theory_grammar.specs.Grammar.{Outside}
use Rattle.theory_grammar.specs.Parse.{Parsed, parsed, stuck, parse}
use Rattle.theory_grammar.specs.Offends.{Offends, Leftmost, Limit, kept, passed, limits}
use Rattle.theory_grammar.specs.Laws.Running.{stuck_not_parsed}
use Rattle.theory_grammar.specs.Laws.Complete.{spelled_parsed}
use Rattle.theory_grammar.specs.Laws.Outside.{outside_is}
use Rattle.theory_grammar.specs.Laws.Limits.{limits_kept, limits_passed}
use Rattle.expression.specs.Expression.{Drawn, most_text, turned_away, expression}
use Rattle.expression.specs.Means.{TooLong, OutsideIs, LeftmostIs}
use Rattle.expression.specs.Laws.Comes.{Comes, long, outside, offender, many, drawn, comes, number_of, place_of, drawn_not_refused}

-- which numbers an offender has
offender_number : {s : List ℕ} {k p : ℕ} → Offends s k p → (k ≡ 5) ⊎ ((k ≡ 20) ⊎ (k ≡ 21))
offender_number (Offends.large n h) = inl refl
offender_number (Offends.deep b a e h) = inr (inl refl)
offender_number (Offends.many n h) = inr (inr refl)

other_number : (s : List ℕ) {k p : ℕ} (j : ℕ) → limits s ≡ passed k p → k ≡ j → (j ≡ 5 → ⊥) → (j ≡ 20 → ⊥) → (j ≡ 21 → ⊥) → ⊥
other_number s {k} {p} j f e a b c =
    ⊎_elim (λ h. a (sym e ∙ h)) (⊎_elim (λ h. b (sym e ∙ h)) (λ h. c (sym e ∙ h)))
    (offender_number ((limits_passed s k p).0 f).offends)

pub too_long_lem : TooLong
too_long_lem s = (λ e. is (expression s) (comes s) e, λ h. so (expression s) (comes s) h)
  where
    is : (D : Drawn) → Comes s D → D ≡ turned_away 18 most_text → most_text < length s
    is D (long h) e = h
    is D (outside h n f) e = absurd (let q : ◌≡◌ {A = ℕ} 19 18 = ap number_of e in omega arith)
    is D (offender h t f k p g) e =
        absurd (other_number s 18 g (ap number_of e) (λ q. omega arith) (λ q. omega arith) (λ q. omega arith))
    is D (many h t f g l) e = absurd (let q : ◌≡◌ {A = ℕ} 22 18 = ap number_of e in omega arith)
    is D (drawn h t f g l) e = absurd (let q : ◌≡◌ {A = ℕ} 0 18 = ap number_of e in omega arith)

    so : (D : Drawn) → Comes s D → most_text < length s → D ≡ turned_away 18 most_text
    so D (long h) l = refl
    so D (outside h n f) l = absurd (omega arith)
    so D (offender h t f k p g) l = absurd (omega arith)
    so D (many h t f g m) l = absurd (omega arith)
    so D (drawn h t f g m) l = absurd (omega arith)

pub outside_means : OutsideIs
outside_means s l p = (λ e. is (expression s) (comes s) e, λ h. so (expression s) (comes s) ((outside_is s p).1 h))
  where
    is : (D : Drawn) → Comes s D → D ≡ turned_away 19 p → Outside s p
    is D (long h) e = absurd (omega arith)
    is D (outside h n f) e = (outside_is s p).0 (n, f, sym (ap place_of e))
    is D (offender h t f k q g) e =
        absurd (other_number s 19 g (ap number_of e) (λ z. omega arith) (λ z. omega arith) (λ z. omega arith))
    is D (many h t f g m) e = absurd (let q : ◌≡◌ {A = ℕ} 22 19 = ap number_of e in omega arith)
    is D (drawn h t f g m) e = absurd (let q : ◌≡◌ {A = ℕ} 0 19 = ap number_of e in omega arith)

    so : (D : Drawn) → Comes s D → (n : ℕ) × (parse s ≡ stuck n) × (p ≡ length s - n) → D ≡ turned_away 19 p
    so D (long h) r = absurd (omega arith)
    so D (outside h n f) r =
        let same : n ≡ r.0 = ap left (sym f ∙ r.1) in
        ap (turned_away 19) (ap (λ j. length s - j) same ∙ sym r.2)
      where
        left : Parsed → ℕ
        left o = elim o [ parsed t ↦ 0 | stuck j ↦ j ]
    so D (offender h t f k q g) r = stuck_not_parsed r.1 f
    so D (many h t f g m) r = stuck_not_parsed r.1 f
    so D (drawn h t f g m) r = stuck_not_parsed r.1 f

pub leftmost_means : LeftmostIs
leftmost_means s l t w k p other = (λ e. is (expression s) (comes s) e, λ h. so (expression s) (comes s) ((limits_passed s k p).1 h))
  where
    tree : parse s ≡ parsed t
    tree = spelled_parsed s t w

    is : (D : Drawn) → Comes s D → D ≡ turned_away k p → Leftmost s k p
    is D (long h) e = absurd (omega arith)
    is D (outside h n f) e = stuck_not_parsed f tree
    is D (offender h u f j q g) e = (limits_passed s k p).0 (g ∙ ap₂ passed (ap number_of e) (ap place_of e))
    is D (many h u f g m) e = absurd (other (sym (ap number_of e)))
    is D (drawn h u f g m) e = absurd (drawn_not_refused e)

    so : (D : Drawn) → Comes s D → limits s ≡ passed k p → D ≡ turned_away k p
    so D (long h) e = absurd (omega arith)
    so D (outside h n f) e = stuck_not_parsed f tree
    so D (offender h u f j q g) e = let r = sym g ∙ e in ap₂ turned_away (ap kind r) (ap where_at r)
      where
        kind : Limit → ℕ
        kind o = elim o [ kept ↦ 0 | passed a b ↦ a ]

        where_at : Limit → ℕ
        where_at o = elim o [ kept ↦ 0 | passed a b ↦ b ]
    so D (many h u f g m) e = absurd ((limits_kept s).0 g k p ((limits_passed s k p).0 e).offends)
    so D (drawn h u f g m) e = absurd ((limits_kept s).0 g k p ((limits_passed s k p).0 e).offends)
