-- Where the letters of a walk lead, in words: before the step, over it, and after it.
use Rattle.std.specs.Prelude.{◌≡◌, refl, Bool, true, false, ◌⊎◌, ℕ, suc, ◌≤◌, ◌<◌, eqb, ltb}
use Rattle.std.proofs.Common.{sym, ap, subst, ◌∙◌, inl, inr, ⊎_elim, zero-le, arith, ltb-true, ltb-false, eqb-true, lt-ltb, le-ltb, eq-eqb}
use Rattle.std.proofs.Math.Option.{Option, none, some}
use mathlib.Core.List.{List, [], ◌∷◌, ◌++◌, reverse, reverse-cons, reverse-reverse}
use Rattle.theory_exploration.specs.Explore.{along as hop, reach}
use Rattle.theory_model.specs.Model.{messages, Between, nothing, message}
use Rattle.theory_model.specs.Diagram.{Pool, along, follow}
use Rattle.theory_model.specs.Session.{Session}
use Rattle.theory_model.specs.Verdict.{Pair, before, after}
use Rattle.theory_model.specs.Judge.{Walk, pair, read, jump, go}
use Rattle.theory_model.specs.Laws.Basics.{by_test, none_not_some}

module _ (P : Pool) where
  pub follow_none : (u : List ℕ) → follow P none u ≡ none
  follow_none [] = refl
  follow_none (m ∷ u) = follow_none u

  pub follow_append : (o : Option ℕ) (u v : List ℕ) → follow P o (u ++ v) ≡ follow P (follow P o u) v
  follow_append o [] v = refl
  follow_append o (m ∷ u) v = follow_append (along P o m) u v

  -- a word that leads somewhere leads somewhere on its way
  pub follow_front : (o : Option ℕ) (u v : List ℕ) {s : ℕ} → follow P o (u ++ v) ≡ some s → (r : ℕ) × (follow P o u ≡ some r) × (follow P (some r) v ≡ some s)
  follow_front o u v {s} e = by_middle (follow P o u) refl
    where
      by_middle : (x : Option ℕ) → follow P o u ≡ x → (r : ℕ) × (follow P o u ≡ some r) × (follow P (some r) v ≡ some s)
      by_middle none h = none_not_some (follow_append o u v ∙ ap (λ x. follow P x v) h ∙ follow_none v) e
      by_middle (some r) h = (r, h, sym (follow_append o u v ∙ ap (λ x. follow P x v) h) ∙ e)

-- may the target stand there? Of a bad entry it may not be nowhere
abbrev pub Kept : Bool → Option ℕ → Type 0
Kept false t = Unit {0}
Kept true none = ⊥
Kept true (some t) = Unit {0}

pair_keeps : (b : Bool) (side : ℕ → Option ℕ → Pair) (s : ℕ) (t : Option ℕ) → Kept b t → pair b side (some s) t ≡ some (side s t)
pair_keeps true side s none k = absurd k
pair_keeps true side s (some t) k = refl
pair_keeps false side s none k = refl
pair_keeps false side s (some t) k = refl

pair_is : (b : Bool) (side : ℕ → Option ℕ → Pair) (o t : Option ℕ) (x : Pair) → pair b side o t ≡ some x → (s : ℕ) × (o ≡ some s) × (x ≡ side s t) × Kept b t
pair_is b side none t x e = none_not_some refl e
pair_is true side (some s) none x e = none_not_some refl e
pair_is true side (some s) (some t) x e = (s, refl, cc, tt)
pair_is false side (some s) none x e = (s, refl, cc, tt)
pair_is false side (some s) (some t) x e = (s, refl, cc, tt)

module _ (S : Session) (W : Walk) where
  -- the letters are the messages and the step
  abbrev N : ℕ
  N = messages S.model

  abbrev letter : Option Pair → ℕ → Option Pair
  letter o m = hop (suc N) (go S W) o m

  -- WORDS IN READING ORDER
  abbrev pub walk : Option Pair → List ℕ → Option Pair
  walk o [] = o
  walk o (m ∷ z) = walk (letter o m) z

  walk_append : (o : Option Pair) (y z : List ℕ) → walk o (y ++ z) ≡ walk (walk o y) z
  walk_append o [] z = refl
  walk_append o (m ∷ y) z = walk_append (letter o m) y z

  walk_none : (z : List ℕ) → walk none z ≡ none
  walk_none [] = refl
  walk_none (m ∷ z) = walk_none z

  pub reach_walk : (x : Pair) (w : List ℕ) → reach (suc N) (go S W) x w ≡ walk (some x) (reverse w)
  reach_walk x [] = refl
  reach_walk x (m ∷ w) = ap (λ o. letter o m) (reach_walk x w) ∙ sym (walk_append (some x) (reverse w) (m ∷ [])) ∙ ap (walk (some x)) (sym (reverse-cons m w))

  pub walk_reach : (x : Pair) (z : List ℕ) → reach (suc N) (go S W) x (reverse z) ≡ walk (some x) z
  walk_reach x z = reach_walk x (reverse z) ∙ ap (walk (some x)) (reverse-reverse z)

  -- ONE LETTER, where the cut is among the messages
  module _ (within : W.cut ≤ N) where
    before_message : (s : ℕ) (t : Option ℕ) (m : ℕ) → m < W.cut → letter (some (before s t)) m ≡ read S W before s t m
    before_message s t m h = rw (lt-ltb m (suc N) (omega arith), hop, lt-ltb m W.cut h, go)

    before_step : (s : ℕ) (t : Option ℕ) → letter (some (before s t)) N ≡ jump S W s t
    before_step s t = rw (lt-ltb N (suc N) (omega arith), hop, le-ltb N W.cut (omega arith), go, eq-eqb N N refl)

    after_message : (s : ℕ) (t : Option ℕ) (m : ℕ) → W.cut ≤ m → m < N → letter (some (after s t)) m ≡ read S W after s t m
    after_message s t m h l = rw (lt-ltb m (suc N) (omega arith), hop, le-ltb m W.cut h, go, lt-ltb m N l)

    -- and what a letter that leads somewhere is
    pub record Reads (side : ℕ → Option ℕ → Pair) (s : ℕ) (t : Option ℕ) (m : ℕ) (x : Pair) : Type 0 where
      pub source : ℕ
      pub arc : S.pool.arc s m ≡ some source
      pub leads : x ≡ side source (along S.pool t m)
      pub kept : Kept W.entry (along S.pool t m)

    read_is : (side : ℕ → Option ℕ → Pair) (s : ℕ) (t : Option ℕ) (m : ℕ) (x : Pair) → read S W side s t m ≡ some x → Reads side s t m x
    read_is side s t m x e =
        let (r, p, q, k) = pair_is W.entry side (S.pool.arc s m) (along S.pool t m) x e in
        record { source = r; arc = p; leads = q; kept = k }

    pub record Jumps (s : ℕ) (t : Option ℕ) (x : Pair) : Type 0 where
      pub source : ℕ
      pub outs : follow S.pool (some s) W.out ≡ some source
      pub leads : x ≡ after source (follow S.pool t W.into)
      pub kept : Kept W.entry (follow S.pool t W.into)

    jump_is : (s : ℕ) (t : Option ℕ) (x : Pair) → jump S W s t ≡ some x → Jumps s t x
    jump_is s t x e =
        let (r, p, q, k) = pair_is W.entry after (follow S.pool (some s) W.out) (follow S.pool t W.into) x e in
        record { source = r; outs = p; leads = q; kept = k }

    no_letter : (x y : Pair) (m : ℕ) → suc N ≤ m → letter (some x) m ≡ some y → ⊥
    no_letter x y m h e = none_not_some (rw (le-ltb m (suc N) h, hop)) e

    before_letter : (s : ℕ) (t : Option ℕ) (m : ℕ) (x : Pair) → letter (some (before s t)) m ≡ some x → ((m < W.cut) × Reads before s t m x) ⊎ ((m ≡ N) × Jumps s t x)
    before_letter s t m x e =
        by_test (ltb m W.cut)
        (λ a. let l = ltb-true m W.cut a in inl (l, read_is before s t m x (sym (before_message s t m l) ∙ e)))
        (λ a. by_test (eqb m N)
        (λ b. let p = eqb-true m N b in inr (p, jump_is s t x (sym (ap (letter (some (before s t))) p ∙ before_step s t) ∙ e)))
        (λ b. absurd (by_test (ltb m (suc N))
        (λ c. none_not_some (rw (c, hop, a, go, b)) e)
        (λ c. no_letter (before s t) x m (ltb-false m (suc N) c) e))))

    after_letter : (s : ℕ) (t : Option ℕ) (m : ℕ) (x : Pair) → letter (some (after s t)) m ≡ some x → (W.cut ≤ m) × (m < N) × Reads after s t m x
    after_letter s t m x e =
        by_test (ltb m (suc N))
        (λ c. by_test (ltb m W.cut)
        (λ a. none_not_some (rw (c, hop, a, go)) e)
        (λ a. by_test (ltb m N)
        (λ b. let l = ltb-false m W.cut a in let h = ltb-true m N b in (l, h, read_is after s t m x (sym (after_message s t m l h) ∙ e)))
        (λ b. none_not_some (rw (c, hop, a, go, b)) e)))
        (λ c. absurd (no_letter (after s t) x m (ltb-false m (suc N) c) e))

    -- WORDS OF LETTERS
    abbrev F : Option ℕ → List ℕ → Option ℕ
    F o u = follow S.pool o u

    pub kept_front : (b : Bool) (o : Option ℕ) (z : List ℕ) → Kept b (F o z) → Kept b o
    kept_front false o z k = tt
    kept_front true none z k = subst (Kept true) (follow_none S.pool z) k
    kept_front true (some s) z k = tt

    -- what a word read after the step is
    pub record Afterwards (s : ℕ) (t : Option ℕ) (z : List ℕ) (s' : ℕ) (t' : Option ℕ) : Type 0 where
      pub high : Between W.cut N z
      pub source : F (some s) z ≡ some s'
      pub target : F t z ≡ t'
      pub kept : Kept W.entry t'

    abbrev pub WayAfter : ℕ → Option ℕ → List ℕ → Pair → Type 0
    WayAfter s t z (before s' t') = ⊥
    WayAfter s t z (after s' t') = Afterwards s t z s' t'

    more_after : (s : ℕ) (t : Option ℕ) (m : ℕ) (z : List ℕ) (y : Pair) (r : ℕ) → W.cut ≤ m → m < N → S.pool.arc s m ≡ some r
        → WayAfter r (along S.pool t m) z y → WayAfter s t (m ∷ z) y
    more_after s t m z (before s' t') r l h p w = w
    more_after s t m z (after s' t') r l h p w =
        record { high = message l h w.high; source = ap (λ o. F o z) p ∙ w.source; target = w.target; kept = w.kept }

    -- a word that leads somewhere leads over its first letter
    by_letter : {X : Type 0} (x : Pair) (m : ℕ) (z : List ℕ) (y : Pair) → walk (some x) (m ∷ z) ≡ some y
        → ((x' : Pair) → letter (some x) m ≡ some x' → walk (some x') z ≡ some y → X) → X
    by_letter {X} x m z y e next = by_end (letter (some x) m) refl e
      where
        by_end : (o : Option Pair) → letter (some x) m ≡ o → walk o z ≡ some y → X
        by_end none q e' = none_not_some (walk_none z) e'
        by_end (some x') q e' = next x' q e'

    pub from_after : (s : ℕ) (t : Option ℕ) (z : List ℕ) (y : Pair) → Kept W.entry t → walk (some (after s t)) z ≡ some y → WayAfter s t z y
    from_after s t [] y k e =
        let same : after s t ≡ y = cc in
        subst (WayAfter s t []) same (record { high = nothing; source = refl; target = refl; kept = k })
    from_after s t (m ∷ z) y k e =
        by_letter (after s t) m z y e
        (λ x q e'.
        let (l, h, R) = after_letter s t m x q in
        more_after s t m z y R.source l h R.arc (from_after R.source (along S.pool t m) z y R.kept (ap (λ x. walk (some x) z) (sym R.leads) ∙ e')))

    -- what a word read before the step is, and one over it
    pub record Beforehand (s : ℕ) (t : Option ℕ) (z : List ℕ) (s' : ℕ) (t' : Option ℕ) : Type 0 where
      pub low : Between 0 W.cut z
      pub source : F (some s) z ≡ some s'
      pub target : F t z ≡ t'
      pub kept : Kept W.entry t'

    pub record Across (s : ℕ) (t : Option ℕ) (z : List ℕ) (s' : ℕ) (t' : Option ℕ) : Type 0 where
      pub u : List ℕ
      pub v : List ℕ
      pub letters : z ≡ u ++ (N ∷ v)
      pub low : Between 0 W.cut u
      pub high : Between W.cut N v
      pub source : F (some s) (u ++ (W.out ++ v)) ≡ some s'
      pub target : F t (u ++ (W.into ++ v)) ≡ t'
      pub kept : Kept W.entry t'

    abbrev pub WayBefore : ℕ → Option ℕ → List ℕ → Pair → Type 0
    WayBefore s t z (before s' t') = Beforehand s t z s' t'
    WayBefore s t z (after s' t') = Across s t z s' t'

    more_before : (s : ℕ) (t : Option ℕ) (m : ℕ) (z : List ℕ) (y : Pair) (r : ℕ) → m < W.cut → S.pool.arc s m ≡ some r
        → WayBefore r (along S.pool t m) z y → WayBefore s t (m ∷ z) y
    more_before s t m z (before s' t') r h p w =
        record { low = message zero-le h w.low; source = ap (λ o. F o z) p ∙ w.source; target = w.target; kept = w.kept }
    more_before s t m z (after s' t') r h p w =
        record {
          u = m ∷ w.u;
          v = w.v;
          letters = ap {B = List ℕ} (λ l. m ∷ l) w.letters;
          low = message zero-le h w.low;
          high = w.high;
          source = ap (λ o. F o (w.u ++ (W.out ++ w.v))) p ∙ w.source;
          target = w.target;
          kept = w.kept;
        }

    crossing : (s : ℕ) (t : Option ℕ) (m : ℕ) (z : List ℕ) (y : Pair) (x : Pair) → m ≡ N → (J : Jumps s t x)
        → WayAfter J.source (F t W.into) z y → WayBefore s t (m ∷ z) y
    crossing s t m z (before s' t') x e J w = absurd w
    crossing s t m z (after s' t') x e J w =
        record {
          u = [];
          v = z;
          letters = ap {B = List ℕ} (λ n. n ∷ z) e;
          low = nothing;
          high = w.high;
          source = follow_append S.pool (some s) W.out z ∙ ap (λ o. F o z) J.outs ∙ w.source;
          target = follow_append S.pool t W.into z ∙ w.target;
          kept = w.kept;
        }

    pub from_before : (s : ℕ) (t : Option ℕ) (z : List ℕ) (y : Pair) → Kept W.entry t → walk (some (before s t)) z ≡ some y → WayBefore s t z y
    from_before s t [] y k e =
        let same : before s t ≡ y = cc in
        subst (WayBefore s t []) same (record { low = nothing; source = refl; target = refl; kept = k })
    from_before s t (m ∷ z) y k e =
        by_letter (before s t) m z y e
        (λ x q e'. ⊎_elim
        (λ (h, R). more_before s t m z y R.source h R.arc (from_before R.source (along S.pool t m) z y R.kept (ap (λ x. walk (some x) z) (sym R.leads) ∙ e')))
        (λ (p, J). crossing s t m z y x p J (from_after J.source (F t W.into) z y J.kept (ap (λ x. walk (some x) z) (sym J.leads) ∙ e')))
        (before_letter s t m x q))

    -- AND BACK
    module _ (side : ℕ → Option ℕ → Pair) (s : ℕ) (t : Option ℕ) (m : ℕ) (z : List ℕ) where
      -- where a letter is read, and the rest of the word leads somewhere
      reading : letter (some (side s t)) m ≡ read S W side s t m → {s' : ℕ} {y : Pair} → F (S.pool.arc s m) z ≡ some s' → Kept W.entry (F (along S.pool t m) z)
          → ((r : ℕ) → F (some r) z ≡ some s' → walk (some (side r (along S.pool t m))) z ≡ some y) → walk (some (side s t)) (m ∷ z) ≡ some y
      reading q {s'} {y} e k rest = by_arc (S.pool.arc s m) refl
        where
          by_arc : (o : Option ℕ) → S.pool.arc s m ≡ o → walk (some (side s t)) (m ∷ z) ≡ some y
          by_arc none p = none_not_some (ap (λ o. F o z) p ∙ follow_none S.pool z) e
          by_arc (some r) p =
              ap (λ o. walk o z)
              (q ∙ ap (λ o. pair W.entry side o (along S.pool t m)) p ∙ pair_keeps W.entry side r (along S.pool t m) (kept_front W.entry (along S.pool t m) z k))
              ∙ rest r (sym (ap (λ o. F o z) p) ∙ e)

    pub to_after : (s : ℕ) (t : Option ℕ) (z : List ℕ) {s' : ℕ} → Between W.cut N z → F (some s) z ≡ some s' → Kept W.entry (F t z)
        → walk (some (after s t)) z ≡ some (after s' (F t z))
    to_after s t [] {s'} b e k = cc
    to_after s t (m ∷ z) (message l h b) e k =
        reading after s t m z (after_message s t m l h) e k (λ r e'. to_after r (along S.pool t m) z b e' k)

    pub to_before : (s : ℕ) (t : Option ℕ) (z : List ℕ) {s' : ℕ} → Between 0 W.cut z → F (some s) z ≡ some s' → Kept W.entry (F t z)
        → walk (some (before s t)) z ≡ some (before s' (F t z))
    to_before s t [] {s'} b e k = cc
    to_before s t (m ∷ z) (message l h b) e k =
        reading before s t m z (before_message s t m h) e k (λ r e'. to_before r (along S.pool t m) z b e' k)

    pub to_across : (s : ℕ) (t : Option ℕ) (u v : List ℕ) {s' : ℕ} → Between 0 W.cut u → Between W.cut N v → F (some s) (u ++ (W.out ++ v)) ≡ some s'
        → Kept W.entry (F t (u ++ (W.into ++ v))) → walk (some (before s t)) (u ++ (N ∷ v)) ≡ some (after s' (F t (u ++ (W.into ++ v))))
    to_across s t u v {s'} b c e k =
        let (r, p, q) = follow_front S.pool (some s) u (W.out ++ v) e in
        let (r', p', q') = follow_front S.pool (some r) W.out v q in
        let target : F (F (F t u) W.into) v ≡ F t (u ++ (W.into ++ v)) =
        sym (follow_append S.pool t u (W.into ++ v) ∙ follow_append S.pool (F t u) W.into v) in
        let k' : Kept W.entry (F (F (F t u) W.into) v) = subst (Kept W.entry) (sym target) k in
        let k'' : Kept W.entry (F (F t u) W.into) = kept_front W.entry (F (F t u) W.into) v k' in
        let over : letter (some (before r (F t u))) N ≡ some (after r' (F (F t u) W.into)) =
        before_step r (F t u) ∙ ap (λ o. pair W.entry after o (F (F t u) W.into)) p' ∙ pair_keeps W.entry after r' (F (F t u) W.into) k'' in
        walk_append (some (before s t)) u (N ∷ v)
        ∙ ap (λ o. walk o (N ∷ v)) (to_before s t u b p (kept_front W.entry (F t u) W.into k''))
        ∙ ap (λ o. walk o v) over
        ∙ to_after r' (F (F t u) W.into) v c q' k'
        ∙ ap (λ o. some (after s' o)) target
