-- What a loop writes into a table: which entries may have changed, and what holds of the part written by each round.
use Rattle.std.specs.Prelude.{ℕ, ◌+◌, ◌≤◌, ◌<◌, ◌≡◌, refl, Bool, true, false, List, length, get_or, set, replicate, eqb, ltb}
use Rattle.std.proofs.Common.{sym, subst, ◌∙◌, length-set, get_or-set_same, get_or-set_other, eqb-true, ltb-true, ltb-false, arith}
use Rattle.std.proofs.lemmas.List.{length-replicate, get_or-replicate}
use Rattle.std.proofs.Math.ListN.{get_or-eq_default}
use Rattle.std.proofs.lemmas.Bool.{eqb-false}

-- to show Q of k: at i itself, and at every other number
pub at_or_other : (Q : ℕ → Type 0) (i k : ℕ) → Q i → ((k ≡ i → ⊥) → Q k) → Q k
at_or_other Q i k here elsewhere = go (eqb k i) refl
  where
    go : (b : Bool) → eqb k i ≡ b → Q k
    go true e = subst Q (sym (eqb-true k i e)) here
    go false e = elsewhere (eqb-false k i e)

-- a table of zeros holds 0 everywhere, beyond its end too
pub zeros_hold : (n k : ℕ) → ◌≡◌ {A = ℕ} (get_or (replicate n 0) k 0) 0
zeros_hold n k = go (ltb k n) refl
  where
    go : (b : Bool) → ltb k n ≡ b → ◌≡◌ {A = ℕ} (get_or (replicate n 0) k 0) 0
    go true e = get_or-replicate n k 0 0 (ltb-true k n e)
    go false e =
        let l : length {A = ℕ} (replicate n 0) ≡ n = length-replicate n 0 in
        let h : n ≤ k = ltb-false k n e in
        let g : length {A = ℕ} (replicate n 0) ≤ k = omega arith in
        get_or-eq_default (replicate n 0) 0 g

-- entries from lo on and below hi may have changed, no others
pub record Changed (lo hi : ℕ) (before after : List ℕ) : Type 0 where
  pub long : length after ≡ length before
  pub under : (k : ℕ) → k < lo → get_or after k 0 ≡ get_or before k 0
  pub over : (k : ℕ) → hi ≤ k → get_or after k 0 ≡ get_or before k 0

pub changed_none : (lo hi : ℕ) (t : List ℕ) → Changed lo hi t t
changed_none lo hi t = record { long = refl; under = λ k h. refl; over = λ k h. refl }

pub changed_set : (lo hi i v : ℕ) (t : List ℕ) → lo ≤ i → i < hi → Changed lo hi t (set t i v)
changed_set lo hi i v t a b =
    record {
      long = length-set t i v;
      under = λ k h. get_or-set_other t i k v 0 (omega arith);
      over = λ k h. get_or-set_other t i k v 0 (omega arith);
    }

pub changed_wider : {lo hi lo' hi' : ℕ} {t u : List ℕ} → lo' ≤ lo → hi ≤ hi' → Changed lo hi t u → Changed lo' hi' t u
changed_wider a b c =
    record { long = c.long; under = λ k h. c.under k (omega arith); over = λ k h. c.over k (omega arith) }

pub changed_then : {lo hi : ℕ} {t u w : List ℕ} → Changed lo hi t u → Changed lo hi u w → Changed lo hi t w
changed_then c d =
    record {
      long = d.long ∙ c.long;
      under = λ k h. d.under k h ∙ c.under k h;
      over = λ k h. d.over k h ∙ c.over k h;
    }

-- The rounds of a loop write the parts of a table one after another: part b begins at entry edge b. R b is what holds of part b.
module _ (R : ℕ → List ℕ → Type 0) (edge : ℕ → ℕ) where
  pub record Written (lo hi : ℕ) (before after : List ℕ) : Type 0 where
    pub changed : Changed (edge lo) (edge hi) before after
    pub each : (b : ℕ) → lo ≤ b → b < hi → R b after

  pub written_none : (lo : ℕ) (t : List ℕ) → Written lo lo t t
  written_none lo t = record { changed = changed_none (edge lo) (edge lo) t; each = λ b h g. absurd (omega arith) }

  -- the edges ascend, and R b looks at no entry from the next edge on
  module _ (ascend : (a b : ℕ) → a ≤ b → edge a ≤ edge b)
      (stable : (b : ℕ) (t u : List ℕ) → ((k : ℕ) → k < edge (b + 1) → get_or u k 0 ≡ get_or t k 0) → R b t → R b u) where
    pub written_more : {lo hi : ℕ} {t u w : List ℕ} → lo ≤ hi → Written lo hi t u → Changed (edge hi) (edge (hi + 1)) u w → R hi w
        → Written lo (hi + 1) t w
    written_more {lo} {hi} {t} {u} {w} h first c r =
        record {
          changed =
              changed_then (changed_wider (ascend lo lo (omega arith)) (ascend hi (hi + 1) (omega arith)) first.changed)
              (changed_wider (ascend lo hi h) (ascend (hi + 1) (hi + 1) (omega arith)) c);
          each =
              λ b l g.
              at_or_other (λ k. lo ≤ k → k < hi + 1 → R k w) hi b (λ _ _. r)
              (λ n l' g'. earlier b (omega arith) (first.each b l' (omega arith))) l g;
        }
      where
        earlier : (b : ℕ) → b < hi → R b u → R b w
        earlier b f = stable b u w (λ k g. let a = ascend (b + 1) hi (omega arith) in c.under k (omega arith))

-- the same where a part is one entry
module _ (P : ℕ → ℕ → Type 0) where
  abbrev pub Entry : ℕ → List ℕ → Type 0
  Entry k t = P k (get_or t k 0)

  abbrev pub Entries : ℕ → ℕ → List ℕ → List ℕ → Type 0
  Entries = Written Entry (λ k. k)

  pub entries_none : (lo : ℕ) (t : List ℕ) → Entries lo lo t t
  entries_none = written_none Entry (λ k. k)

  pub entries_more : {lo hi v : ℕ} {t u : List ℕ} → lo ≤ hi → hi < length t → Entries lo hi t u → P hi v
      → Entries lo (hi + 1) t (set u hi v)
  entries_more {lo} {hi} {v} {t} {u} h long first p =
      written_more Entry (λ k. k) (λ a b l. l) (λ b t' u' same q. subst (P b) (sym (same b (omega arith))) q) h first
      (changed_set hi (hi + 1) hi v u (omega arith) (omega arith))
      (subst (P hi) (sym (get_or-set_same u hi v 0 (omega (arith, first.changed.long)))) p)
