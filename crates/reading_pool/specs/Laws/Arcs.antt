-- The pool as the file lists it, and that the table of arcs is this list: every arc that the file gives, and no other.
use Prim.Native.Nat.{ℕ, zero, suc, ◌+◌, ◌≤◌, ◌<◌}
use Rattle.std.specs.Prelude.{◌≡◌, Bool, ◌⊎◌, length, get_or, eqb}
use Rattle.std.proofs.Math.Path.{refl, sym, ap, subst}
use Rattle.std.proofs.Common.{◌∙◌, inl, inr, get_or-set_same, get_or-set_other, eqb-true, eq-eqb, ne_eqb, arith}
use Rattle.std.proofs.Math.Bool.{true, false}
use mathlib.Core.List.Memᴰ
use mathlib.Core.List.{List, [], ◌∷◌, Memᴰ}
use Rattle.std.proofs.Math.Option.{Option, none, some}
use Rattle.std.proofs.Math.ListN.{set, length-set}
use Rattle.std.proofs.lemmas.Bool.{eqb-false}
use Rattle.numbers.specs.Part.{Part, got, and_then}
use Rattle.numbers.specs.Laws.Parts.{and_then_got, same_value, same_place_lem}
use Rattle.reading_pool.specs.Pool.{read_arc, read_arcs}
use Rattle.reading_pool.specs.Laws.Ranges.{arc_range}
use Rattle.numbers.specs.Laws.Parts.{and_then_assoc, and_then_same}
use Rattle.numbers.specs.Laws.Written.{Changed, changed_none, changed_set, changed_then}

-- the arcs that are left of a state, each a message and a target
unfoldable pub list_arcs : List ℕ → ℕ → ℕ → ℕ → ℕ → ℕ → Part (List (ℕ × ℕ))
list_arcs s at n sum least zero = got [] at
list_arcs s at n sum least (suc left) =
    and_then (read_arc s at n sum least) (λ arc next.
    and_then (list_arcs s next n sum (arc.0 + 1) left) (λ rest p. got (arc ∷ rest) p))

-- arcs put into a table whose entries for the state begin at row
unfoldable pub put_arcs : ℕ → List (ℕ × ℕ) → List ℕ → List ℕ
put_arcs row [] t = t
put_arcs row (arc ∷ rest) t = put_arcs row rest (set t (row + arc.0) (arc.1 + 1))

-- where the arc for message m leads
unfoldable pub listed_arc : List (ℕ × ℕ) → ℕ → Option ℕ
listed_arc [] m = none
listed_arc (arc ∷ rest) m = elim (eqb m arc.0) [ true ↦ some arc.1 | false ↦ listed_arc rest m ]

-- messages ascend strictly, from least on and below sum, and targets are below n
unfoldable pub Ascends : ℕ → ℕ → ℕ → List (ℕ × ℕ) → Type 0
Ascends n sum least [] = Unit {0}
Ascends n sum least (arc ∷ rest) = (least ≤ arc.0) × (arc.0 < sum) × (arc.1 < n) × Ascends n sum (arc.0 + 1) rest

module _ (s : List ℕ) (n sum : ℕ) where
  -- READING INTO A TABLE is reading the list and putting it there
  pub arcs_listed : (row left at least : ℕ) (t : List ℕ)
      → read_arcs s at n sum least row left t ≡ and_then (list_arcs s at n sum least left) (λ l p. got (put_arcs row l t) p)
  unfolding read_arcs list_arcs put_arcs
  arcs_listed row zero at least t = refl
  arcs_listed row (suc left) at least t =
      and_then_same (read_arc s at n sum least)
      (λ arc next. read_arcs s next n sum (arc.0 + 1) row left (set t (row + arc.0) (arc.1 + 1)))
      (λ arc next.
      and_then (and_then (list_arcs s next n sum (arc.0 + 1) left) (λ rest p. got (arc ∷ rest) p)) (λ l p. got (put_arcs row l t) p))
      (λ arc next.
      arcs_listed row left next (arc.0 + 1) (set t (row + arc.0) (arc.1 + 1))
      ∙ sym
      (and_then_assoc (list_arcs s next n sum (arc.0 + 1) left) (λ rest p. got (arc ∷ rest) p) (λ l p. got (put_arcs row l t) p)))
      ∙ sym
      (and_then_assoc (read_arc s at n sum least)
      (λ arc next. and_then (list_arcs s next n sum (arc.0 + 1) left) (λ rest p. got (arc ∷ rest) p))
      (λ l p. got (put_arcs row l t) p))

  pub arcs_ascend : (left at least : ℕ) {l : List (ℕ × ℕ)} {next : ℕ} → list_arcs s at n sum least left ≡ got l next
      → Ascends n sum least l
  unfolding list_arcs Ascends
  arcs_ascend zero at least e = subst (Ascends n sum least) (same_value e) tt
  arcs_ascend (suc left) at least e =
      let t = and_then_got (read_arc s at n sum least) e in
      let u = and_then_got (list_arcs s t.place n sum (t.value.0 + 1) left) t.then in
      let r = arc_range s at n sum least t.first in
      subst (Ascends n sum least) (same_value u.then)
      (r.0, r.1, r.2, arcs_ascend left t.place (t.value.0 + 1) u.first)

module _ (n sum : ℕ) where
  -- no arc of the list is for a message below its least
  pub arc_not_below : (least : ℕ) (l : List (ℕ × ℕ)) (m : ℕ) → Ascends n sum least l → m < least → listed_arc l m ≡ none
  unfolding Ascends listed_arc
  arc_not_below least [] m h g = refl
  arc_not_below least (arc ∷ rest) m h g =
      ap (λ b. elim b as (λ _. Option ℕ) [ true ↦ some arc.1 | false ↦ listed_arc rest m ])
      (ne_eqb m arc.0 (omega (arith, h.0)))
      ∙ arc_not_below (arc.0 + 1) rest m h.3 (omega (arith, h.0))

-- an entry of the table: 1 plus the target, or as it was
abbrev pub entry_of : Option ℕ → ℕ → ℕ
entry_of none was = was
entry_of (some t) was = t + 1

module _ (n sum row : ℕ) where
  pub arcs_changed : (least : ℕ) (l : List (ℕ × ℕ)) (t : List ℕ) → Ascends n sum least l → Changed row (row + sum) t (put_arcs row l t)
  unfolding Ascends put_arcs
  arcs_changed least [] t h = changed_none row (row + sum) t
  arcs_changed least (arc ∷ rest) t h =
      changed_then (changed_set row (row + sum) (row + arc.0) (arc.1 + 1) t (omega arith) (omega (arith, h.1)))
      (arcs_changed (arc.0 + 1) rest (set t (row + arc.0) (arc.1 + 1)) h.3)

  -- EVERY ARC OF THE LIST IS IN THE TABLE, and no other: a later arc overwrites none
  pub arcs_entered : (least : ℕ) (l : List (ℕ × ℕ)) (t : List ℕ) (m : ℕ) → Ascends n sum least l → row + sum ≤ length t
      → get_or (put_arcs row l t) (row + m) 0 ≡ entry_of (listed_arc l m) (get_or t (row + m) 0)
  unfolding Ascends put_arcs listed_arc
  arcs_entered least [] t m h long = refl
  arcs_entered least (arc ∷ rest) t m h long =
      arcs_entered (arc.0 + 1) rest t' m h.3 (omega (arith, length-set t (row + arc.0) (arc.1 + 1))) ∙ go (eqb m arc.0) refl
    where
      t' : List ℕ
      t' = set t (row + arc.0) (arc.1 + 1)

      go : (b : Bool) → eqb m arc.0 ≡ b
          → entry_of (listed_arc rest m) (get_or t' (row + m) 0)
          ≡ entry_of (elim b as (λ _. Option ℕ) [ true ↦ some arc.1 | false ↦ listed_arc rest m ]) (get_or t (row + m) 0)
      go true f =
          let e = eqb-true m arc.0 f in
          ap (λ o. entry_of o (get_or t' (row + m) 0)) (arc_not_below n sum (arc.0 + 1) rest m h.3 (omega arith))
          ∙ ap (λ k. get_or t' (row + k) 0) e
          ∙ get_or-set_same t (row + arc.0) (arc.1 + 1) 0 (omega (arith, h.1))
      go false f =
          ap (entry_of (listed_arc rest m))
          (get_or-set_other t (row + arc.0) (row + m) (arc.1 + 1) 0 (λ c. eqb-false m arc.0 f (omega arith)))

-- the arcs of the list are what is found for their messages
pub listed_found : (n sum least : ℕ) (l : List (ℕ × ℕ)) (m t : ℕ) → Ascends n sum least l → Memᴰ (m, t) l → listed_arc l m ≡ some t
unfolding Ascends listed_arc
listed_found n sum least [] m t h i = absurd (Memᴰ.not-nil i)
listed_found n sum least (arc ∷ rest) m t h i = go (listed_found n sum (arc.0 + 1) rest m t h.3) (Memᴰ.cases_cons i)
  where
    at_test : Bool → Option ℕ
    at_test b = elim b [ true ↦ some arc.1 | false ↦ listed_arc rest m ]

    go : (Memᴰ (m, t) rest → listed_arc rest m ≡ some t) → ((m, t) ≡ arc) ⊎ Memᴰ (m, t) rest → at_test (eqb m arc.0) ≡ some t
    go later (inl e) = ap at_test (eq-eqb m arc.0 (ap (λ x. x.0) e)) ∙ ap some (sym (ap (λ x. x.1) e))
    go later (inr j) = ap at_test (ne_eqb m arc.0 apart) ∙ later j
      where
        apart : m ≡ arc.0 → ⊥
        apart e =
            let z : ◌≡◌ {A = ℕ} 0 1 = cc (arc_not_below n sum (arc.0 + 1) rest m h.3 (omega arith), later j) in
            omega arith

pub found_listed : (l : List (ℕ × ℕ)) (m t : ℕ) → listed_arc l m ≡ some t → Memᴰ (m, t) l
unfolding listed_arc
found_listed [] m t e = let z : ◌≡◌ {A = ℕ} 0 1 = cc in absurd (omega arith)
found_listed (arc ∷ rest) m t e = go (found_listed rest m t) (eqb m arc.0) refl e
  where
    go : (listed_arc rest m ≡ some t → Memᴰ (m, t) rest) → (b : Bool) → eqb m arc.0 ≡ b
        → (elim b as (λ _. Option ℕ) [ true ↦ some arc.1 | false ↦ listed_arc rest m ]) ≡ some t → Memᴰ (m, t) (arc ∷ rest)
    go later true f g =
        let p₀ : m ≡ arc.0 = eqb-true m arc.0 f in
        let p₁ : t ≡ arc.1 = cc in
        Memᴰ.head (λ i. (p₀ i, p₁ i))
    go later false f g = Memᴰ.tail (later g)

-- what read_arcs leaves in the table: the arcs that the file gives, and elsewhere what was there
pub record ArcsThere (s : List ℕ) (n sum row left at least : ℕ) (before after : List ℕ) (next : ℕ) : Type 0 where
  pub arcs : List (ℕ × ℕ)
  pub listed : list_arcs s at n sum least left ≡ got arcs next
  pub ascend : Ascends n sum least arcs
  pub entries : (m : ℕ) → get_or after (row + m) 0 ≡ entry_of (listed_arc arcs m) (get_or before (row + m) 0)

pub arcs_there : (s : List ℕ) (n sum row left at least : ℕ) (before : List ℕ) {after : List ℕ} {next : ℕ}
    → row + sum ≤ length before → read_arcs s at n sum least row left before ≡ got after next
    → ArcsThere s n sum row left at least before after next
arcs_there s n sum row left at least before {after} {next} long e =
    let t = and_then_got (list_arcs s at n sum least left) (sym (arcs_listed s n sum row left at least before) ∙ e) in
    let a = arcs_ascend s n sum left at least t.first in
    record {
      arcs = t.value;
      listed = t.first ∙ ap (got t.value) (same_place_lem t.then);
      ascend = a;
      entries =
          λ m.
          sym (ap (λ x. get_or x (row + m) 0) (same_value t.then)) ∙ arcs_entered n sum row least t.value before m a long;
    }
