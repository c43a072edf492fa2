-- When a file is refused: the numbers and places there are, and the cases of 1, 9 and 10 exactly (document 01, "When a file or a
-- question is turned away"). `Causes` has the causes of 3 to 8 and of 23.
use Rattle.std.specs.Prelude.{ℕ, ◌≤◌, ◌<◌, ◌≡◌, refl, ◌↔◌, ◌⊎◌, Bool, true, false, List, length, leb, eqb}
use Rattle.std.proofs.Common.{sym, ap, subst, ◌∙◌, inl, inr, leb-true, leb-false, eqb-true, arith}
use Rattle.std.proofs.lemmas.Bool.{lt-leb, eqb-false}
use Rattle.numbers.specs.Limits.{most_bytes}
use Rattle.numbers.specs.Part.{Part, got, refused, provided}
use Rattle.reading_pool.specs.Pool.{read_pool}
use Rattle.reading_model.specs.Model.{read_model}
use Rattle.reading_file.specs.Sets.{read_sets}
use Rattle.reading_file.specs.File.{read_file, joined, set_tables}
use Rattle.reading_order.specs.Order.{Disordered}
use Rattle.numbers.specs.Laws.Parts.{not_refused}
use Rattle.numbers.specs.Laws.Places.{RefusalPlace, refuses_late, Fair, fair_more, fair_provided, fair_then}
use Rattle.reading_model.specs.Laws.Places.{model_fair}
use Rattle.reading_pool.specs.Laws.Places.{pool_fair}
use Rattle.reading_file.specs.Laws.Places.{sets_fair}
use Rattle.reading_file.specs.Laws.Fields.{Fields, is_ordered, at_end, from_sets, parts, file_is, to_order, to_end, Ended, ended}
use Rattle.reading_file.specs.Laws.Valid.{fields_ordered, fields_disordered}
use Rattle.tables.specs.declared.tables.ModelTables.{ModelTables}
use Rattle.tables.specs.declared.tables.Pool.{Pool}
use Rattle.tables.specs.declared.tables.Tables.{Tables}

module _ (s : List ℕ) where
  sets_on_fair : (at : ℕ) (M : ModelTables) (P : Pool) → at ≤ length s → Fair s 10 at (from_sets s at M P)
  sets_on_fair at M P h =
      fair_then s 10 at (read_sets s at M.machines.product P.count) _
      (fair_more s 8 10 at (read_sets s at M.machines.product P.count) (omega arith)
      (sets_fair s M.machines.product P.count at h))
      (λ D next h₁.
      fair_provided s 10 next (is_ordered (joined M P D)) 9 next (at_end s (joined M P D) next) (refuses_late s next 9 (omega arith) (omega arith) h₁)
      (fair_provided s 10 next (leb (length s) next) 10 next _ (refuses_late s next 10 (omega arith) (omega arith) h₁) (omega arith, h₁)))

  pub fields_fair : Fair s 10 0 (parts s)
  fields_fair =
      fair_then s 10 0 (read_model s 0) _ (fair_more s 8 10 0 (read_model s 0) (omega arith) (model_fair s 0 (omega arith))) (λ M p₁ h₁.
      fair_then s 10 p₁ (read_pool s p₁ M.queues.sum) _
      (fair_more s 8 10 p₁ (read_pool s p₁ M.queues.sum) (omega arith) (pool_fair s M.queues.sum p₁ h₁)) (λ P p₂ h₂.
      sets_on_fair p₂ M P h₂))

-- the two ways to be refused: the file is too long, or a field of it is refused at a place within it
pub record Overlong (s : List ℕ) (k p : ℕ) : Type 0 where
  pub number : k ≡ 1
  pub place : p ≡ most_bytes
  pub long : most_bytes < length s

pub record Within (s : List ℕ) (k p : ℕ) : Type 0 where
  pub least : 3 ≤ k
  pub most : (k ≡ 23 → ⊥) → k ≤ 10
  pub place : p ≤ length s
  pub short : length s ≤ most_bytes
  pub placed : RefusalPlace s k p

pub refusal_is : (s : List ℕ) (k p : ℕ) → read_file s ≡ refused k p → Overlong s k p ⊎ Within s k p
refusal_is s k p e = go (leb (length s) most_bytes) refl (sym (file_is s) ∙ e)
  where
    go : (b : Bool) → leb (length s) most_bytes ≡ b → provided b 1 most_bytes (parts s) ≡ refused k p → Overlong s k p ⊎ Within s k p
    go true f g =
        let h = subst (Fair s 10 0) g (fields_fair s) in
        inr
        (record
        { least = h.least; most = h.most; place = h.inside; short = leb-true (length s) most_bytes f; placed = h.placed })
    go false f g = inl (record { number = cc; place = cc; long = leb-false (length s) most_bytes f })

module _ (s : List ℕ) where
  -- 1, or 3 to 10, or 23; 2 is checking's alone
  pub refusal_number : (k p : ℕ) → read_file s ≡ refused k p → (k ≡ 1) ⊎ ((3 ≤ k) × (k ≤ 10)) ⊎ (k ≡ 23)
  refusal_number k p e = go (refusal_is s k p e)
    where
      by_number : Within s k p → (b : Bool) → eqb k 23 ≡ b → ((3 ≤ k) × (k ≤ 10)) ⊎ (k ≡ 23)
      by_number h true t = inr (eqb-true k 23 t)
      by_number h false t = inl (h.least, h.most (eqb-false k 23 t))

      go : Overlong s k p ⊎ Within s k p → (k ≡ 1) ⊎ ((3 ≤ k) × (k ≤ 10)) ⊎ (k ≡ 23)
      go (inl h) = inl h.number
      go (inr h) = inr (by_number h (eqb k 23) refl)

  pub refusal_place : (k p : ℕ) → read_file s ≡ refused k p → (k ≡ 1 → ⊥) → p ≤ length s
  refusal_place k p e n = go (refusal_is s k p e)
    where
      go : Overlong s k p ⊎ Within s k p → p ≤ length s
      go (inl h) = absurd (n h.number)
      go (inr h) = h.place

  -- 1: MORE THAN 16,384 BYTES
  pub refused_one : (p : ℕ) → (read_file s ≡ refused 1 p) ↔ ((p ≡ most_bytes) × (most_bytes < length s))
  refused_one p = (
    λ e. go (refusal_is s 1 p e),
    λ h.
        file_is s ∙ ap (λ b. provided b 1 most_bytes (parts s)) (lt-leb (length s) most_bytes h.1) ∙ ap (refused 1) (sym h.0),
  )
    where
      go : Overlong s 1 p ⊎ Within s 1 p → (p ≡ most_bytes) × (most_bytes < length s)
      go (inl h) = (h.place, h.long)
      go (inr h) = absurd (omega (arith, h.least))

-- what comes of a file that is not too long
fields_refused : (s : List ℕ) (k p : ℕ) → 1 < k → read_file s ≡ refused k p → (length s ≤ most_bytes) × (parts s ≡ refused k p)
fields_refused s k p h e = go (leb (length s) most_bytes) refl (sym (file_is s) ∙ e)
  where
    go : (b : Bool) → leb (length s) most_bytes ≡ b → provided b 1 most_bytes (parts s) ≡ refused k p
        → (length s ≤ most_bytes) × (parts s ≡ refused k p)
    go true f g = (leb-true (length s) most_bytes f, g)
    go false f g = let n : 1 ≡ k = cc in absurd (omega arith)

-- all fields are read, up to place p, and a word accepted from a root is out of order
pub record DisorderedAt (s : List ℕ) (p : ℕ) : Type 0 where
  pub tables : Tables
  pub read : Fields s tables p
  pub disordered : Disordered tables.queues tables.pool (set_tables tables)

-- all fields are read, up to place p, no such word is out of order, and bytes follow
pub record Followed (s : List ℕ) (p : ℕ) : Type 0 where
  pub tables : Tables
  pub read : Fields s tables p
  pub ordered : Disordered tables.queues tables.pool (set_tables tables) → ⊥
  pub further : p < length s

-- WHAT COMES of a file whose fields are all read: 9, or 10, or its tables
pub data Outcome {s : List ℕ} {y : Part Tables} (z : Ended s y) : Type 0 where
  by_nine : is_ordered z.tables ≡ false → y ≡ refused 9 z.place → Outcome z
  by_ten : is_ordered z.tables ≡ true → z.place < length s → y ≡ refused 10 z.place → Outcome z
  in_full : y ≡ got z.tables z.place → Outcome z

outcome : {s : List ℕ} {y : Part Tables} (z : Ended s y) → Outcome z
outcome {s} {y} z = by_order (is_ordered z.tables) refl z.then
  where
    by_end : is_ordered z.tables ≡ true → (b : Bool) → leb (length s) z.place ≡ b
        → provided b 10 z.place (got z.tables z.place) ≡ y → Outcome z
    by_end o true f e = in_full (sym e)
    by_end o false f e = by_ten o (leb-false (length s) z.place f) (sym e)

    by_order : (b : Bool) → is_ordered z.tables ≡ b → provided b 9 z.place (at_end s z.tables z.place) ≡ y → Outcome z
    by_order true o e = by_end o (leb (length s) z.place) refl e
    by_order false o e = by_nine o (sym e)

module _ (s : List ℕ) (p : ℕ) where
  disordered_ended : (z : Ended s (refused 9 p)) → Outcome z → DisorderedAt s p
  disordered_ended z (by_nine o e) =
      let n : z.place ≡ p = cc in
      record { tables = z.tables; read = subst (Fields s z.tables) n z.read; disordered = (fields_disordered z.read).0 o }
  disordered_ended z (by_ten o l e) = let n : ◌≡◌ {A = ℕ} 9 10 = cc (e) in absurd (omega arith)
  disordered_ended z (in_full e) = absurd (not_refused e)

  -- 9: A WORD ACCEPTED FROM A ROOT OUT OF ORDER
  pub refused_nine : (read_file s ≡ refused 9 p) ↔ DisorderedAt s p
  refused_nine = (
    λ e.
        let g = fields_refused s 9 p (omega arith) e in
        let z = ended s g.0 {y = refused 9 p} (omega arith) g.1 in
        disordered_ended z (outcome z),
    λ d. to_order d.read ∙ ap (λ b. provided b 9 p (at_end s d.tables p)) ((fields_disordered d.read).1 d.disordered),
  )

  followed_ended : (z : Ended s (refused 10 p)) → Outcome z → Followed s p
  followed_ended z (by_nine o e) = let n : ◌≡◌ {A = ℕ} 10 9 = cc (e) in absurd (omega arith)
  followed_ended z (by_ten o l e) =
      let n : z.place ≡ p = cc in
      record {
        tables = z.tables;
        read = subst (Fields s z.tables) n z.read;
        ordered = (fields_ordered z.read).0 o;
        further = omega arith;
      }
  followed_ended z (in_full e) = absurd (not_refused e)

  -- 10: BYTES AFTER THE LAST FIELD
  pub refused_ten : (read_file s ≡ refused 10 p) ↔ Followed s p
  refused_ten = (
    λ e.
        let g = fields_refused s 10 p (omega arith) e in
        let z = ended s g.0 {y = refused 10 p} (omega arith) g.1 in
        followed_ended z (outcome z),
    λ t.
        to_end t.read ((fields_ordered t.read).1 t.ordered)
        ∙ ap (λ b. provided b 10 p (got t.tables p)) (lt-leb (length s) p t.further),
  )
