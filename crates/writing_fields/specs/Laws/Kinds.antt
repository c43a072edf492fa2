-- A transition from its kind on: kind 0 ends it.
use Rattle.std.specs.Prelude.{ℕ, ◌≡◌, Bool, cond, List, [], ◌++◌}
use Rattle.std.proofs.Common.{sym, ◌∙◌, append-nil, arith, eq-eqb, ne_eqb}
use Rattle.std.proofs.Math.Path.{ap}
use Rattle.numbers.specs.Put.{Put}
use Rattle.numbers.specs.Laws.Put.{put_then}
use Rattle.tables.specs.Rows.{kind_at}
use Rattle.theory_format.specs.Spelled.{number, action}
use Rattle.writing_fields.specs.Parts.{kind}
use Rattle.writing_fields.specs.Laws.Texts.{put_as, put_found, put_wider}

module _ (rows : List ℕ) (row : ℕ) where
  -- the kind, and what a test lets follow
  abbrev tested : Bool → List ℕ
  tested b = number (kind_at rows row) ++ cond b [] (action rows row)

module _ (rows : List ℕ) (row : ℕ) {entry exit : List ℕ} {at v r : ℕ} (found : v ≡ kind_at rows row) where
  pub kind_ends : v ≡ 0 → Put entry at 2 (number v) exit r → Put entry at 516 (kind rows row) exit r
  unfolding kind
  kind_ends z w =
      put_as (sym (append-nil (number (kind_at rows row))) ∙ ap (tested rows row) (sym (eq-eqb (kind_at rows row) 0 (sym found ∙ z))))
      (put_wider 516 (put_found found w) (omega arith))

  pub kind_goes_on : {mid : List ℕ} {p : ℕ} → (v ≡ 0 → ⊥) → Put entry at 2 (number v) mid p → Put mid p 514 (action rows row) exit r
      → Put entry at 516 (kind rows row) exit r
  unfolding kind
  kind_goes_on n w x =
      put_as (ap (tested rows row) (sym (ne_eqb (kind_at rows row) 0 (λ z. n (found ∙ z))))) (put_then (put_found found w) x (omega arith))
