-- WHAT `restored` MEANS: some byte string is read into these tables. There is no search in it.
use Rattle.std.specs.Prelude.{◌≡◌, ◌↔◌, true, false}
use Rattle.std.proofs.Common.{ap, ◌∙◌}
use Rattle.tables.specs.declared.tables.Tables.{Tables}
use Rattle.theory_model.specs.Laws.Basics.{by_test, false_not_true}
use Rattle.reading_file.specs.Laws.Valid.{valid}
use Rattle.theory_format.specs.Spelled.{spelled}
use Rattle.theory_format.specs.Readable.{Readable}
use Rattle.theory_format.proofs.Whole.{readable_exactly, written_then_read}
use Rattle.comparison.specs.Laws.{tables_same}
use Rattle.writing_file.specs.Write.{gives, restored}
use Rattle.writing_file.specs.Laws.Writing.{restored_read}

readable_restored : (T : Tables) → Readable T → restored T ≡ true
unfolding restored
readable_restored T r = ap (λ x. gives x T) (written_then_read T ((readable_exactly T).0 r)) ∙ tables_same T

pub restored_exactly : (T : Tables) → (restored T ≡ true) ↔ Readable T
restored_exactly T = (λ e. (readable_exactly T).1 (valid (spelled T) (restored_read T e).1), readable_restored T)

-- and where they are not, none is
pub unrestored_exactly : (T : Tables) → (restored T ≡ false) ↔ (Readable T → ⊥)
unrestored_exactly T = (
  λ e r. false_not_true e ((restored_exactly T).1 r),
  λ h. by_test (restored T) (λ e. absurd (h ((restored_exactly T).0 e))) (λ e. e),
)
