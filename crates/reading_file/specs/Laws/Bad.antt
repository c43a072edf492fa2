-- What holds of the bad entries that were read (field 6).
use Rattle.std.specs.Prelude.{ℕ, ◌+◌, ◌*◌, ◌≤◌, ◌<◌, ◌≡◌, List, length, get_or, set, replicate}
use Rattle.std.proofs.Math.Path.{refl, subst}
use Rattle.std.proofs.Common.{◌∙◌, length-set, get_or-set_same, get_or-set_other, arith, zero-add}
use Rattle.std.proofs.Math.ListN.{length-replicate}
use Rattle.tables.specs.Limits.{most_bad}
use Rattle.numbers.specs.Part.{got}
use Rattle.numbers.specs.Laws.Parts.{and_then_got, same_value}
use Rattle.numbers.specs.Number.{read_within, read_two}
use Rattle.reading_file.specs.Bad.{read_entries, read_bad}
use Rattle.numbers.specs.Laws.Ranges.{within_range, two_range}
use Rattle.numbers.specs.Laws.Written.{changed_set, changed_then, Written, written_none, written_more, zeros_hold}
use Rattle.numbers.specs.Laws.Rounds.{Rounds, rounds_keep}
use Rattle.tables.specs.Valid.{BadValid}
use Rattle.tables.specs.declared.tables.BadList.{BadList}

abbrev Fits : ℕ → ℕ → ℕ → List ℕ → Type 0
Fits product n b rows = (get_or rows (b * 2) 0 < product) × (get_or rows (b * 2 + 1) 0 < n)

module _ (s : List ℕ) (product n : ℕ) where
  pub entries_rounds : Rounds (λ left b at x. read_entries s at product n left b x) (λ b at x. read_two s at product n)
      (λ b v x. set (set x (b * 2) v.0) (b * 2 + 1) v.1)
  unfolding read_entries
  entries_rounds = record { stop = λ i at x. refl; round = λ left i at x. refl }

  entry_step : (before : List ℕ) (b : ℕ) (x : List ℕ) (v : ℕ × ℕ) → (b + 1) * 2 ≤ length before → (v.0 < product) × (v.1 < n)
      → Written (Fits product n) (λ i. i * 2) 0 b before x
      → Written (Fits product n) (λ i. i * 2) 0 (b + 1) before (set (set x (b * 2) v.0) (b * 2 + 1) v.1)
  entry_step before b x v h r z =
      let x₁ = set x (b * 2) v.0 in
      let l = z.changed.long in
      let l₁ = length-set x (b * 2) v.0 in
      let e₀ = get_or-set_other x₁ (b * 2 + 1) (b * 2) v.1 0 (omega arith) ∙ get_or-set_same x (b * 2) v.0 0 (omega arith) in
      let e₁ = get_or-set_same x₁ (b * 2 + 1) v.1 0 (omega arith) in
      written_more (Fits product n) (λ i. i * 2) (λ i j g. omega arith)
      (λ c t u same f. (omega (arith, same (c * 2) (omega arith), f.0), omega (arith, same (c * 2 + 1) (omega arith), f.1)))
      (omega arith) z
      (changed_then (changed_set (b * 2) ((b + 1) * 2) (b * 2) v.0 x (omega arith) (omega arith))
      (changed_set (b * 2) ((b + 1) * 2) (b * 2 + 1) v.1 x₁ (omega arith) (omega arith)))
      (omega (arith, e₀, r.0), omega (arith, e₁, r.1))

  entries_read : (before : List ℕ) (count at : ℕ) {x : List ℕ} {next : ℕ} → count * 2 ≤ length before
      → read_entries s at product n count 0 before ≡ got x next → Written (Fits product n) (λ i. i * 2) 0 count before x
  entries_read before count at h e =
      rounds_keep entries_rounds (λ b. Written (Fits product n) (λ i. i * 2) 0 b before) count
      (λ b at' x v next l f z. entry_step before b x v (omega arith) (two_range s at' product n f) z) count 0 at before
      (zero-add count) e (written_none (Fits product n) (λ i. i * 2) 0 before)

  pub bad_valid : (at : ℕ) {B : BadList} {next : ℕ} → read_bad s at product n ≡ got B next → BadValid product n B
  unfolding read_bad
  bad_valid at e =
      let t = and_then_got (read_within s at 0 most_bad) e in
      let r = within_range s at 0 most_bad t.first in
      let a = and_then_got (read_entries s t.place product n t.value 0 (replicate (most_bad * 2) 0)) t.then in
      let z =
      entries_read (replicate (most_bad * 2) 0) t.value t.place (omega (arith, length-replicate {A = ℕ} (most_bad * 2) 0, r.1))
      a.first
      in
      subst (BadValid product n) (same_value a.then)
      (record {
        most = r.1;
        long = z.changed.long ∙ length-replicate {A = ℕ} (most_bad * 2) 0;
        control = λ b g. (z.each b (omega arith) g).0;
        root = λ b g. (z.each b (omega arith) g).1;
        rest = λ k g. z.changed.over k g ∙ zeros_hold (most_bad * 2) k;
      })
