-- Field 6: the bad entries that are read stand in the file as they are spelled, and the other way round.
use Rattle.std.specs.Prelude.{ℕ, ◌+◌, ◌*◌, ◌≤◌, ◌<◌, ◌≡◌, refl, List, ◌++◌, length, get_or, set, replicate}
use Rattle.std.proofs.Common.{sym, subst, subst₂, arith, zero-add}
use Rattle.tables.specs.Limits.{most_controls, most_pool, most_bad}
use Rattle.tables.specs.Valid.{BadValid}
use Rattle.tables.specs.declared.tables.BadList.{BadList}
use Rattle.numbers.specs.Part.{got}
use Rattle.numbers.specs.Number.{read_within, read_two}
use Rattle.numbers.specs.Laws.Parts.{and_then_got, same_value}
use Rattle.reading_file.specs.Bad.{read_entries, read_bad}
use Rattle.reading_file.specs.Laws.Bad.{entries_rounds, bad_valid}
use Rattle.theory_format.specs.Spelled.{number, each, bad}
use Rattle.theory_format.specs.Readable.{Bytes}
use Rattle.theory_format.specs.Laws.Here.{Here, here_then, here_part}
use Rattle.theory_format.specs.Laws.Fronts.{Begun, begun_all, begun_before, Front, front_none, front_set, front_whole}
use Rattle.theory_format.specs.Laws.Numbers.{here_got, within_forth, within_back, two_forth, two_back}
use Rattle.theory_format.specs.Laws.Loops.{loop_forth, loop_back}

-- entry b of the table, as it is spelled
abbrev entry : List ℕ → ℕ → List ℕ
entry rows b = number (get_or rows (b * 2) 0) ++ number (get_or rows (b * 2 + 1) 0)

module _ (s : List ℕ) (product n : ℕ) (last : List ℕ) where
  entry_forth : Bytes s → (b at : ℕ) (x : List ℕ) (v : ℕ × ℕ) (next : ℕ) → (b + 1) * 2 ≤ length last → read_two s at product n ≡ got v next
      → Begun last ((b + 1) * 2) (set (set x (b * 2) v.0) (b * 2 + 1) v.1)
      → Begun last (b * 2) x × Here s at (entry last b) next
  entry_forth bytes b at x v next h e g =
      let l : b * 2 < length last = omega arith in
      let c₁ = begun_before (b * 2 + 1) v.1 (omega arith) (omega arith) g in
      let c₀ = begun_before (b * 2) v.0 refl l c₁.0 in
      (c₀.0, subst₂ (λ a c. Here s at (number a ++ number c) next) (sym c₀.1) (sym c₁.1) (two_forth s bytes at product n e))

pub bad_forth : (s : List ℕ) → Bytes s → (product n at : ℕ) {B : BadList} {next : ℕ} → read_bad s at product n ≡ got B next
    → Here s at (bad B) next
unfolding read_bad bad
bad_forth s bytes product n at {B} {next} e =
    let t = and_then_got (read_within s at 0 most_bad) e in
    let u = and_then_got (read_entries s t.place product n t.value 0 (replicate (most_bad * 2) 0)) t.then in
    made t.value t.place u.value u.place (within_forth s bytes at 0 most_bad t.first) u.first u.then
  where
    made : (count p : ℕ) (rows : List ℕ) (q : ℕ) → Here s at (number count) p
        → read_entries s p product n count 0 (replicate (most_bad * 2) 0) ≡ got rows q
        → got (record { count = count; rows = rows }) q ≡ got B next
        → Here s at (number B.count ++ each (entry B.rows) B.count 0) next
    made count p rows q first e₁ e₂ =
        let z : BadValid product n (record { count = count; rows = rows }) =
        subst (BadValid product n) (sym (same_value e₂)) (bad_valid s product n at e)
        in
        let rest =
        loop_forth s (entries_rounds s product n) count (entry rows) (λ b x. Unit {0}) (λ b x. Begun rows (b * 2) x)
        (λ _ _ _ _ _ _ _ _. tt)
        (λ b a x v r l f _ g. entry_forth s product n rows bytes b a x v r (omega (arith, z.most, z.long)) f g) count 0 p
        (replicate (most_bad * 2) 0) (zero-add count) e₁ tt (begun_all rows (count * 2))
        in
        here_got (λ (C : BadList). number C.count ++ each (entry C.rows) C.count 0) e₂ (here_then first rest.1)

pub bad_back : (s : List ℕ) (product n at : ℕ) (B : BadList) {next : ℕ} → product ≤ most_controls → n ≤ most_pool → BadValid product n B
    → Here s at (bad B) next → read_bad s at product n ≡ got B next
unfolding read_bad bad
bad_back s product n at B {next} h m z here =
    let p = here_part (number B.count) here in
    let t =
    loop_back s (entries_rounds s product n) B.count (entry B.rows) (λ b x. Front B.rows (b * 2) x)
    (λ b a x r l f g.
    record {
      value = (get_or B.rows (b * 2) 0, get_or B.rows (b * 2 + 1) 0);
      reads =
          two_back s a product n (get_or B.rows (b * 2) 0) (get_or B.rows (b * 2 + 1) 0) (z.control b l) (z.root b l) (omega arith)
          (omega arith) g;
      then =
          front_set (b * 2 + 1) (omega arith) (omega (arith, z.most, z.long))
          (front_set (b * 2) refl (omega (arith, z.most, z.long)) f);
    })
    B.count 0 p.middle (replicate (most_bad * 2) 0) (zero-add B.count) (front_none B.rows (most_bad * 2) z.long) p.second
    in
    rw (
      within_back s at 0 most_bad B.count (omega arith) z.most (omega arith) p.first,
      t.reads,
      front_whole z.rest t.holds,
    )
