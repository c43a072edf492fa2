-- Field 5: the mapped that is read stands in the file as it is spelled, and the other way round.
use Rattle.std.specs.Prelude.{ℕ, ◌≤◌, ◌≡◌, List, length, get_or, replicate}
use Rattle.std.proofs.Common.{ap, ◌∙◌, arith}
use Rattle.tables.specs.Limits.{most_controls, most_pool}
use Rattle.tables.specs.Valid.{MapValid}
use Rattle.tables.specs.declared.tables.Map.{Map}
use Rattle.numbers.specs.Part.{got}
use Rattle.numbers.specs.Laws.Parts.{and_then_got, same_value}
use Rattle.reading_file.specs.Map.{read_roots, read_map}
use Rattle.reading_file.specs.Laws.Map.{roots_rounds, map_valid}
use Rattle.theory_format.specs.Spelled.{entries, mapped}
use Rattle.theory_format.specs.Readable.{Bytes}
use Rattle.theory_format.specs.Laws.Here.{Here}
use Rattle.theory_format.specs.Laws.Numbers.{here_got, within_forth, within_back}
use Rattle.theory_format.specs.Laws.Loops.{table_forth, table_back}

pub map_forth : (s : List ℕ) → Bytes s → (product n at : ℕ) {R : Map} {next : ℕ} → product ≤ most_controls
    → read_map s at product n ≡ got R next → Here s at (mapped product R) next
unfolding read_map mapped
map_forth s bytes product n at h e =
    let t = and_then_got (read_roots s at n product 0 (replicate most_controls 0)) e in
    let long : length t.value ≡ most_controls =
    ap (λ (Q : Map). length Q.roots) (same_value t.then) ∙ (map_valid s n product at h e).long
    in
    here_got (λ (Q : Map). entries Q.roots product 0) t.then
    (table_forth s (roots_rounds s n) product at (λ i p x v q f. within_forth s bytes p 0 n f) (replicate most_controls 0) (omega arith)
    t.first)

pub map_back : (s : List ℕ) (product n at : ℕ) (R : Map) {next : ℕ} → product ≤ most_controls → n ≤ most_pool → MapValid product n R
    → Here s at (mapped product R) next → read_map s at product n ≡ got R next
unfolding read_map mapped
map_back s product n at R h m z here =
    rw
    (table_back s (roots_rounds s n) product at R.roots most_controls z.long h z.rest
    (λ i p x q l g. within_back s p 0 n (get_or R.roots i 0) (omega arith) (z.roots i) (omega arith) g) here)
