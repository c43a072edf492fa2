-- Fields 5 and 6 together: the sets.
-- These stand here and not in specs/ because a must-fail edit of what is spelled takes their ground away.
use Rattle.std.specs.Prelude.{ℕ, ◌≤◌, ◌≡◌, List, ◌++◌}
use Rattle.tables.specs.Limits.{most_controls, most_pool}
use Rattle.tables.specs.Valid.{SetsValid}
use Rattle.tables.specs.declared.tables.SetTables.{SetTables}
use Rattle.numbers.specs.Part.{got}
use Rattle.numbers.specs.Laws.Parts.{and_then_got}
use Rattle.reading_file.specs.Map.{read_map}
use Rattle.reading_file.specs.Bad.{read_bad}
use Rattle.reading_file.specs.Sets.{read_sets}
use Rattle.theory_format.specs.Spelled.{mapped, bad}
use Rattle.theory_format.specs.Readable.{Bytes}
use Rattle.theory_format.specs.Laws.Here.{Here, here_then, here_part}
use Rattle.theory_format.specs.Laws.Numbers.{here_got}
use Rattle.theory_format.specs.Laws.Map.{map_forth, map_back}
use Rattle.theory_format.specs.Laws.Bad.{bad_forth, bad_back}

pub sets_forth : (s : List ℕ) → Bytes s → (product n at : ℕ) {D : SetTables} {next : ℕ} → product ≤ most_controls
    → read_sets s at product n ≡ got D next → Here s at (mapped product D.map ++ bad D.bad) next
unfolding read_sets
sets_forth s bytes product n at h e =
    let t = and_then_got (read_map s at product n) e in
    let u = and_then_got (read_bad s t.place product n) t.then in
    here_got (λ (E : SetTables). mapped product E.map ++ bad E.bad) u.then
    (here_then (map_forth s bytes product n at h t.first) (bad_forth s bytes product n t.place u.first))

pub sets_back : (s : List ℕ) (product n at : ℕ) (D : SetTables) {next : ℕ} → product ≤ most_controls → n ≤ most_pool
    → SetsValid product n D → Here s at (mapped product D.map ++ bad D.bad) next → read_sets s at product n ≡ got D next
unfolding read_sets
sets_back s product n at D h m z here =
    let p = here_part (mapped product D.map) here in
    rw (map_back s product n at D.map h m z.map p.first, bad_back s product n p.middle D.bad h m z.bad p.second)
