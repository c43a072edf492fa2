-- The machines that are read are the machines that stand there, and back (field 1).
-- These stand here and not in specs/ because a must-fail edit of what is spelled takes their ground away.
use Prim.Native.Nat.{ℕ}
use Rattle.std.specs.Prelude.{◌≡◌, Bool}
use Rattle.std.proofs.Math.Path.{sym, ap, subst}
use Rattle.std.proofs.Common.{◌∙◌}
use mathlib.Core.List.{List}
use native.Mathlib.Omega.{arith}
use Rattle.tables.specs.Valid.{MachinesValid}
use Rattle.tables.specs.declared.tables.Machines.{Machines}
use Rattle.numbers.specs.Part.{got}
use Rattle.numbers.specs.Number.{read_within}
use Rattle.numbers.specs.Laws.Parts.{and_then_got, same_value}
use Rattle.reading_model.specs.Machines.{counted_machines, most_first, resumes_by, machines_by, read_machines}
use Rattle.reading_model.specs.Laws.Machines.{machines_valid}
use Rattle.theory_format.specs.Readable.{Bytes}
use Rattle.theory_format.specs.Spelled.{number, entries, first_number, machines}
use Rattle.theory_format.specs.Laws.Here.{Here, here_then, here_part}
use Rattle.theory_format.specs.Laws.Numbers.{here_got, within_forth, within_back}
use Rattle.theory_format.specs.Laws.Machines.{first_by_lem, first_says, counted_forth, sizes_back, starts_back}

module _ (s : List ℕ) (bytes : Bytes s) where
  pub machines_forth : (at : ℕ) {x : Bool × Machines} {next : ℕ} → read_machines s at ≡ got x next → Here s at (machines x.0 x.1) next
  unfolding read_machines machines
  machines_forth at {x} e =
      let t = and_then_got (read_within s at 1 most_first) e in
      let m = and_then_got (counted_machines s t.place (machines_by t.value)) t.then in
      let valid = subst (λ y. MachinesValid y.1) (sym (same_value m.then)) (machines_valid s at e) in
      let c = counted_forth s bytes t.place (machines_by t.value) valid m.first in
      let first : t.value ≡ first_number (resumes_by t.value) m.value.count =
      sym (first_by_lem t.value) ∙ ap (first_number (resumes_by t.value)) c.0 in
      here_got (λ y. machines y.0 y.1) m.then
      (here_then (subst (λ n. Here s at (number n) t.place) first (within_forth s bytes at 1 most_first t.first)) c.1)

module _ (s : List ℕ) where
  pub machines_back : (at : ℕ) (resumes : Bool) (m : Machines) {next : ℕ} → MachinesValid m → Here s at (machines resumes m) next
      → read_machines s at ≡ got (resumes, m) next
  unfolding read_machines counted_machines machines
  machines_back at resumes m valid h =
      let p = here_part (number (first_number resumes m.count)) h in
      let q = here_part (entries m.states m.count 0) p.second in
      let f = first_says resumes m.count valid.least valid.most in
      rw (
        within_back s at 1 most_first (first_number resumes m.count) f.least f.most (omega arith) p.first,
        f.resumed,
        f.counted,
        sizes_back s m valid p.middle q.first,
        starts_back s m valid q.middle q.second,
      )
