-- The model that is read is the model that stands there (fields 1 to 3).
-- These stand here and not in specs/ because a must-fail edit of what is spelled takes their ground away.
use Rattle.std.specs.Prelude.{ℕ, ◌≡◌, Bool, List, ◌++◌}
use Rattle.std.proofs.Common.{sym, subst}
use Rattle.tables.specs.Starting.{waits}
use Rattle.tables.specs.Valid.{ModelValid}
use Rattle.tables.specs.declared.tables.Machines.{Machines}
use Rattle.tables.specs.declared.tables.Queues.{Queues}
use Rattle.tables.specs.declared.tables.ModelTables.{ModelTables}
use Rattle.numbers.specs.Part.{got, and_then}
use Rattle.numbers.specs.Laws.Parts.{and_then_got}
use Rattle.reading_model.specs.Machines.{read_machines}
use Rattle.reading_model.specs.Queues.{read_queues}
use Rattle.reading_model.specs.Transitions.{read_transitions}
use Rattle.reading_model.specs.Model.{read_model}
use Rattle.theory_format.specs.Readable.{Bytes}
use Rattle.theory_format.specs.Spelled.{machines, queues, transitions}
use Rattle.theory_format.specs.Laws.Here.{Here, here_then, here_part}
use Rattle.theory_format.specs.Laws.Numbers.{here_got}
use Rattle.theory_format.proofs.Machines.{machines_forth, machines_back}
use Rattle.theory_format.specs.Laws.Starting.{queues_forth, queues_back}
use Rattle.theory_format.specs.Laws.Transitions.{transitions_forth, transitions_back}

-- fields 1 to 3
abbrev pub model_text : ModelTables → List ℕ
model_text M = machines (waits M.queues.lengths) M.machines ++ (queues M.queues ++ transitions M.transitions)

-- what stands there after machines and queues were read
model_stands : (s : List ℕ) → Bytes s → (at : ℕ) (first : Bool × Machines) (q : Queues) {p₁ p₂ : ℕ} {M : ModelTables} {next : ℕ}
    → read_machines s at ≡ got first p₁ → read_queues s p₁ first.0 ≡ got q p₂
    → and_then (read_transitions s p₂ first.1 q) (λ τ p₃. got (record { machines = first.1; queues = q; transitions = τ }) p₃) ≡ got M next
    → Here s at (model_text M) next
model_stands s bytes at first q {p₁} {p₂} e f g =
    let τ = and_then_got (read_transitions s p₂ first.1 q) g in
    let (same, here) = queues_forth s bytes p₁ first.0 f in
    let machines-here = subst (λ b. Here s at (machines b first.1) p₁) (sym same) (machines_forth s bytes at e) in
    here_got model_text τ.then (here_then machines-here (here_then here (transitions_forth s bytes first.1 q p₂ τ.first)))

pub model_forth : (s : List ℕ) → Bytes s → (at : ℕ) {M : ModelTables} {next : ℕ} → read_model s at ≡ got M next → Here s at (model_text M) next
unfolding read_model
model_forth s bytes at e =
    let m = and_then_got (read_machines s at) e in
    let q = and_then_got (read_queues s m.place m.value.0) m.then in
    model_stands s bytes at m.value q.value m.first q.first q.then

pub model_back : (s : List ℕ) (at : ℕ) (M : ModelTables) {next : ℕ} → ModelValid M → Here s at (model_text M) next → read_model s at ≡ got M next
unfolding read_model
model_back s at M valid h =
    let resumes = waits M.queues.lengths in
    let p = here_part (machines resumes M.machines) h in
    let r = here_part (queues M.queues) p.second in
    rw (
      machines_back s at resumes M.machines valid.machines p.first,
      queues_back s p.middle M.queues valid.queues r.first,
      transitions_back s M.machines M.queues r.middle M.transitions valid.machines valid.queues valid.transitions
          r.second,
    )
