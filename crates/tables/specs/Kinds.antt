-- The kinds of number: how each is made from a raw number, and which number stands for nowhere.
use Rattle.std.specs.Prelude.{cond, true, false, ℕ, ◌-◌, ltb, eqb}
use Rattle.std.proofs.Math.Option.{Option, none, some}
use Rattle.tables.specs.Limits.{most_pool}

-- the number itself where it is below its kind's limit, else the largest of its kind
abbrev pub limited : ℕ → ℕ → ℕ
limited limit raw = cond (ltb raw limit) raw (limit - 1)

-- where a word has led: to the diagram state of this number, or nowhere, which has the number that no state has
abbrev pub reached_of : ℕ → Option ℕ
reached_of t = elim (eqb t most_pool) [ true ↦ none | false ↦ some t ]
