-- The pool of an expression is one that a file may have, over 32 messages: its entries beyond the count are 0.
use Rattle.std.proofs.Common.{sym, subst, ◌∙◌, arith}
use Rattle.std.specs.Prelude.{Bool, true, false, cond, List, ℕ, ◌+◌, ◌*◌, ◌/◌, ◌%◌, ◌≤◌, ◌<◌, eqb, length, get_or, replicate}
use Rattle.std.proofs.lemmas.List.{length-replicate}
use Rattle.numbers.specs.Laws.Written.{zeros_hold}
use Rattle.tables.specs.Limits.{most_messages, most_pool}
use Rattle.tables.specs.Pool.{pool_arcs}
use Rattle.tables.specs.Valid.{PoolValid}
use Rattle.theory_occurrences.specs.Sets.{meet, marked}
use Rattle.theory_occurrences.specs.Positions.{Automaton, automaton, ends}
use Rattle.expression_states.specs.States.{next_of, place_from}
use Rattle.expression_pool.specs.Filled.{arc_to, arc_entry, final_mark, pool_for}
use Rattle.expression_pool.specs.Laws.Entries.{entries_at, entries_beyond, entries_long, place_most}
use Rattle.expression.specs.Expression.{states}
use Rattle.expression.specs.Means.{ValidSo}
use Rattle.expression.specs.Laws.Standing.{start_first}
use Rattle.expression.specs.Laws.Language.{a_tree, drawing_of}

mark_small : (b : Bool) → cond b 1 0 < 2
mark_small true = omega arith
mark_small false = omega arith

arc_most : (N : List ℕ) (x : ℕ) → arc_to N x ≤ length N
arc_most N x = by (eqb x 0) (place_most N 0 x)
  where
    by : (b : Bool) → place_from 0 N x ≤ 0 + length N → cond b 0 (place_from 0 N x) ≤ length N
    by true h = omega arith
    by false h = omega arith

module _ (A : Automaton) (few : length (states A) ≤ most_pool) where
  abbrev N : List ℕ
  N = states A

  abbrev mark : ℕ → ℕ
  mark i = final_mark A.skips A.last (get_or N i 0)

  abbrev entry : ℕ → ℕ
  entry k = arc_entry N A.first A.follow A.label k

  entry_most : (k : ℕ) → entry k ≤ length N
  entry_most k = arc_most N (meet (next_of A.first A.follow (get_or N (k / most_messages) 0)) (marked (k % most_messages) A.label))

  pub valid : PoolValid most_messages (pool_for A N)
  valid =
      record {
        least = (start_first A few).0;
        most = few;
        finals_long = entries_long mark (length N) 0 (replicate most_pool 0) ∙ length-replicate {A = ℕ} most_pool 0;
        arcs_long = entries_long entry (length N * most_messages) 0 (replicate pool_arcs 0) ∙ length-replicate {A = ℕ} pool_arcs 0;
        finals =
            λ i h.
            subst (λ k. k < 2)
            (sym (entries_at mark (length N) 0 i (replicate most_pool 0) (omega arith) (omega arith) (omega (arith, length-replicate {A = ℕ} most_pool 0))))
            (mark_small (ends A (get_or N i 0)));
        finals_rest =
            λ i h. entries_beyond mark (length N) 0 i (replicate most_pool 0) (omega arith) ∙ zeros_hold most_pool i;
        arcs =
            λ i m h l.
            subst (λ k. k ≤ length N)
            (sym
            (entries_at entry (length N * most_messages) 0 (i * most_messages + m) (replicate pool_arcs 0) (omega arith) (omega arith)
            (omega (arith, length-replicate {A = ℕ} pool_arcs 0))))
            (entry_most (i * most_messages + m));
        arcs_above = λ i m h l k. absurd (omega arith);
        arcs_rest =
            λ k h. entries_beyond entry (length N * most_messages) 0 k (replicate pool_arcs 0) (omega arith) ∙ zeros_hold pool_arcs k;
      }

pub valid_so : ValidSo
valid_so s P d =
    let t = a_tree s P d in
    let r = drawing_of s P d t.tree t.text in
    subst (PoolValid most_messages) (sym r.pool) (valid (automaton t.tree) r.few)
