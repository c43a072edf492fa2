-- The walk over contents, one message at a time: what is found of the message, by the tables of the file.
use Rattle.std.specs.Prelude.{ℕ, ◌+◌, ◌≤◌, ◌<◌, ◌≡◌, refl, Bool, true, false, get_or, take, eqb}
use Rattle.std.proofs.Math.Path.{sym, ap, ap₂}
use Rattle.std.proofs.Common.{◌∙◌, drop-cons, arith, add-one}
use Rattle.std.proofs.Math.Option.{Option, none, some}
use mathlib.Core.List.{List, [], ◌∷◌}
use Rattle.std.proofs.Math.ListN.{length, drop}
use borrow.Author.Tests.{lt-ltb, le-ltb, le-leb, lt-leb}
use Rattle.tables.specs.Limits.{most_pool}
use Rattle.tables.specs.Kinds.{reached_of}
use Rattle.tables.specs.Valid.{QueuesValid}
use Rattle.tables.specs.declared.tables.Queues.{Queues}
use Rattle.tables.specs.declared.tables.Pool as Declared
use Rattle.theory_model.specs.Model.{total, queue_of}
use Rattle.theory_model.specs.Diagram.{Pool, along, one_more, how_far}
use Rattle.theory_model.specs.Laws.Far.{far_none}
use Rattle.theory_tables.specs.Pool.{pool_of}
use Rattle.tables.specs.Lookup.{along_arc, final_at}
use Rattle.membership.specs.Member.{MemberReply, refusal, answer, judge}
use Rattle.theory_tables.specs.Laws.Queues.{messages_are}
use Rattle.theory_files.specs.Laws.Lookup.{along_is, final_is}
use Rattle.membership.specs.Laws.Queues.{drop_all}

-- the queues and the pool of the tables
abbrev pub counts_of : Queues → List ℕ
counts_of q = take q.count q.messages

abbrev pool_tables : ℕ → List ℕ → List ℕ → Declared.Pool
pool_tables n finals arcs = record { count = n; finals = finals; arcs = arcs }

abbrev pool_over : ℕ → List ℕ → List ℕ → Pool
pool_over n finals arcs = pool_of (pool_tables n finals arcs)

abbrev pub judge_over : Queues → List ℕ → List ℕ → ℕ → ℕ → ℕ → ℕ → Option ℕ → List ℕ → MemberReply
judge_over q finals arcs n far place queue s u = judge (counts_of q) (pool_over n finals arcs) far place queue s u

abbrev pub far_over : List ℕ → List ℕ → ℕ → Option ℕ → List ℕ → ℕ
far_over finals arcs n s u = how_far (pool_over n finals arcs) s u

-- A MESSAGE, by what is found of it
module _ (ns : List ℕ) (P : Pool) (far place queue : ℕ) (s : Option ℕ) (m : ℕ) (u : List ℕ) where
  pub judge_unknown : total ns ≤ m → judge ns P far place queue s (m ∷ u) ≡ refusal 12 place
  unfolding judge
  judge_unknown h = rw (le-ltb m (total ns) h, judge)

  pub judge_earlier : m < total ns → queue_of ns m < queue → judge ns P far place queue s (m ∷ u) ≡ refusal 13 place
  unfolding judge
  judge_earlier h l = rw (lt-ltb m (total ns) h, lt-leb queue (queue_of ns m) l, judge)

  pub judge_on : m < total ns → queue ≤ queue_of ns m
      → judge ns P far place queue s (m ∷ u) ≡ judge ns P far (place + 1) (queue_of ns m) (along P s m) u
  unfolding judge
  judge_on h l = rw (lt-ltb m (total ns) h, le-leb queue (queue_of ns m) l, judge)

-- whether a message has led somewhere, by the test of its number
pub none_more : (t : ℕ) → true ≡ eqb t most_pool → 0 ≡ one_more (reached_of t) 0
none_more t e = ap (λ b. one_more (elim b [ true ↦ none | false ↦ some t ]) 0) e

pub some_more : (t : ℕ) → false ≡ eqb t most_pool → 1 ≡ one_more (reached_of t) 0
some_more t e = ap (λ b. one_more (elim b [ true ↦ none | false ↦ some t ]) 0) e

pub one_at_most_lem : (x : Option ℕ) → one_more x 0 ≤ 1
one_at_most_lem none = omega arith
one_at_most_lem (some s) = omega arith

-- a message that leads somewhere is counted before the rest, or with it
far_more : (P : Pool) (far : ℕ) (t : Option ℕ) (u : List ℕ) → far + one_more t 0 + how_far P t u ≡ far + one_more t (how_far P t u)
far_more P far none u = omega (arith, far_none P u)
far_more P far (some s) u = omega arith

-- OVER THE TABLES of a file, at place i of the contents, followed so far: what is still to be found is what was to be found at the start. The
-- number of states is not asked for
pub record Judging (q : Queues) (finals arcs contents : List ℕ) (start : Option ℕ) (i queue far : ℕ) (s : Option ℕ) : Type 0 where
  pub is : (n f : ℕ) → judge_over q finals arcs n f i queue s (drop i contents) ≡ judge_over q finals arcs n f 0 0 start contents
  pub within : i ≤ length contents
  pub followed : (n : ℕ) → far + far_over finals arcs n s (drop i contents) ≡ far_over finals arcs n start contents
  pub fewer : far ≤ i

pub judging_begin : (q : Queues) (finals arcs contents : List ℕ) (start : Option ℕ) → Judging q finals arcs contents start 0 0 0 start
judging_begin q finals arcs contents start = record { is = λ n f. refl; within = omega arith; followed = λ n. omega arith; fewer = omega arith }

module _ {q : Queues} (v : QueuesValid q) {finals arcs contents : List ℕ} {start : Option ℕ} {i queue far : ℕ} {s : Option ℕ}
    (J : Judging q finals arcs contents start i queue far s) where
  -- at a message of the contents
  module _ {raw : ℕ} (h : i < length contents) (e : raw ≡ get_or contents i 0) where
    this_message : drop i contents ≡ raw ∷ drop (i + 1) contents
    this_message = drop-cons contents i 0 h ∙ ap₂ (λ m k. m ∷ drop k contents) (sym e) (sym (add-one i))

    at_message : (n f : ℕ) → judge_over q finals arcs n f i queue s (raw ∷ drop (i + 1) contents) ≡ judge_over q finals arcs n f 0 0 start contents
    at_message n f = sym (ap (judge_over q finals arcs n f i queue s) this_message) ∙ J.is n f

    pub judging_unknown : q.sum ≤ raw → (n f : ℕ) → refusal 12 i ≡ judge_over q finals arcs n f 0 0 start contents
    judging_unknown l n f =
        sym (judge_unknown (counts_of q) (pool_over n finals arcs) f i queue s raw (drop (i + 1) contents) (omega (arith, messages_are v)))
        ∙ at_message n f

    module _ (l : raw < q.sum) {m own : ℕ} (made : m ≡ raw) (its : own ≡ queue_of (counts_of q) m) where
      same_queue : own ≡ queue_of (counts_of q) raw
      same_queue = its ∙ ap (queue_of (counts_of q)) made

      pub judging_earlier : own < queue → (n f : ℕ) → refusal 13 i ≡ judge_over q finals arcs n f 0 0 start contents
      judging_earlier g n f =
          sym (judge_earlier (counts_of q) (pool_over n finals arcs) f i queue s raw (drop (i + 1) contents) (omega (arith, messages_are v)) (omega (arith, same_queue)))
          ∙ at_message n f

      -- one message more is followed, if it leads somewhere
      pub judging_on : {t : Option ℕ} {more : ℕ} → queue ≤ own → t ≡ along_arc arcs s m → more ≡ far + one_more t 0 → Judging q finals arcs contents start (i + 1) own more t
      judging_on {t} {more} g a c =
          record {
            is =
                λ n f.
                ap₂ (λ x y. judge_over q finals arcs n f (i + 1) x y (drop (i + 1) contents)) same_queue (led n)
                ∙ sym (judge_on (counts_of q) (pool_over n finals arcs) f i queue s raw (drop (i + 1) contents) (omega (arith, messages_are v)) (omega (arith, same_queue)))
                ∙ at_message n f;
            within = omega arith;
            followed =
                λ n.
                ap (λ k. k + far_over finals arcs n t (drop (i + 1) contents)) c
                ∙ far_more (pool_over n finals arcs) far t (drop (i + 1) contents)
                ∙ ap (λ x. far + one_more x (far_over finals arcs n x (drop (i + 1) contents))) (led n)
                ∙ ap (λ u. far + far_over finals arcs n s u) (sym this_message)
                ∙ J.followed n;
            fewer = omega (arith, c, one_at_most_lem t, J.fewer);
          }
        where
          led : (n : ℕ) → t ≡ along (pool_over n finals arcs) s raw
          led n = a ∙ ap (along_arc arcs s) made ∙ sym (along_is (pool_tables n finals arcs) s raw (omega (arith, v.sum_most)))

  -- and at their end
  pub judging_end : {b : Bool} → length contents ≤ i → b ≡ final_at finals s
      → (n : ℕ) → answer b far ≡ judge_over q finals arcs n (far_over finals arcs n start contents) 0 0 start contents
  unfolding judge
  judging_end {b} h f n =
      let e : i ≡ length contents = omega (arith, J.within) in
      let none_left : drop i contents ≡ [] = ap (λ k. drop k contents) e ∙ drop_all contents in
      let all : far ≡ far_over finals arcs n start contents = omega (arith, ap (λ u. far + far_over finals arcs n s u) (sym none_left) ∙ J.followed n) in
      ap₂ answer (f ∙ sym (final_is (pool_tables n finals arcs) s)) all
      ∙ sym (ap (judge_over q finals arcs n (far_over finals arcs n start contents) i queue s) none_left)
      ∙ J.is n (far_over finals arcs n start contents)
