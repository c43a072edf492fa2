-- The pool that the code fills from its list of states is the definition's.
use Rattle.std.specs.Prelude.{◌≡◌, Bool, List, ℕ, ◌-◌, ◌*◌, ◌≤◌, ◌<◌, length, get_or, take, replicate, Result, Ok, Err}
use Rattle.std.proofs.Common.{sym, ap, ap₂, subst, ◌∙◌, arith, lt-ltb, le-ltb, length-take-le}
use Rattle.tables.specs.Limits.{most_messages, most_pool}
use Rattle.tables.specs.Pool.{pool_arcs}
use Rattle.tables.specs.declared.tables.Pool.{Pool}
use Rattle.theory_occurrences.specs.Positions.{Automaton, automaton, follows, labels}
use Rattle.expression_states.specs.Grows.{FoundStates}
use Rattle.expression_pool.specs.Filled.{entries_from, arc_entry, final_mark, pool_for}
use Rattle.theory_grammar.specs.Parse.{Parsed, stuck, parse}
use Rattle.theory_grammar.specs.Offends.{most_occurrences, Limit, kept, passed, limits}
use Rattle.expression_scan.specs.Said.{said_excess, said_limit}
use Rattle.expression_scan.specs.declared.limits.Offence.{Offence}
use Rattle.expression_parse.specs.Steps.{Parses, Whole, whole, outside}
use Rattle.expression_parse.specs.declared.parts.Part.{Part}
use Rattle.expression_parse.specs.declared.parts.Stuck.{Stuck}
use Rattle.expression.specs.Expression.{Drawn, root, most_text, empty_pool, turned_away, states, numbered, draw, limited, read, measured, expression}
use Rattle.expression.specs.Said.{automaton_of}

-- the list of states is as long as was counted
module _ {first n : ℕ} {F L S : List ℕ} (found : FoundStates first F L S n) where
  pub found_length : n ≡ length (take n S)
  found_length = sym (length-take-le n S found.within)

  pub found_few : {N : List ℕ} → N ≡ take n S → n ≤ most_pool → length N ≤ most_pool
  found_few same h = omega (arith, ap length same, found_length)

module _ (A : Automaton) {S : List ℕ} {n : ℕ} (found : FoundStates A.first A.follow A.label S n) where
  pub draws_none : most_pool < n → turned_away 22 0 ≡ draw A
  draws_none h = sym (ap (λ b. numbered b A) (lt-ltb most_pool (length (states A)) (found.many h)))

  module _ (h : n ≤ most_pool) where
    as_many : length (states A) ≡ n
    as_many = ap length (sym (found.few h)) ∙ sym (found_length found)

    -- tables that were filled for a list of states, with its length
    abbrev pub filled_for : List ℕ → Pool
    filled_for N =
        record {
          count = n;
          finals = entries_from (λ i. final_mark A.skips A.last (get_or N i 0)) (length N) 0 (replicate most_pool 0);
          arcs = entries_from (arc_entry N A.first A.follow A.label) (length N * most_messages) 0 (replicate pool_arcs 0);
        }

    pub draws_pool : {N finals arcs : List ℕ} → N ≡ take n S → finals ≡ (filled_for N).finals → arcs ≡ (filled_for N).arcs
        → ◌≡◌ {A = Drawn} (record { reply = root 0; pool = record { count = n; finals = finals; arcs = arcs } }) (draw A)
    draws_pool {N} same f a =
        let pool : ◌≡◌ {A = Pool} (filled_for N) (pool_for A (states A)) =
        ap filled_for (same ∙ found.few h)
        ∙ ap (λ k. record { count = k; finals = (pool_for A (states A)).finals; arcs = (pool_for A (states A)).arcs }) (sym as_many) in
        ap₂ (λ x y. record { reply = root 0; pool = record { count = n; finals = x; arcs = y } }) f a
        ∙ ap (λ (Q : Pool). record { reply = root 0; pool = Q }) pool
        ∙ sym (ap (λ b. numbered b A) (le-ltb most_pool (length (states A)) (omega (arith, as_many))))

    -- the same in a pool that was all 0
    pub draws_into : {P : Pool} {N finals arcs : List ℕ} → P ≡ empty_pool → N ≡ take n S
        → finals ≡ entries_from (λ i. final_mark A.skips A.last (get_or N i 0)) (length N) 0 P.finals
        → arcs ≡ entries_from (arc_entry N A.first A.follow A.label) (length N * most_messages) 0 P.arcs
        → ◌≡◌ {A = Drawn} (record { reply = root 0; pool = record { count = n; finals = finals; arcs = arcs } }) (draw A)
    draws_into {N = N} e same f a =
        draws_pool same
        (f ∙ ap (λ (P : Pool). entries_from (λ i. final_mark A.skips A.last (get_or N i 0)) (length N) 0 P.finals) e)
        (a ∙ ap (λ (P : Pool). entries_from (arc_entry N A.first A.follow A.label) (length N * most_messages) 0 P.arcs) e)

-- THE TEXT, as the code goes through its cases
module _ {s L F L' F' : List ℕ} where
  stuck_at : {e : Stuck} → Whole s L F L' F' (Err e) → (e.0 ≤ length s) × (parse s ≡ stuck (length s - e.0))
  stuck_at (outside h f) = (h, f)

  read_as : {p : Part} → Whole s L F L' F' (Ok p) → Parses s L F L' F' p
  read_as (whole w) = w

pub long_is : (s : List ℕ) → most_text < length s → turned_away 18 most_text ≡ expression s
unfolding expression
long_is s h = sym (ap (λ b. measured b s) (lt-ltb most_text (length s) h))

short_is : (s : List ℕ) → length s ≤ most_text → {o : Parsed} → parse s ≡ o → read s o ≡ expression s
unfolding expression
short_is s h e = sym (ap (λ b. measured b s) (le-ltb most_text (length s) h) ∙ ap (read s) e)

pub outside_is : {s L F L' F' : List ℕ} {r : Result Part Stuck} {p : Stuck} → length s ≤ most_text → Whole s L F L' F' r → r ≡ Err p
    → turned_away 19 p.0 ≡ expression s
outside_is {s} {L} {F} {L'} {F'} {p = p} short parses e =
    let (h, f) = stuck_at (subst (Whole s L F L' F') e parses) in
    let back : p.0 ≡ length s - (length s - p.0) = omega arith in
    ap (turned_away 19) back ∙ short_is s short f

pub read_is : {s L F L' F' : List ℕ} {r : Result Part Stuck} {p : Part} → Whole s L F L' F' r → r ≡ Ok p → Parses s L F L' F' p
read_is {s} {L} {F} {L'} {F'} parses e = read_as (subst (Whole s L F L' F') e parses)

made : {a a' : Bool} {b b' c c' : ℕ} {d d' e e' : List ℕ} → a ≡ a' → b ≡ b' → c ≡ c' → d ≡ d' → e ≡ e'
    → ◌≡◌ {A = Automaton} (record { skips = a; first = b; last = c; follow = d; label = e })
    (record { skips = a'; first = b'; last = c'; follow = d'; label = e' })
made p q r s t = rw (p, q, r, s, t)

module _ {s L F L' F' : List ℕ} {p : Part} (short : length s ≤ most_text) (w : Parses s L F L' F' p) (a : Result Unit Offence) (checks : said_limit a ≡ limits s) where
  limited_is : (l : Limit) → said_limit a ≡ l → limited w.tree l ≡ expression s
  limited_is l f = ap (limited w.tree) (sym f ∙ checks) ∙ short_is s short w.is

  pub offender_is : {o : Offence} → a ≡ Err o → turned_away (said_excess o.excess) o.place ≡ expression s
  offender_is {o} f = limited_is (passed (said_excess o.excess) o.place) (ap said_limit f)

  pub drawn_is : {u : Unit {0}} → a ≡ Ok u → L ≡ replicate most_occurrences 0 → F ≡ replicate most_occurrences 0 → draw (automaton_of p F' L') ≡ expression s
  drawn_is f l o =
      let same : automaton_of p F' L' ≡ automaton w.tree =
      made w.skipped w.begins w.ends (w.follow ∙ ap (follows w.tree 0) o) (w.label ∙ ap (labels w.tree 0) l) in
      ap draw same ∙ limited_is kept (ap said_limit f)
