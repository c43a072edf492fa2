-- What comes of a text, case by case.
use Rattle.std.specs.Prelude.{◌≡◌, refl, Bool, List, ℕ, ◌-◌, ◌≤◌, ◌<◌, ltb, length}
use Rattle.std.proofs.Common.{sym, ap, ltb-true, ltb-false, arith}
use Rattle.std.proofs.Math.Path.{subst}
use Rattle.tables.specs.Limits.{most_pool}
use Rattle.tables.specs.declared.tables.Pool.{Pool}
use Rattle.theory_grammar.specs.Tree.{Tree}
use Rattle.theory_grammar.specs.Parse.{Parsed, parsed, stuck, parse}
use Rattle.theory_grammar.specs.Offends.{Limit, kept, passed, limits}
use Rattle.theory_model.specs.Laws.Basics.{by_test}
use Rattle.theory_occurrences.specs.Positions.{automaton}
use Rattle.expression_pool.specs.Filled.{pool_for}
use Rattle.expression.specs.Expression.{Drawn, root, refused, most_text, turned_away, states, numbered, draw, limited, read, measured, expression}

pub data Comes (s : List ℕ) : Drawn → Type 0 where
  long : most_text < length s → Comes s (turned_away 18 most_text)
  outside : length s ≤ most_text → (n : ℕ) → parse s ≡ stuck n → Comes s (turned_away 19 (length s - n))
  offender : length s ≤ most_text → (t : Tree) → parse s ≡ parsed t → (k p : ℕ) → limits s ≡ passed k p → Comes s (turned_away k p)
  many : length s ≤ most_text → (t : Tree) → parse s ≡ parsed t → limits s ≡ kept → most_pool < length (states (automaton t))
      → Comes s (turned_away 22 0)
  drawn : length s ≤ most_text → (t : Tree) → parse s ≡ parsed t → limits s ≡ kept → length (states (automaton t)) ≤ most_pool
      → Comes s (record { reply = root 0; pool = pool_for (automaton t) (states (automaton t)) })

module _ (s : List ℕ) where
  draw_comes : length s ≤ most_text → (t : Tree) → parse s ≡ parsed t → limits s ≡ kept → Comes s (draw (automaton t))
  draw_comes h t e f =
      by_test (ltb most_pool (length (states (automaton t))))
      (λ b. subst (λ (x : Bool). Comes s (numbered x (automaton t))) (sym b) (many h t e f (ltb-true most_pool (length (states (automaton t))) b)))
      (λ b. subst (λ (x : Bool). Comes s (numbered x (automaton t))) (sym b) (drawn h t e f (ltb-false most_pool (length (states (automaton t))) b)))

  limits_come : length s ≤ most_text → (t : Tree) → parse s ≡ parsed t → (l : Limit) → limits s ≡ l → Comes s (limited t l)
  limits_come h t e kept f = draw_comes h t e f
  limits_come h t e (passed k p) f = offender h t e k p f

  parse_comes : length s ≤ most_text → (o : Parsed) → parse s ≡ o → Comes s (read s o)
  parse_comes h (parsed t) e = limits_come h t e (limits s) refl
  parse_comes h (stuck n) e = outside h n e

  pub comes : Comes s (expression s)
  unfolding expression
  comes =
      by_test (ltb most_text (length s))
      (λ b. subst (λ (x : Bool). Comes s (measured x s)) (sym b) (long (ltb-true most_text (length s) b)))
      (λ b. subst (λ (x : Bool). Comes s (measured x s)) (sym b) (parse_comes (ltb-false most_text (length s) b) (parse s) refl))

-- the number of a refusal; 0 where there is a pool
abbrev pub number_of : Drawn → ℕ
number_of D = elim D.reply [ root r ↦ 0 | refused k p ↦ k ]

abbrev pub place_of : Drawn → ℕ
place_of D = elim D.reply [ root r ↦ 0 | refused k p ↦ p ]

pub drawn_not_refused : {P : Pool} {r k p : ℕ} → ◌≡◌ {A = Drawn} (record { reply = root r; pool = P }) (turned_away k p) → ⊥
drawn_not_refused e = let z : ◌≡◌ {A = ℕ} 1 0 = ap (λ (D : Drawn). elim D.reply [ root r ↦ 1 | refused k p ↦ 0 ]) e in omega arith
