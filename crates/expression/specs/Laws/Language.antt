-- The pool of a text has just the language of its tree.
use Rattle.std.specs.Prelude.{◌≡◌, refl, ◌↔◌, true, List, ℕ, ◌≤◌, length}
use Rattle.std.proofs.Common.{sym, ap, subst, ◌∙◌}
use Rattle.std.proofs.Math.Option.{Option, some, some-injective}
use Rattle.theory_model.specs.Diagram as Diagram
use Rattle.theory_model.specs.Laws.Basics.{none_not_some, false_not_true}
use Rattle.tables.specs.Limits.{most_pool}
use Rattle.tables.specs.declared.tables.Pool as Declared
use Rattle.theory_tables.specs.Pool.{pool_of}
use Rattle.theory_grammar.specs.Tree.{Tree, size}
use Rattle.theory_grammar.specs.Grammar.{Text}
use Rattle.theory_grammar.specs.Parse.{parsed, parse}
use Rattle.theory_grammar.specs.Offends.{most_occurrences}
use Rattle.theory_grammar.specs.Laws.Sound.{parsed_spelled}
use Rattle.theory_grammar.specs.Laws.Complete.{one_tree}
use Rattle.theory_grammar.specs.Laws.Numbers.{kept_bounds}
use Rattle.theory_occurrences.specs.Positions.{Automaton, automaton, ends}
use Rattle.theory_occurrences.specs.Laws.Letters.{Low}
use Rattle.theory_occurrences.specs.Laws.Arrives.{language}
use Rattle.expression_pool.specs.Filled.{pool_for}
use Rattle.expression.specs.Expression.{Drawn, root, states, expression}
use Rattle.expression.specs.Means.{Draws, JustTheLanguage, OneTree}
use Rattle.expression.specs.Laws.Standing.{Stands, nowhere, at, stands, final_is}
use Rattle.expression.specs.Laws.Comes.{Comes, long, outside, offender, many, drawn, comes, drawn_not_refused}

-- what is known of a text that a pool was drawn for
pub record Drawing (s : List ℕ) (P : Declared.Pool) (t : Tree) : Type 0 where
  pub parses : parse s ≡ parsed t
  pub small : size t ≤ most_occurrences
  pub low : Low t
  pub few : length (states (automaton t)) ≤ most_pool
  pub pool : P ≡ pool_for (automaton t) (states (automaton t))

drawing : (s : List ℕ) (P : Declared.Pool) → Draws s P → (t : Tree) × Drawing s P t
drawing s P d = go (expression s) (comes s) d
  where
    go : (D : Drawn) → Comes s D → D ≡ record { reply = root 0; pool = P } → (t : Tree) × Drawing s P t
    go D (long h) e = absurd (drawn_not_refused (sym e))
    go D (outside h n f) e = absurd (drawn_not_refused (sym e))
    go D (offender h t f k p g) e = absurd (drawn_not_refused (sym e))
    go D (many h t f g l) e = absurd (drawn_not_refused (sym e))
    go D (drawn h t f g l) e =
        let b = kept_bounds s t (parsed_spelled s t f) g in
        (t, record { parses = f; small = b.0; low = b.1; few = l; pool = sym (ap (λ (E : Drawn). E.pool) e) })

-- of any tree that it spells
pub drawing_of : (s : List ℕ) (P : Declared.Pool) → Draws s P → (t : Tree) → Text s t → Drawing s P t
drawing_of s P d t w =
    let r = drawing s P d in
    subst (Drawing s P) (one_tree (parsed_spelled s r.0 r.1.parses) w) r.1

pub a_tree : (s : List ℕ) (P : Declared.Pool) → Draws s P → OneTree s
a_tree s P d =
    let r = drawing s P d in
    let w = parsed_spelled s r.0 r.1.parses in
    record { tree = r.0; text = w; only = λ t v. one_tree v w }

-- whether a word is accepted, by where it stands
module _ (A : Automaton) (few : length (states A) ≤ most_pool) where
  accepted : (o r : Option ℕ) → Stands (states A) o r → (Diagram.is_final (pool_of (pool_for A (states A))) r ≡ true) ↔ ((x : ℕ) × (o ≡ some x) × (ends A x ≡ true))
  accepted o r nowhere = (λ e. false_not_true refl e, λ (x, e, f). none_not_some refl e)
  accepted o r (at {x} {i} h g) = (
    λ e. (x, refl, ap (ends A) (sym g) ∙ sym (final_is A few i h) ∙ e),
    λ (y, e, f). final_is A few i h ∙ ap (ends A) (g ∙ some-injective x y e) ∙ f,
  )

pub just_the_language : JustTheLanguage
just_the_language s P d t w u =
    let r = drawing_of s P d t w in
    let A : Automaton = automaton t in
    let k = accepted A r.few _ _ (stands A r.few u) in
    let l = language t r.small r.low u in (
      λ e. l.1 (k.0 (subst (λ (Q : Declared.Pool). Diagram.accepts (pool_of Q) (some 0) u ≡ true) r.pool e)),
      λ e. subst (λ (Q : Declared.Pool). Diagram.accepts (pool_of Q) (some 0) u ≡ true) (sym r.pool) (k.1 (l.0 e)),
    )
