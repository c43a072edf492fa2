-- Where a letter leads from a node, by the node's side: the messages of the side, the step, or nowhere.
use Rattle.std.specs.Prelude.{◌≡◌, Bool, true, false, List, ℕ, ◌≤◌, ◌<◌, ltb, eqb}
use Rattle.std.proofs.Common.{sym, ap₂, ◌∙◌, arith, lt-ltb, le-ltb, eq-eqb, ne_eqb}
use Rattle.std.proofs.Math.Path.{ap}
use Rattle.std.proofs.Math.Option.{Option, none}
use Rattle.theory_model.specs.Verdict.{Pair}
use Rattle.checking_pairs.specs.declared.pairs.Node.{Node}
use Rattle.checking_pairs.specs.declared.pairs.Walk.{Walk}
use Rattle.tables.specs.Kinds.{reached_of}
use Rattle.checking_pairs.specs.Pairs.{after_side, side_of, pair_of, NodeFits}
use Rattle.checking_pairs.specs.Laws.Pairs.{after_side_lem}
use Rattle.checking_pairs.specs.Over.{read_over, jump_over, go_over}

module _ (arcs rows : List ℕ) (w : Walk) (x : Node) (m : ℕ) where
  abbrev read : Option Pair
  read = read_over arcs w.entry x.side x.source.0 (reached_of x.target.0) m

  abbrev step : Option Pair
  step = jump_over arcs rows w x.source.0 (reached_of x.target.0)

  abbrev go_at : ℕ → Option Pair
  go_at side = go_over arcs rows w (side_of side x.source.0 (reached_of x.target.0)) m

  module _ (near : x.side ≡ 0) where
    abbrev go_before : Bool → Bool → Option Pair
    go_before b e =
        elim b [
          | true ↦ read_over arcs w.entry 0 x.source.0 (reached_of x.target.0) m
          | false ↦ elim e [ true ↦ step | false ↦ none ]
        ]

    from_before : go_over arcs rows w (pair_of x) m ≡ go_before (ltb m w.cut) (eqb m w.sum)
    unfolding go_over
    from_before = ap go_at near

    pub before_read : m < w.cut → go_over arcs rows w (pair_of x) m ≡ read
    before_read h =
        from_before
        ∙ ap (λ b. go_before b (eqb m w.sum)) (lt-ltb m w.cut h)
        ∙ ap (λ k. read_over arcs w.entry k x.source.0 (reached_of x.target.0) m) (sym near)

    pub before_none : w.cut ≤ m → m < w.sum → go_over arcs rows w (pair_of x) m ≡ none
    before_none h l = from_before ∙ ap₂ go_before (le-ltb m w.cut h) (ne_eqb m w.sum (λ e. omega arith))

    pub before_step : w.cut ≤ m → m ≡ w.sum → go_over arcs rows w (pair_of x) m ≡ step
    before_step h e = from_before ∙ ap₂ go_before (le-ltb m w.cut h) (eq-eqb m w.sum e)

  module _ (fits : NodeFits x) (far : x.side ≡ 0 → ⊥) where
    abbrev go_after : Bool → Bool → Option Pair
    go_after b e =
        elim b [
          | true ↦ none
          | false ↦ elim e [ true ↦ read_over arcs w.entry after_side x.source.0 (reached_of x.target.0) m | false ↦ none ]
        ]

    from_after : go_over arcs rows w (pair_of x) m ≡ go_after (ltb m w.cut) (ltb m w.sum)
    unfolding go_over
    from_after = ap go_at (after_side_lem fits far)

    pub after_low : m < w.cut → go_over arcs rows w (pair_of x) m ≡ none
    after_low h = from_after ∙ ap (λ b. go_after b (ltb m w.sum)) (lt-ltb m w.cut h)

    pub after_read : w.cut ≤ m → m < w.sum → go_over arcs rows w (pair_of x) m ≡ read
    after_read h l =
        from_after ∙ ap₂ go_after (le-ltb m w.cut h) (lt-ltb m w.sum l)
        ∙ ap (λ k. read_over arcs w.entry k x.source.0 (reached_of x.target.0) m) (sym (after_side_lem fits far))

    pub after_high : w.cut ≤ m → w.sum ≤ m → go_over arcs rows w (pair_of x) m ≡ none
    after_high h l = from_after ∙ ap₂ go_after (le-ltb m w.cut h) (le-ltb m w.sum l)
