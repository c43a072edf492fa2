-- The search over the tables is the model's, for every session that the tables are of.
use Rattle.std.specs.Prelude.{◌≡◌, ◌&&◌, List, [], ◌∷◌, ℕ, suc, ltb, eqb}
use Rattle.std.proofs.Math.Path.{refl, ap, ap₂, fun_ext}
use Rattle.std.proofs.Common.{◌∙◌}
use Rattle.std.proofs.Math.Bool.{true, false, not}
use Rattle.std.proofs.Math.Option.{Option, none, some}
use Rattle.theory_exploration.specs.Search.{search_from}
use Rattle.theory_tables.specs.Pool.{arc_of}
use Rattle.tables.specs.Lookup.{final_at}
use Rattle.theory_model.specs.Diagram.{along, follow, is_final}
use Rattle.theory_model.specs.Session.{Session}
use Rattle.theory_model.specs.Verdict.{Pair, before, after}
use Rattle.theory_model.specs.Judge as Judge
use Rattle.theory_model.specs.Judge.{same, pair, read, jump, go, wrong}
use Rattle.theory_model.specs.Searched.{settled, searched}
use Rattle.checking_pairs.specs.declared.pairs.Walk.{Walk}
use Rattle.checking_pairs.specs.Pairs.{most_codes}
use Rattle.checking_pairs.specs.Over.{pool_over, walk_over, jump_over, go_over, wrong_over, search_over, Over}

module _ (arcs finals rows : List ℕ) (w : Walk) (S : Session) (o : Over arcs finals w.sum S) where
  abbrev W : Judge.Walk
  W = walk_over rows w

  along_over : (t : Option ℕ) (m : ℕ) → along S.pool t m ≡ along (pool_over arcs) t m
  along_over none m = refl
  along_over (some s) m = ap (λ f. f s m) o.arc

  follow_over : (t : Option ℕ) (u : List ℕ) → follow S.pool t u ≡ follow (pool_over arcs) t u
  follow_over t [] = refl
  follow_over t (m ∷ u) = follow_over (along S.pool t m) u ∙ ap (λ t. follow (pool_over arcs) t u) (along_over t m)

  final_over : (t : Option ℕ) → is_final S.pool t ≡ final_at finals t
  final_over none = refl
  final_over (some s) = ap (λ f. f s) o.final

  read_over_lem : (side : ℕ → Option ℕ → Pair) (s : ℕ) (t : Option ℕ) (m : ℕ)
      → read S W side s t m ≡ pair w.entry side (arc_of arcs s m) (along (pool_over arcs) t m)
  read_over_lem side s t m = ap₂ (pair w.entry side) (ap (λ f. f s m) o.arc) (along_over t m)

  jump_over_lem : (s : ℕ) (t : Option ℕ) → jump S W s t ≡ jump_over arcs rows w s t
  jump_over_lem s t = ap₂ (pair w.entry after) (follow_over (some s) W.out) (follow_over t W.into)

  go_over_lem : (x : Pair) (m : ℕ) → go S W x m ≡ go_over arcs rows w x m
  unfolding go_over
  go_over_lem (before s t) m =
      ap (λ k. elim (ltb m w.cut) [ true ↦ read S W before s t m | false ↦ elim (eqb m k) [ true ↦ jump S W s t | false ↦ none ] ]) o.letters
      ∙ ap₂ (λ a b. elim (ltb m w.cut) [ true ↦ a | false ↦ elim (eqb m w.sum) [ true ↦ b | false ↦ none ] ])
      (read_over_lem before s t m) (jump_over_lem s t)
  go_over_lem (after s t) m =
      ap (λ k. elim (ltb m w.cut) [ true ↦ none | false ↦ elim (ltb m k) [ true ↦ read S W after s t m | false ↦ none ] ]) o.letters
      ∙ ap (λ a. elim (ltb m w.cut) [ true ↦ none | false ↦ elim (ltb m w.sum) [ true ↦ a | false ↦ none ] ]) (read_over_lem after s t m)

  wrong_over_lem : (x : Pair) → wrong S W x ≡ wrong_over finals w.entry x
  unfolding wrong_over
  wrong_over_lem (before s t) = refl
  wrong_over_lem (after s t) =
      ap₂ (λ a b. a && elim w.entry [ true ↦ b | false ↦ not b ]) (final_over (some s)) (final_over t)

  pub go_is : go S W ≡ go_over arcs rows w
  go_is = fun_ext (λ x. fun_ext (λ m. go_over_lem x m))

  pub searched_over : (root : Pair) → searched S most_codes W root ≡ settled S W (search_over arcs finals rows w root)
  unfolding searched
  searched_over root =
      ap (λ k. settled S W (search_from (suc k) (go S W) same (wrong S W) root most_codes)) o.letters
      ∙ ap₂ (λ δ p. settled S W (search_from (suc w.sum) δ same p root most_codes)) go_is (fun_ext wrong_over_lem)
