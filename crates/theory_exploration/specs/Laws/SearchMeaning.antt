-- What a search means, in words alone: what it finds has the least word of all that reach the property; where it finishes, none does.
use Rattle.std.specs.Prelude.{◌≡◌, Bool, true, List, [], ◌∷◌, reverse, ℕ, ◌≤◌, length}
use Rattle.std.proofs.Common.{ap, subst, sym, ◌∙◌}
use Rattle.std.proofs.Math.Option.{Option, some}
use Rattle.std.proofs.Math.ListN.{get_elem?}
use Rattle.theory_exploration.specs.Size.{Size}
use Rattle.theory_exploration.specs.Order.{AtMost}
use Rattle.theory_exploration.specs.Explore.{Entry, reach, ReachedFrom, IsEquality, explore}
use Rattle.theory_exploration.specs.Search.{Found, Outcome, found, finished, search_from, trace}
use Rattle.theory_exploration.specs.Laws.First.{first_has_it}
use Rattle.theory_exploration.specs.Laws.Meaning.{sound_word, size_from, least_word, none_from}
use Rattle.theory_exploration.specs.Laws.Agree.{agree_length}
use Rattle.theory_exploration.specs.Laws.Search.{Answers, search_is}

module _ {Node : Type 0} (M : ℕ) (δ : Node → ℕ → Option Node) (same : Node → Node → Bool) (p : Node → Bool) (r : Node) where
  -- the node at the place has the property, and the place's word is the least that reaches it
  pub record Shows (k : ℕ) (L : List (Found Node)) : Type 0 where
    pub node : Found Node
    pub place : get_elem? L k ≡ some node
    pub has_it : p node.at ≡ true
    pub reached : reach M δ r (trace M δ same L k) ≡ some node.at
    pub least : (w : List ℕ) (y : Node) → reach M δ r w ≡ some y → p y ≡ true → AtMost (reverse (trace M δ same L k)) (reverse w)

  -- no node that is reached has it, and so many are reached
  pub record Excludes (L : List (Found Node)) : Type 0 where
    pub none_has : (w : List ℕ) (y : Node) → reach M δ r w ≡ some y → p y ≡ true → ⊥
    pub size : Size (ReachedFrom M δ r) (length L)

  abbrev pub SearchMeans : Outcome Node → Type 0
  SearchMeans (found k L) = Shows k L
  SearchMeans (finished L) = Excludes L

module _ {Node : Type 0} (M : ℕ) (δ : Node → ℕ → Option Node) (same : Node → Node → Bool) (equal : IsEquality same) (p : Node → Bool)
    (r : Node) (fuel : ℕ) (enough : length (explore M δ same (r ∷ []) fuel) ≤ fuel) where
  answers_mean : (o : Outcome Node) → Answers M δ same p o (explore M δ same (r ∷ []) fuel) → SearchMeans M δ same p r o
  answers_mean (found k L) a =
      let e : Entry Node = a.first in
      let f = first_has_it (λ e. p e.at) (explore M δ same (r ∷ []) fuel) e a.is_first in
      record {
        node = a.node;
        place = a.place;
        has_it = ap p a.same_node ∙ f.0;
        reached = ap (reach M δ r) a.same_word ∙ sound_word M δ same equal r fuel e f.1 ∙ ap some (sym a.same_node);
        least = λ w y h t. rw a.same_word (least_word M δ same equal r fuel enough p e a.is_first w y h t);
      }
  answers_mean (finished L) a =
      let same_length = agree_length M δ same L (explore M δ same (r ∷ []) fuel) a.agrees in
      record {
        none_has = none_from M δ same equal r fuel enough p a.none_has;
        size = subst (Size (ReachedFrom M δ r)) (sym same_length) (size_from M δ same equal r fuel enough);
      }

  pub search_means : SearchMeans M δ same p r (search_from M δ same p r fuel)
  search_means = answers_mean (search_from M δ same p r fuel) (search_is M δ same equal p r fuel enough)
