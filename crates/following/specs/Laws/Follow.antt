-- Where the messages of a word lead, one after the other and word after word.
use Rattle.std.specs.Prelude.{ℕ, ◌≤◌, ◌<◌, ◌≡◌, refl, List, [], ◌∷◌, ◌++◌}
use Rattle.std.proofs.Common.{sym, subst, ◌∙◌, arith}
use Rattle.std.proofs.Math.Path.{ap}
use Rattle.std.proofs.Math.Option.{Option, none, some}
use Rattle.tables.specs.Limits.{most_pool, most_messages}
use Rattle.tables.specs.Kinds.{reached_of}
use Rattle.tables.specs.Pool.{arc_at}
use Rattle.tables.specs.Lookup.{along_arc, AlongTo}
use Rattle.tables.specs.Laws.Lookup.{reached_nowhere}
use Rattle.theory_model.specs.Model.{Between, message}
use Rattle.theory_model.specs.Diagram.{Pool, follow}
use Rattle.theory_model.specs.Laws.Queues.{between_front, between_back}
use Rattle.following.specs.Follow.{follow_arcs, FollowsTo}

pub follow_none : (arcs u : List ℕ) → follow_arcs arcs none u ≡ none
unfolding follow_arcs
follow_none arcs [] = refl
follow_none arcs (m ∷ u) = follow_none arcs u

pub follow_append : (arcs : List ℕ) (x : Option ℕ) (u v : List ℕ) → follow_arcs arcs x (u ++ v) ≡ follow_arcs arcs (follow_arcs arcs x u) v
unfolding follow_arcs
follow_append arcs x [] v = refl
follow_append arcs x (m ∷ u) v = follow_append arcs (along_arc arcs x m) u v

-- a diagram with the table's arcs leads where the table does
pub follow_is : (P : Pool) (arcs : List ℕ) → ((s m : ℕ) → m < most_messages → P.arc s m ≡ arc_at arcs s m) → (x : Option ℕ) (u : List ℕ)
    → Between 0 most_messages u → follow_arcs arcs x u ≡ follow P x u
unfolding follow_arcs
follow_is P arcs same x [] b = refl
follow_is P arcs same none (m ∷ u) (message l h b) = follow_is P arcs same none u b
follow_is P arcs same (some s) (m ∷ u) (message l h b) =
    ap (λ y. follow_arcs arcs y u) (sym (same s m h)) ∙ follow_is P arcs same (P.arc s m) u b

-- UNDERWAY from t through u: s is reached, and the messages of v are left
pub record Following (arcs : List ℕ) (t : ℕ) (u : List ℕ) (s : ℕ) (v : List ℕ) : Type 0 where
  pub is : follow_arcs arcs (reached_of s) v ≡ follow_arcs arcs (reached_of t) u
  pub most : s ≤ most_pool
  pub small : Between 0 most_messages v

pub follow_begin : {arcs u v : List ℕ} {t : ℕ} → t ≤ most_pool → Between 0 most_messages u → u ≡ v → Following arcs t u t v
follow_begin {arcs} {u} {v} {t} h b e = record { is = ap (follow_arcs arcs (reached_of t)) (sym e); most = h; small = subst (Between 0 most_messages) e b }

-- a state is not nowhere
pub state_some : {s : ℕ} → s < most_pool → s ≡ most_pool → ⊥
state_some h e = omega arith

between_first : {lo hi m : ℕ} {u : List ℕ} → Between lo hi (m ∷ u) → m < hi
between_first (message a b c) = b

module _ {arcs u : List ℕ} {t s : ℕ} {v : List ℕ} (f : Following arcs t u s v) where
  -- one message
  pub message_small : {m : ℕ} {rest : List ℕ} → v ≡ m ∷ rest → m < most_messages
  message_small e = between_first (subst (Between 0 most_messages) e f.small)

  pub follow_message : {m r : ℕ} {rest : List ℕ} → v ≡ m ∷ rest → AlongTo arcs s m r → Following arcs t u r rest
  unfolding follow_arcs
  follow_message {m} {r} {rest} e a =
      record {
        is = ap (λ x. follow_arcs arcs x rest) a.is ∙ ap (follow_arcs arcs (reached_of s)) (sym e) ∙ f.is;
        most = a.most;
        small = between_back (m ∷ []) rest (subst (Between 0 most_messages) e f.small);
      }

  -- the messages before others
  pub front_small : (w rest : List ℕ) → v ≡ w ++ rest → Between 0 most_messages w
  front_small w rest e = between_front w rest (subst (Between 0 most_messages) e f.small)

  pub follow_front : {r : ℕ} (w rest : List ℕ) → v ≡ w ++ rest → FollowsTo arcs s w r → Following arcs t u r rest
  follow_front {r} w rest e a =
      record {
        is =
            ap (λ x. follow_arcs arcs x rest) a.is ∙ sym (follow_append arcs (reached_of s) w rest)
            ∙ ap (follow_arcs arcs (reached_of s)) (sym e) ∙ f.is;
        most = a.most;
        small = between_back w rest (subst (Between 0 most_messages) e f.small);
      }

  pub follow_end : {r : ℕ} → v ≡ [] → r ≡ s → FollowsTo arcs t u r
  unfolding follow_arcs
  follow_end {r} e h =
      record {
        is = ap reached_of h ∙ ap (follow_arcs arcs (reached_of s)) (sym e) ∙ f.is;
        most = omega (arith, f.most);
      }

  -- from nowhere the rest leads nowhere
  pub follow_lost : {r : ℕ} → s ≡ most_pool → r ≡ most_pool → FollowsTo arcs t u r
  follow_lost {r} e h =
      record {
        is = reached_nowhere h ∙ sym (follow_none arcs v) ∙ sym (ap (λ x. follow_arcs arcs x v) (reached_nowhere e)) ∙ f.is;
        most = omega arith;
      }

-- the same numbers by other names
pub follows_as : {arcs u : List ℕ} {t t' r r' : ℕ} → t ≡ t' → r' ≡ r → FollowsTo arcs t u r → FollowsTo arcs t' u r'
follows_as {arcs} {u} e h l = record { is = ap reached_of h ∙ l.is ∙ ap (λ k. follow_arcs arcs (reached_of k) u) e; most = omega (arith, l.most) }

pub follows_word : {arcs u v : List ℕ} {t r : ℕ} → u ≡ v → FollowsTo arcs t u r → FollowsTo arcs t v r
follows_word {arcs} {t = t} {r} e l = subst (λ w. FollowsTo arcs t w r) e l
