-- How far messages are followed: one after the other, and word after word.
use Rattle.std.specs.Prelude.{ℕ, suc, ◌+◌, ◌<◌, ◌≡◌, false, length}
use Rattle.std.proofs.Math.Path.{refl, ap}
use Rattle.std.proofs.Common.{sym, ◌∙◌, arith}
use Rattle.std.proofs.Math.Option.{Option, none, some}
use mathlib.Core.List.{List, [], ◌∷◌, ◌++◌}
use Rattle.tables.specs.Limits.{most_pool, most_messages}
use Rattle.tables.specs.Kinds.{reached_of}
use Rattle.tables.specs.Pool.{arc_at}
use Rattle.tables.specs.Lookup.{along_arc}
use Rattle.tables.specs.Laws.Lookup.{reached_nowhere, reached_small}
use Rattle.theory_model.specs.Model.{Between, message}
use Rattle.theory_model.specs.Diagram.{Pool, along, follow, one_more, how_far}
use Rattle.theory_model.specs.Laws.Far.{far_whole, far_append, far_before}
use Rattle.following.specs.Follow.{follow_arcs, far_arcs, FollowsTo}

pub far_nothing : (arcs : List ℕ) (x : Option ℕ) → far_arcs arcs x [] ≡ 0
unfolding far_arcs
far_nothing arcs x = refl

pub far_none_arcs : (arcs u : List ℕ) → far_arcs arcs none u ≡ 0
unfolding far_arcs
far_none_arcs arcs [] = refl
far_none_arcs arcs (m ∷ u) = refl

module _ (arcs : List ℕ) where
  -- one message more, or none at all
  pub far_on_arcs : (x : Option ℕ) (m : ℕ) (u : List ℕ) {s : ℕ} → along_arc arcs x m ≡ some s → far_arcs arcs x (m ∷ u) ≡ suc (far_arcs arcs (some s) u)
  unfolding far_arcs
  far_on_arcs x m u e = ap (λ y. one_more y (far_arcs arcs y u)) e

  pub far_stops_arcs : (x : Option ℕ) (m : ℕ) (u : List ℕ) → along_arc arcs x m ≡ none → far_arcs arcs x (m ∷ u) ≡ 0
  unfolding far_arcs
  far_stops_arcs x m u e = ap (λ y. one_more y (far_arcs arcs y u)) e

  -- what is said of diagrams holds of the table: it is one of a pool's
  abbrev table : Pool
  table = record { states = 0; final = λ s. false; arc = arc_at arcs }

  along_table : (x : Option ℕ) (m : ℕ) → along_arc arcs x m ≡ along table x m
  along_table none m = refl
  along_table (some s) m = refl

  far_table : (x : Option ℕ) (u : List ℕ) → far_arcs arcs x u ≡ how_far table x u
  unfolding far_arcs
  far_table x [] = refl
  far_table x (m ∷ u) = ap (λ y. one_more y (far_arcs arcs y u)) (along_table x m) ∙ ap (one_more (along table x m)) (far_table (along table x m) u)

  follow_table : (x : Option ℕ) (u : List ℕ) → follow_arcs arcs x u ≡ follow table x u
  unfolding follow_arcs
  follow_table x [] = refl
  follow_table x (m ∷ u) = ap (λ y. follow_arcs arcs y u) (along_table x m) ∙ follow_table (along table x m) u

  -- WORD AFTER WORD: where the first leads somewhere, the other goes on from there; else the first decides
  pub far_append_arcs : (x : Option ℕ) (u v : List ℕ) {s : ℕ} → follow_arcs arcs x u ≡ some s → far_arcs arcs x (u ++ v) ≡ length u + far_arcs arcs (some s) v
  far_append_arcs x u v {s} e =
      far_table x (u ++ v) ∙ far_append table x u v (sym (follow_table x u) ∙ e) ∙ ap (λ n. length u + n) (sym (far_table (some s) v))

  pub far_before_arcs : (x : Option ℕ) (u v : List ℕ) → follow_arcs arcs x u ≡ none → far_arcs arcs x (u ++ v) ≡ far_arcs arcs x u
  far_before_arcs x u v e = far_table x (u ++ v) ∙ far_before table x u v (sym (follow_table x u) ∙ e) ∙ sym (far_table x u)

  -- a word that leads somewhere is followed whole
  pub far_whole_arcs : (x : Option ℕ) (u : List ℕ) {s : ℕ} → follow_arcs arcs x u ≡ some s → far_arcs arcs x u ≡ length u
  far_whole_arcs x u e = far_table x u ∙ far_whole table x u (sym (follow_table x u) ∙ e)

-- a diagram with the table's arcs is followed as far as the table is
pub far_is_arcs : (P : Pool) (arcs : List ℕ) → ((s m : ℕ) → m < most_messages → P.arc s m ≡ arc_at arcs s m) → (x : Option ℕ) (u : List ℕ)
    → Between 0 most_messages u → far_arcs arcs x u ≡ how_far P x u
unfolding far_arcs
far_is_arcs P arcs same x [] b = refl
far_is_arcs P arcs same none (m ∷ u) b = refl
far_is_arcs P arcs same (some s) (m ∷ u) (message l h b) =
    ap (λ y. one_more y (far_arcs arcs y u)) (sym (same s m h)) ∙ ap (one_more (P.arc s m)) (far_is_arcs P arcs same (P.arc s m) u b)

-- UNDERWAY from t through u: n of its messages were followed, s is reached, and the messages of v are left
pub record Counting (arcs : List ℕ) (t : ℕ) (u : List ℕ) (n s : ℕ) (v : List ℕ) : Type 0 where
  pub far : far_arcs arcs (reached_of t) u ≡ n + far_arcs arcs (reached_of s) v

pub count_begin : {arcs u v : List ℕ} {t n : ℕ} → n ≡ 0 → u ≡ v → Counting arcs t u n t v
count_begin {arcs} {u} {v} {t} {n} z e =
    let same = ap (far_arcs arcs (reached_of t)) e in
    record { far = omega arith }

module _ {arcs u : List ℕ} {t n s : ℕ} {v : List ℕ} (C : Counting arcs t u n s v) where
  -- one message
  module _ {m : ℕ} {rest : List ℕ} (below : s < most_pool) (e : v ≡ m ∷ rest) where
    here : {x : Option ℕ} → arc_at arcs s m ≡ x → along_arc arcs (reached_of s) m ≡ x
    here f = ap (λ y. along_arc arcs y m) (reached_small below) ∙ f

    pub count_message : {k r : ℕ} → arc_at arcs s m ≡ some r → r < most_pool → k ≡ n + 1 → Counting arcs t u k r rest
    count_message {k} {r} f small h =
        let left : far_arcs arcs (reached_of s) v ≡ suc (far_arcs arcs (reached_of r) rest)
        = ap (far_arcs arcs (reached_of s)) e ∙ far_on_arcs arcs (reached_of s) m rest (here f)
        ∙ ap (λ x. suc (far_arcs arcs x rest)) (sym (reached_small small)) in
        record { far = omega (arith, C.far) }

    pub count_missing : t < most_pool → arc_at arcs s m ≡ none → n ≡ far_arcs arcs (some t) u
    count_missing state f =
        let left : far_arcs arcs (reached_of s) v ≡ 0 = ap (far_arcs arcs (reached_of s)) e ∙ far_stops_arcs arcs (reached_of s) m rest (here f) in
        let from : far_arcs arcs (reached_of t) u ≡ far_arcs arcs (some t) u = ap (λ x. far_arcs arcs x u) (reached_small state) in
        omega (arith, C.far)

  -- the messages before others
  module _ (w rest : List ℕ) (e : v ≡ w ++ rest) where
    pub count_front : {k r : ℕ} → FollowsTo arcs s w r → r < most_pool → k ≡ n + length w → Counting arcs t u k r rest
    count_front {k} {r} f small h =
        let left : far_arcs arcs (reached_of s) v ≡ length w + far_arcs arcs (reached_of r) rest
        = ap (far_arcs arcs (reached_of s)) e ∙ far_append_arcs arcs (reached_of s) w rest (sym f.is ∙ reached_small small)
        ∙ ap (λ x. length w + far_arcs arcs x rest) (sym (reached_small small)) in
        record { far = omega (arith, C.far) }

    pub count_lost : {k : ℕ} → s < most_pool → FollowsTo arcs s w most_pool → k ≡ far_arcs arcs (some s) w → n + k ≡ far_arcs arcs (reached_of t) u
    count_lost {k} small f h =
        let left : far_arcs arcs (reached_of s) v ≡ k
        = ap (far_arcs arcs (reached_of s)) e ∙ far_before_arcs arcs (reached_of s) w rest (sym f.is ∙ reached_nowhere refl)
        ∙ ap (λ x. far_arcs arcs x w) (reached_small small) ∙ sym h in
        omega (arith, C.far)

  pub count_end : v ≡ [] → n ≡ far_arcs arcs (reached_of t) u
  count_end e =
      let left : far_arcs arcs (reached_of s) v ≡ 0 = ap (far_arcs arcs (reached_of s)) e ∙ far_nothing arcs (reached_of s) in
      omega (arith, C.far)

  -- from nowhere no more are followed
  pub count_nowhere : s ≡ most_pool → n ≡ far_arcs arcs (reached_of t) u
  count_nowhere e =
      let left : far_arcs arcs (reached_of s) v ≡ 0 = ap (λ x. far_arcs arcs x v) (reached_nowhere e) ∙ far_none_arcs arcs v in
      omega (arith, C.far)
