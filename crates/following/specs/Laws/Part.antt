-- Parts one after the other.
use Rattle.std.specs.Prelude.{ℕ, suc, ◌+◌, ◌≤◌, ◌<◌, ◌≡◌, refl, List, [], ◌∷◌, ◌++◌, length}
use Rattle.std.proofs.Common.{sym, ap, subst, ◌∙◌, arith}
use Rattle.std.proofs.Math.Option.{Option, none, some}
use Rattle.tables.specs.Limits.{most_pool}
use Rattle.tables.specs.Kinds.{reached_of}
use Rattle.tables.specs.Lookup.{along_arc}
use Rattle.tables.specs.Laws.Lookup.{reached_nowhere, reached_small}
use Rattle.theory_model.specs.Diagram.{one_more}
use Rattle.following.specs.Follow.{follow_arcs, far_arcs, FollowsTo}
use Rattle.following.specs.Laws.Follow.{follow_none, follow_append, follows_as}
use Rattle.following.specs.Laws.Far.{far_none_arcs, far_append_arcs, far_before_arcs, far_whole_arcs}
use Rattle.following.specs.Part.{Goes}

-- no more than there are
far_most : (arcs : List ℕ) (x : Option ℕ) (u : List ℕ) → far_arcs arcs x u ≤ length u
unfolding far_arcs
far_most arcs x [] = omega arith
far_most arcs x (m ∷ u) = by_next (along_arc arcs x m) (λ y. far_most arcs y u)
  where
    by_next : (y : Option ℕ) → ((z : Option ℕ) → far_arcs arcs z u ≤ length u) → one_more y (far_arcs arcs y u) ≤ suc (length u)
    by_next none next = omega arith
    by_next (some t) next = omega (arith, next (some t))

-- how far word after word: from where the first leads, be it nowhere, the other goes on
far_both : (arcs : List ℕ) (x : Option ℕ) (u v : List ℕ) → far_arcs arcs x (u ++ v) ≡ far_arcs arcs x u + far_arcs arcs (follow_arcs arcs x u) v
far_both arcs x u v = by_end (follow_arcs arcs x u) refl
  where
    by_end : (y : Option ℕ) → follow_arcs arcs x u ≡ y → far_arcs arcs x (u ++ v) ≡ far_arcs arcs x u + far_arcs arcs (follow_arcs arcs x u) v
    by_end none e =
        let rest : far_arcs arcs (follow_arcs arcs x u) v ≡ 0 = ap (λ y. far_arcs arcs y v) e ∙ far_none_arcs arcs v in
        omega (arith, far_before_arcs arcs x u v e)
    by_end (some t) e =
        let rest : far_arcs arcs (follow_arcs arcs x u) v ≡ far_arcs arcs (some t) v = ap (λ y. far_arcs arcs y v) e in
        omega (arith, far_append_arcs arcs x u v e, far_whole_arcs arcs x u e)

module _ {arcs : List ℕ} {s t n : ℕ} {u : List ℕ} (G : Goes arcs s u t n) where
  pub goes_on : {t' n' : ℕ} {v : List ℕ} → Goes arcs t v t' n' → Goes arcs s (u ++ v) t' (n + n')
  goes_on {t'} {n'} {v} H =
      let rest : far_arcs arcs (follow_arcs arcs (reached_of s) u) v ≡ n' = ap (λ x. far_arcs arcs x v) (sym G.leads.is) ∙ sym H.far in
      record {
        leads =
            record {
              is = H.leads.is ∙ ap (λ x. follow_arcs arcs x v) G.leads.is ∙ sym (follow_append arcs (reached_of s) u v);
              most = H.leads.most;
            };
        far = omega (arith, far_both arcs (reached_of s) u v, G.far);
      }

  -- the same messages by another name
  pub goes_through : {v : List ℕ} → u ≡ v → Goes arcs s v t n
  goes_through e = subst (λ w. Goes arcs s w t n) e G

-- from nowhere none
pub goes_nowhere : {arcs : List ℕ} {s t n : ℕ} (u : List ℕ) → s ≡ most_pool → t ≡ most_pool → n ≡ 0 → Goes arcs s u t n
goes_nowhere {arcs} {s} {t} {n} u e h z =
    record {
      leads =
          record {
            is = reached_nowhere h ∙ sym (ap (λ x. follow_arcs arcs x u) (reached_nowhere e) ∙ follow_none arcs u);
            most = omega arith;
          };
      far = z ∙ sym (ap (λ x. far_arcs arcs x u) (reached_nowhere e) ∙ far_none_arcs arcs u);
    }

-- to a state all, and else so many; from the same state by another name
module _ {arcs u : List ℕ} {s₀ s : ℕ} (e : s₀ ≡ s) where
  pub goes_whole : {t r n : ℕ} → FollowsTo arcs s₀ u t → t < most_pool → r ≡ t → n ≡ length u → Goes arcs s u r n
  goes_whole {t} {r} {n} f small h z =
      let l = follows_as e h f in
      let state : r < most_pool = omega arith in
      record { leads = l; far = z ∙ sym (far_whole_arcs arcs (reached_of s) u (sym l.is ∙ reached_small state)) }

  pub goes_lost : {r n : ℕ} → s < most_pool → FollowsTo arcs s₀ u most_pool → r ≡ most_pool → n ≡ far_arcs arcs (some s₀) u → Goes arcs s u r n
  goes_lost small f h z =
      record {
        leads = follows_as e h f;
        far = z ∙ ap (λ k. far_arcs arcs (some k) u) e ∙ sym (ap (λ x. far_arcs arcs x u) (reached_small small));
      }

-- no more are followed than there are
pub goes_most : {arcs : List ℕ} {s t n : ℕ} {u : List ℕ} → Goes arcs s u t n → n ≤ length u
goes_most {arcs} {s} {u = u} G = omega (arith, G.far, far_most arcs (reached_of s) u)
