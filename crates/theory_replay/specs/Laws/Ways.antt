-- Steps one after the other: the rules take them up to a stop, and the run of their numbers has the configurations on the way. So the two ways to speak
-- of a replay, rule by rule and by the run, are one.
use Rattle.std.specs.Prelude.{ℕ, zero, suc, ◌+◌, ◌<◌, ◌≡◌, refl, true, List, [], ◌∷◌, length, get_or}
use Rattle.std.proofs.Common.{sym, ap, subst, ◌∙◌, arith, add-zero, add-one}
use Rattle.std.proofs.Math.Option.{some}
use Rattle.theory_exploration.specs.Laws.Places.{place_below}
use Rattle.numbers.specs.Part.{got}
use Rattle.numbers.specs.Number.{read_number}
use Rattle.numbers.specs.Laws.Ranges.{below_number}
use Rattle.theory_model.specs.Model.{Model, Configuration, take?, next, begin, run_from}
use Rattle.theory_model.specs.Session.{Session, Inside}
use Rattle.theory_model.specs.Laws.Steps.{taken_is}
use Rattle.theory_model.specs.Laws.Runs.{next_taken}
use Rattle.theory_replay.specs.Rules.{fits, Why, Steps, Stops, Ended, ended, ReplaysFrom, stop, step}
use Rattle.theory_replay.specs.Meaning.{Numbers, none_left, number, Leads, last}
use Rattle.theory_replay.specs.Laws.Numbers.{number_after, below_read}

-- these steps lead from a place and a configuration to others
pub data Way (S : Session) (s : List ℕ) : ℕ → Configuration → List ℕ → ℕ → Configuration → Type 0 where
  arrived : {at : ℕ} {γ : Configuration} → Way S s at γ [] at γ
  stepped : {at t p next : ℕ} {γ γ' δ : Configuration} {ts : List ℕ} → Steps S s at γ t γ' p → Way S s p γ' ts next δ → Way S s at γ (t ∷ ts) next δ

-- THE RULES: a way and a stop are a replay, and each replay is so
pub record Stopped (S : Session) (s : List ℕ) (n at : ℕ) (γ : Configuration) (e : Ended) : Type 0 where
  pub numbers : List ℕ
  pub place : ℕ
  pub way : Way S s at γ numbers place e.last
  pub stops : Stops S s place e.last e.why
  pub steps : e.steps ≡ n + length numbers

module _ {S : Session} {s : List ℕ} where
  pub way_replays : {at next : ℕ} {γ δ : Configuration} {ts : List ℕ} {w : Why} (n : ℕ) → Way S s at γ ts next δ → Stops S s next δ w
      → ReplaysFrom S s n at γ (ended w (n + length ts) δ)
  way_replays {w = w} n (arrived {at = at} {γ = γ}) x = subst (λ m. ReplaysFrom S s n at γ (ended w m γ)) (sym (add-zero n)) (stop x)
  way_replays {w = w} n (stepped {p = p} {γ' = γ'} {δ = δ} {ts = ts} q v) x =
      let more : (n + 1) + length ts ≡ n + suc (length ts) = omega arith in
      step q (subst (λ m. ReplaysFrom S s (n + 1) p γ' (ended w m δ)) more (way_replays (n + 1) v x))

  pub replay_way : {n at : ℕ} {γ : Configuration} {e : Ended} → ReplaysFrom S s n at γ e → Stopped S s n at γ e
  replay_way {n} (stop {at = at} p) = record { numbers = []; place = at; way = arrived; stops = p; steps = sym (add-zero n) }
  replay_way {n} {e = e} (step {t = t} p r) =
      let R = replay_way r in
      let before : e.steps ≡ (n + 1) + length R.numbers = R.steps in
      record { numbers = t ∷ R.numbers; place = R.place; way = stepped p R.way; stops = R.stops; steps = omega arith }

-- THE RUN from any configuration, as `Leads` says it from the first: configuration i, and what must hold of it
abbrev reached : Model → Configuration → List ℕ → ℕ → Configuration
reached M γ ts i = get_or (run_from M γ ts) i (begin M)

record LeadsFrom (S : Session) (s : List ℕ) (at : ℕ) (γ : Configuration) (ts : List ℕ) (place : ℕ) : Type 0 where
  numbers : Numbers s at ts place
  inside : (i : ℕ) → i < length ts → Inside S (reached S.model γ ts i)
  taken : (i : ℕ) → i < length ts → take? S.model (get_or ts i 0) (reached S.model γ ts i) ≡ some (reached S.model γ ts (suc i))
  fitting : (i : ℕ) → i < length ts → fits (reached S.model γ ts (suc i)).queues ≡ true

run_first : (M : Model) (γ : Configuration) (ts : List ℕ) → reached M γ ts 0 ≡ γ
run_first M γ [] = refl
run_first M γ (t ∷ ts) = refl

module _ {S : Session} {s : List ℕ} where
  leads_none : {at : ℕ} {γ : Configuration} → LeadsFrom S s at γ [] at
  leads_none = record { numbers = none_left; inside = λ i h. absurd (omega arith); taken = λ i h. absurd (omega arith); fitting = λ i h. absurd (omega arith) }

  -- one step more in front
  leads_more : {at t p place : ℕ} {γ : Configuration} {ts : List ℕ} → Steps S s at γ t (next S.model t γ) p
      → LeadsFrom S s p (next S.model t γ) ts place → LeadsFrom S s at γ (t ∷ ts) place
  leads_more {at} {t} {p} {place} {γ} {ts} q L =
      record { numbers = number (below_number s at _ q.asked.read) L.numbers; inside = inside; taken = taken; fitting = fitting }
    where
      first : reached S.model γ (t ∷ ts) 1 ≡ next S.model t γ
      first = run_first S.model (next S.model t γ) ts

      inside : (i : ℕ) → i < suc (length ts) → Inside S (reached S.model γ (t ∷ ts) i)
      inside zero h = q.asked.inside
      inside (suc i) h = L.inside i (omega arith)

      taken : (i : ℕ) → i < suc (length ts)
          → take? S.model (get_or (t ∷ ts) i 0) (reached S.model γ (t ∷ ts) i) ≡ some (reached S.model γ (t ∷ ts) (suc i))
      taken zero h = q.taken ∙ ap some (sym first)
      taken (suc i) h = L.taken i (omega arith)

      fitting : (i : ℕ) → i < suc (length ts) → fits (reached S.model γ (t ∷ ts) (suc i)).queues ≡ true
      fitting zero h = ap (λ δ. fits δ.queues) first ∙ q.fitting
      fitting (suc i) h = L.fitting i (omega arith)

  way_leads_from : {at place : ℕ} {γ δ : Configuration} {ts : List ℕ} → Way S s at γ ts place δ
      → LeadsFrom S s at γ ts place × (reached S.model γ ts (length ts) ≡ δ)
  way_leads_from arrived = (leads_none, refl)
  way_leads_from (stepped {at = at} {t = t} {p = p} {next = place} {γ = γ} {γ' = γ'} {ts = ts} q v) =
      let (L, e) = way_leads_from v in
      let same : next S.model t γ ≡ γ' = next_taken S.model t γ γ' q.taken in (
        leads_more (subst (λ x. Steps S s at γ t x p) (sym same) q) (subst (λ x. LeadsFrom S s p x ts place) (sym same) L),
        ap (λ x. reached S.model x ts (length ts)) same ∙ e,
      )

  -- and back: the first step, and what the rest leads to
  leads_first : {at t p place : ℕ} {γ : Configuration} {ts : List ℕ} → read_number s at ≡ got t p → LeadsFrom S s at γ (t ∷ ts) place
      → Steps S s at γ t (next S.model t γ) p
  leads_first {at} {t} {p} {place} {γ} {ts} r L =
      let first : reached S.model γ (t ∷ ts) 1 ≡ next S.model t γ = run_first S.model (next S.model t γ) ts in
      let takes : take? S.model t γ ≡ some (next S.model t γ) = L.taken 0 (omega arith) ∙ ap some first in
      let a = number_after s at r in
      let T = taken_is S.model t γ (next S.model t γ) takes in
      record {
        asked =
            record {
              inside = L.inside 0 (omega arith);
              more = omega arith;
              read = below_read s at _ r (place_below S.model.transitions t T.transition T.numbered);
            };
        taken = takes;
        fitting = ap (λ δ. fits δ.queues) (sym first) ∙ L.fitting 0 (omega arith);
      }

  leads_rest : {at t p place : ℕ} {γ : Configuration} {ts : List ℕ} → Numbers s p ts place → LeadsFrom S s at γ (t ∷ ts) place
      → LeadsFrom S s p (next S.model t γ) ts place
  leads_rest N L =
      record {
        numbers = N;
        inside = λ i h. L.inside (suc i) (omega arith);
        taken = λ i h. L.taken (suc i) (omega arith);
        fitting = λ i h. L.fitting (suc i) (omega arith);
      }

  leads_from_way : {at place : ℕ} {γ : Configuration} {ts : List ℕ} → Numbers s at ts place → LeadsFrom S s at γ ts place
      → Way S s at γ ts place (reached S.model γ ts (length ts))
  leads_from_way none_left L = arrived
  leads_from_way (number r N) L = stepped (leads_first r L) (leads_from_way N (leads_rest N L))

-- FROM THE START
module _ {S : Session} {s : List ℕ} {at : ℕ} {ts : List ℕ} where
  pub way_leads : {δ : Configuration} → Way S s 0 (begin S.model) ts at δ → Leads S s ts at × (last S ts ≡ δ)
  way_leads v =
      let (L, e) = way_leads_from v in (
        record {
          numbers = L.numbers;
          inside = L.inside;
          taken = λ i h. rw (add-one i) (L.taken i h);
          fitting = λ i h. rw (add-one i) (L.fitting i h);
        },
        e,
      )

  pub leads_way : Leads S s ts at → Way S s 0 (begin S.model) ts at (last S ts)
  leads_way L =
      leads_from_way L.numbers
      (record {
        numbers = L.numbers;
        inside = L.inside;
        taken = λ i h. rw (add-one i) at (L.taken i h);
        fitting = λ i h. rw (add-one i) at (L.fitting i h);
      })
