-- What the end of a replay says of the run: it means what `EndMeans` says, nothing else does, and each reason to end is told exactly where it holds.
use Rattle.std.specs.Prelude.{ℕ, ◌+◌, ◌≤◌, ◌<◌, ◌≡◌, refl, false, ◌↔◌, ◌⊎◌, List, [], ◌∷◌, length, get_or}
use Rattle.std.proofs.Common.{sym, ap, subst, ◌∙◌, inl, inr, arith, zero-add}
use Rattle.std.proofs.Math.Option.{none, some}
use Rattle.theory_exploration.specs.Mem.{Mem, here, there}
use Rattle.numbers.specs.Part.{refused}
use Rattle.numbers.specs.Number.{read_below}
use Rattle.theory_model.specs.Model.{Model, Configuration, take?, next, begin, run_from, run}
use Rattle.theory_model.specs.Session.{Session, Inside, Outside, how_far_in}
use Rattle.theory_model.specs.Verdict.{closed}
use Rattle.theory_model.specs.TwoRuns.{Says}
use Rattle.theory_model.specs.Laws.Basics.{false_not_true}
use Rattle.theory_replay.specs.Rules.{fits, Why, end, outside, refusal, Asked, Stops, left_map, no_more, unread, untaken, full, Ended, ended, ReplayEnds}
use Rattle.theory_replay.specs.Meaning.{Numbers, none_left, number, Leads, last, EndMeans}
use Rattle.theory_replay.specs.Replay.{replayed}
use Rattle.theory_replay.specs.Laws.Numbers.{number_after, below_refused, refusal_number, refusal_within}
use Rattle.theory_replay.specs.Laws.Rules.{replay_rules, rules_replay}
use Rattle.theory_replay.specs.Laws.Ways.{way_replays, replay_way, way_leads, leads_way}

module _ (S : Session) (s : List ℕ) where
  -- THE REPLAY ENDS AS `EndMeans` SAYS, and that leaves one end
  pub replay_means : EndMeans S s (replayed S s)
  replay_means =
      let R = replay_way (replay_rules S s) in
      let (L, e) = way_leads R.way in
      record {
        numbers = R.numbers;
        at = R.place;
        leads = L;
        stops = subst (λ δ. Stops S s R.place δ (replayed S s).why) (sym e) R.stops;
        steps = R.steps ∙ zero-add (length R.numbers);
        last = sym e;
      }

  -- where the trace leads and the replay stops, there it ends
  pub leads_ends : {ts : List ℕ} {at : ℕ} {w : Why} → Leads S s ts at → Stops S s at (last S ts) w → ended w (length ts) (last S ts) ≡ replayed S s
  leads_ends {ts} {at} {w} L p =
      rules_replay S s (subst (λ n. ReplayEnds S s (ended w n (last S ts))) (zero-add (length ts)) (way_replays 0 (leads_way L) p))

  pub means_replay : {e : Ended} → EndMeans S s e → e ≡ replayed S s
  means_replay {e} m = same ∙ leads_ends m.leads m.stops
    where
      same : e ≡ ended e.why (length m.numbers) (last S m.numbers)
      same = λ i. record { why = e.why; steps = m.steps i; last = m.last i }

-- EACH REASON EXACTLY
module _ (S : Session) (s : List ℕ) where
  -- for any reason: exactly where the trace leads to a place and the replay stops there for it
  pub ends_exactly : (w : Why) (n : ℕ)
      → (((replayed S s).why ≡ w) × ((replayed S s).steps ≡ n)) ↔ ((ts : List ℕ) × (at : ℕ) × Leads S s ts at × (length ts ≡ n) × Stops S s at (last S ts) w)
  ends_exactly w n = (
    (λ (e, k). let m = replay_means S s in (m.numbers, m.at, m.leads, sym m.steps ∙ k, subst (Stops S s m.at (last S m.numbers)) e m.stops)),
    (λ (ts, at, L, k, p). let same = leads_ends S s L p in (sym (ap (λ e. e.why) same), sym (ap (λ e. e.steps) same) ∙ k)),
  )

module _ {S : Session} {s : List ℕ} {at : ℕ} {γ : Configuration} where
  -- why it stopped there
  stops_outside : {f : ℕ} → Stops S s at γ (outside f) → Outside S γ × (f ≡ how_far_in S γ)
  stops_outside (left_map o) = (o, refl)

  outside_stops : {f : ℕ} → Outside S γ → f ≡ how_far_in S γ → Stops S s at γ (outside f)
  outside_stops o e = subst (λ f. Stops S s at γ (outside f)) (sym e) (left_map o)

  stops_end : Stops S s at γ end → Inside S γ × (length s ≤ at)
  stops_end (no_more i h) = (i, h)

  stops_unread : {k p : ℕ} → k ≤ 5 → Stops S s at γ (refusal k p)
      → Inside S γ × (at < length s) × (read_below s at (length S.model.transitions) ≡ refused k p)
  stops_unread l (unread i h r) = (i, h, r)
  stops_unread l (untaken a n) = absurd (omega arith)
  stops_unread l (full a m f) = absurd (omega arith)

  stops_untaken : {k p : ℕ} → k ≡ 14 → Stops S s at γ (refusal k p) → (at ≡ p) × ((t next : ℕ) × Asked S s at γ t next × (take? S.model t γ ≡ none))
  stops_untaken l (unread i h r) = let b = refusal_number s at (below_refused s at _ r) in absurd (omega arith)
  stops_untaken l (untaken {t = t} {next = next} a n) = (refl, (t, next, a, n))
  stops_untaken l (full a m f) = absurd (omega arith)

  stops_full : {k p : ℕ} → k ≡ 15 → Stops S s at γ (refusal k p)
      → (at ≡ p) × ((t next : ℕ) × (γ' : Configuration) × Asked S s at γ t next × (take? S.model t γ ≡ some γ') × (fits γ'.queues ≡ false))
  stops_full l (unread i h r) = let b = refusal_number s at (below_refused s at _ r) in absurd (omega arith)
  stops_full l (untaken a n) = absurd (omega arith)
  stops_full l (full {t = t} {next = next} {γ' = γ'} a m f) = (refl, (t, next, γ', a, m, f))

  stops_numbers : {k p : ℕ} → at ≤ length s → Stops S s at γ (refusal k p) → (((3 ≤ k) × (k ≤ 5)) ⊎ ((k ≡ 14) ⊎ (k ≡ 15))) × (p ≤ length s)
  stops_numbers h (unread i m r) = let b = below_refused s at _ r in (inl (refusal_number s at b), refusal_within s at h b)
  stops_numbers h (untaken a n) = (inr (inl refl), h)
  stops_numbers h (full a m f) = (inr (inr refl), h)

numbers_within : {s ts : List ℕ} {at next : ℕ} → at ≤ length s → Numbers s at ts next → (at + length ts ≤ next) × (next ≤ length s)
numbers_within h none_left = omega arith
numbers_within {s} h (number {at = at} {ts = ts} r N) =
    let a = number_after s at r in
    let b = numbers_within a.1 N in
    omega arith

module _ (S : Session) (s : List ℕ) where
  -- a place that the trace leads to is within it, and each number took a byte at least
  pub leads_within : {ts : List ℕ} {at : ℕ} → Leads S s ts at → (length ts ≤ at) × (at ≤ length s)
  leads_within L = let w = numbers_within (omega arith) L.numbers in omega arith

  pub steps_within : (replayed S s).steps ≤ length s
  steps_within = let m = replay_means S s in let w = leads_within m.leads in omega (arith, m.steps)

  -- outside after n steps, with f: the run of the first n numbers, each taken from inside, has left the map, and f messages of what waits there are followed
  pub outside_exactly : (f n : ℕ)
      → (((replayed S s).why ≡ outside f) × ((replayed S s).steps ≡ n))
      ↔ ((ts : List ℕ) × (at : ℕ) × Leads S s ts at × (length ts ≡ n) × Outside S (last S ts) × (f ≡ how_far_in S (last S ts)))
  outside_exactly f n = (
    (λ x. let (ts, at, L, k, p) = (ends_exactly S s (outside f) n).0 x in let (o, e) = stops_outside p in (ts, at, L, k, o, e)),
    (λ (ts, at, L, k, o, e). (ends_exactly S s (outside f) n).1 (ts, at, L, k, outside_stops o e)),
  )

  -- the end after n steps: the whole trace is taken, and its last configuration is inside too
  pub end_exactly : (n : ℕ)
      → (((replayed S s).why ≡ end) × ((replayed S s).steps ≡ n)) ↔ ((ts : List ℕ) × Leads S s ts (length s) × (length ts ≡ n) × Inside S (last S ts))
  end_exactly n = (
    (λ x.
        let (ts, at, L, k, p) = (ends_exactly S s end n).0 x in
        let (i, h) = stops_end p in
        let within = leads_within L in
        let whole : at ≡ length s = omega arith in
        (ts, subst (Leads S s ts) whole L, k, i)),
    (λ (ts, L, k, i). (ends_exactly S s end n).1 (ts, length s, L, k, no_more i (omega arith))),
  )

  -- 3, 4 and 5: no number of a transition stands where the trace has led; `below_refused` has their places
  pub unread_exactly : (k p n : ℕ) → k ≤ 5
      → (((replayed S s).why ≡ refusal k p) × ((replayed S s).steps ≡ n))
      ↔ ((ts : List ℕ) × (at : ℕ) × Leads S s ts at × (length ts ≡ n) × Inside S (last S ts) × (at < length s) × (read_below s at (length S.model.transitions) ≡ refused k p))
  unread_exactly k p n h = (
    (λ x. let (ts, at, L, l, q) = (ends_exactly S s (refusal k p) n).0 x in let (i, m, r) = stops_unread h q in (ts, at, L, l, i, m, r)),
    (λ (ts, at, L, l, i, m, r). (ends_exactly S s (refusal k p) n).1 (ts, at, L, l, unread i m r)),
  )

  -- 14: a transition's number stands there, and its transition cannot be taken
  pub untaken_exactly : (p n : ℕ)
      → (((replayed S s).why ≡ refusal 14 p) × ((replayed S s).steps ≡ n))
      ↔ ((ts : List ℕ) × Leads S s ts p × (length ts ≡ n) × (t next : ℕ) × Asked S s p (last S ts) t next × (take? S.model t (last S ts) ≡ none))
  untaken_exactly p n = (
    (λ x.
        let (ts, at, L, l, q) = (ends_exactly S s (refusal 14 p) n).0 x in
        let (e, (t, next, a, m)) = stops_untaken refl q in
        (ts, subst (Leads S s ts) e L, l, t, next, subst (λ y. Asked S s y (last S ts) t next) e a, m)),
    (λ (ts, L, l, t, next, a, m). (ends_exactly S s (refusal 14 p) n).1 (ts, p, L, l, untaken a m)),
  )

  -- 15: it can, and a queue would pass its room
  pub full_exactly : (p n : ℕ)
      → (((replayed S s).why ≡ refusal 15 p) × ((replayed S s).steps ≡ n))
      ↔ ((ts : List ℕ) × Leads S s ts p × (length ts ≡ n) × (t next : ℕ) × (γ' : Configuration) × Asked S s p (last S ts) t next
      × (take? S.model t (last S ts) ≡ some γ') × (fits γ'.queues ≡ false))
  full_exactly p n = (
    (λ x.
        let (ts, at, L, l, q) = (ends_exactly S s (refusal 15 p) n).0 x in
        let (e, (t, next, γ', a, m, f)) = stops_full refl q in
        (ts, subst (Leads S s ts) e L, l, t, next, γ', subst (λ y. Asked S s y (last S ts) t next) e a, m, f)),
    (λ (ts, L, l, t, next, γ', a, m, f). (ends_exactly S s (refusal 15 p) n).1 (ts, p, L, l, full a m f)),
  )

  -- a step is refused by no other number, and at a place within the trace or at its end
  pub refusals : {k p : ℕ} → (replayed S s).why ≡ refusal k p → (((3 ≤ k) × (k ≤ 5)) ⊎ ((k ≡ 14) ⊎ (k ≡ 15))) × (p ≤ length s)
  refusals e = let m = replay_means S s in stops_numbers (leads_within m.leads).1 (subst (Stops S s m.at (last S m.numbers)) e m.stops)

-- THE RUN HAS THE LAST CONFIGURATION, so the replay of a closed session never ends outside
last_from : (M : Model) (γ d : Configuration) (ts : List ℕ) → Mem (get_or (run_from M γ ts) (length ts) d) (run_from M γ ts)
last_from M γ d [] = here refl
last_from M γ d (t ∷ ts) = there (last_from M (next M t γ) d ts)

pub in_run : (S : Session) (ts : List ℕ) → Mem (last S ts) (run S.model ts)
in_run S ts = last_from S.model (begin S.model) (begin S.model) ts

module _ (S : Session) (s : List ℕ) where
  pub never_outside : (k f : ℕ) → ((ts : List ℕ) → Says S ts (closed k)) → (replayed S s).why ≡ outside f → ⊥
  never_outside k f says e =
      let (ts, at, L, l, o, far) = (outside_exactly S s f (replayed S s).steps).0 (e, refl) in
      false_not_true o (says ts (last S ts) (in_run S ts)).0
