-- A REFUSAL IS RIGHT: what each one means, and that each one is given where it is meant.
use Rattle.std.specs.Prelude.{ℕ, ◌+◌, ◌≤◌, ◌<◌, ◌≡◌, ◌↔◌, ◌⊎◌, Bool, true, false, length, ltb, leb}
use Rattle.std.proofs.Math.Path.{refl, subst}
use Rattle.std.proofs.Common.{sym, ap, ap₂, ◌∙◌, inl, inr, ltb-true, ltb-false, leb-true, leb-false, arith, add-zero}
use Rattle.std.proofs.Math.Option.{Option}
use mathlib.Core.List.{List, [], ◌∷◌, ◌++◌}
use Rattle.numbers.specs.Part.{Part, got, refused}
use Rattle.reading_file.specs.File.{read_file}
use Rattle.tables.specs.declared.tables.Tables.{Tables}
use Rattle.theory_model.specs.Model.{total, queue_of, controls}
use Rattle.theory_model.specs.Diagram.{Pool, along, how_far, accepts}
use Rattle.theory_files.specs.Tables.{session_of}
use Rattle.membership.specs.Member.{refusal, judge, ask, member_of}
use Rattle.membership.specs.Refused.{last_queue, Stopped, Refused, unread, no_control, stopped}
use Rattle.membership.specs.Laws.Judging.{judge_unknown, judge_earlier, judge_on}
use Rattle.membership.specs.Laws.Order.{Rises, at_last, further, contents_rise, split}
use Rattle.membership.specs.Laws.Asking.{member_unread, member_asked}
use Rattle.membership.specs.Laws.Meaning.{refusal_no_answer, ask_on, ask_off}

same_number : {k p k' p' : ℕ} → refusal k p ≡ refusal k' p' → k ≡ k'
same_number e = cc

same_place_lem : {k p k' p' : ℕ} → refusal k p ≡ refusal k' p' → p ≡ p'
same_place_lem e = cc

module _ (ns : List ℕ) (P : Pool) (far : ℕ) where
  -- the walk from a place on, where the message before is of queue q
  record Halted (place q : ℕ) (u : List ℕ) (k p : ℕ) : Type 0 where
    front : List ℕ
    message : ℕ
    rest : List ℕ
    whole : u ≡ front ++ (message ∷ rest)
    rises : Rises (queue_of ns) (total ns) q front
    at : p ≡ place + length front
    cause : ((k ≡ 12) × (total ns ≤ message)) ⊎ ((k ≡ 13) × (message < total ns) × (queue_of ns message < last_queue ns q front))

  halted : (place q : ℕ) (s : Option ℕ) (u : List ℕ) {k p : ℕ} → judge ns P far place q s u ≡ refusal k p → Halted place q u k p
  unfolding judge
  halted place q s [] {k} {p} e = absurd (refusal_no_answer (accepts P s []) far (sym e))
  halted place q s (m ∷ u) {k} {p} e =
      go (halted (place + 1) (queue_of ns m) (along P s m) u) (ltb m (total ns)) refl (leb q (queue_of ns m)) refl
    where
      here : (j : ℕ) → refusal k p ≡ refusal j place → ((j ≡ 12) × (total ns ≤ m)) ⊎ ((j ≡ 13) × (m < total ns) × (queue_of ns m < q))
          → Halted place q (m ∷ u) k p
      here j f why =
          subst (λ x. Halted place q (m ∷ u) x p) (sym (same_number f))
          (record {
            front = [];
            message = m;
            rest = u;
            whole = refl;
            rises = at_last;
            at = same_place_lem f ∙ omega arith;
            cause = why;
          })

      go : (judge ns P far (place + 1) (queue_of ns m) (along P s m) u ≡ refusal k p → Halted (place + 1) (queue_of ns m) u k p)
          → (x : Bool) → ltb m (total ns) ≡ x → (y : Bool) → leb q (queue_of ns m) ≡ y → Halted place q (m ∷ u) k p
      go later false f y g =
          let h = ltb-false m (total ns) f in
          here 12 (sym e ∙ judge_unknown ns P far place q s m u h) (inl (refl, h))
      go later true f false g =
          let h = ltb-true m (total ns) f in
          let l = leb-false q (queue_of ns m) g in
          here 13 (sym e ∙ judge_earlier ns P far place q s m u h l) (inr (refl, h, l))
      go later true f true g =
          let h = ltb-true m (total ns) f in
          let l = leb-true q (queue_of ns m) g in
          let H = later (sym (judge_on ns P far place q s m u h l) ∙ e) in
          record {
            front = m ∷ H.front;
            message = H.message;
            rest = H.rest;
            whole = ap (λ v. m ∷ v) H.whole;
            rises = further h l H.rises;
            at = omega (arith, H.at);
            cause = H.cause;
          }

  judge_stops : (s : Option ℕ) (u : List ℕ) {k p : ℕ} → judge ns P far 0 0 s u ≡ refusal k p → Stopped ns u k p
  judge_stops s u e =
      let H = halted 0 0 s u e in
      let S = split H.rises in
      record {
        front = H.front;
        message = H.message;
        rest = H.rest;
        whole = H.whole;
        place = omega (arith, H.at);
        queues = S.queues;
        own = S.own;
        words = S.words;
        cause = H.cause;
      }

  -- contents in order up to a message that is refused
  stopped_walk : (place : ℕ) {q : ℕ} (s : Option ℕ) {front : List ℕ} (m : ℕ) (rest : List ℕ) {k : ℕ} → Rises (queue_of ns) (total ns) q front
      → ((k ≡ 12) × (total ns ≤ m)) ⊎ ((k ≡ 13) × (m < total ns) × (queue_of ns m < last_queue ns q front))
      → judge ns P far place q s (front ++ (m ∷ rest)) ≡ refusal k (place + length front)
  stopped_walk place {q} s m rest at_last (inl c) =
      judge_unknown ns P far place q s m rest c.1 ∙ ap₂ refusal (sym c.0) (sym (add-zero place))
  stopped_walk place {q} s m rest at_last (inr c) =
      judge_earlier ns P far place q s m rest c.1 c.2 ∙ ap₂ refusal (sym c.0) (sym (add-zero place))
  stopped_walk place {q} s m rest {k} (further {m = n} {u = u} h l r) c =
      judge_on ns P far place q s n (u ++ (m ∷ rest)) h l ∙ stopped_walk (place + 1) (along P s n) m rest r c ∙ ap (refusal k) (omega arith)

  stops_judge : (s : Option ℕ) (u : List ℕ) {k p : ℕ} → Stopped ns u k p → judge ns P far 0 0 s u ≡ refusal k p
  stops_judge s u {k} {p} S =
      let rises = subst (Rises (queue_of ns) (total ns) 0) S.words (contents_rise S.own) in
      ap (judge ns P far 0 0 s) S.whole ∙ stopped_walk 0 s S.message S.rest rises S.cause
      ∙ ap (refusal k) (omega (arith, S.place))

-- WHAT A REFUSAL MEANS
pub refusal_means : (file : List ℕ) (c : ℕ) (contents : List ℕ) {k p : ℕ} → member_of file c contents ≡ refusal k p → Refused file c contents k p
refusal_means file c contents {k} {p} e = by_reading (read_file file) refl
  where
    by_control : {T : Tables} {next : ℕ} → read_file file ≡ got T next → (b : Bool) → ltb c (controls (session_of T).model) ≡ b
        → ask (session_of T) c contents ≡ refusal k p → Refused file c contents k p
    by_control {T} r false f a =
        let h = ltb-false c (controls (session_of T).model) f in
        let g = sym a ∙ ask_off (session_of T) c contents h in
        subst (λ x. Refused file c contents x p) (sym (same_number g))
        (subst (λ x. Refused file c contents 11 x) (sym (same_place_lem g)) (no_control r h))
    by_control {T} r true f a =
        let h = ltb-true c (controls (session_of T).model) f in
        stopped r h (judge_stops (session_of T).model.queues (session_of T).pool (how_far (session_of T).pool ((session_of T).root c) contents) ((session_of T).root c) contents (sym (ask_on (session_of T) c contents h) ∙ a))

    by_reading : (x : Part Tables) → read_file file ≡ x → Refused file c contents k p
    by_reading (refused j q) f =
        let g = sym e ∙ member_unread file c contents f in
        unread (f ∙ ap₂ refused (sym (same_number g)) (sym (same_place_lem g)))
    by_reading (got T next) f = by_control f (ltb c (controls (session_of T).model)) refl (sym (member_asked file c contents f) ∙ e)

-- AND WHERE IT IS MEANT IT IS GIVEN
pub means_refusal : (file : List ℕ) (c : ℕ) (contents : List ℕ) {k p : ℕ} → Refused file c contents k p → member_of file c contents ≡ refusal k p
means_refusal file c contents (unread e) = member_unread file c contents e
means_refusal file c contents (no_control {T = T} r h) = member_asked file c contents r ∙ ask_off (session_of T) c contents h
means_refusal file c contents (stopped {T = T} r h S) =
    member_asked file c contents r
    ∙ ask_on (session_of T) c contents h
    ∙ stops_judge (session_of T).model.queues (session_of T).pool (how_far (session_of T).pool ((session_of T).root c) contents) ((session_of T).root c) contents S

-- THE REFUSALS OF MEMBERSHIP: each exactly in its case
pub member_refusal_is : (file : List ℕ) (c : ℕ) (contents : List ℕ) (k p : ℕ) → (member_of file c contents ≡ refusal k p) ↔ Refused file c contents k p
member_refusal_is file c contents k p = (refusal_means file c contents, means_refusal file c contents)
