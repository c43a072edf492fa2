-- MEMBERSHIP IS RIGHT: what an answer means, and that contents as queues are always answered.
use Rattle.std.specs.Prelude.{ℕ, ◌+◌, ◌≤◌, ◌<◌, ◌≡◌, Bool, length}
use Rattle.std.proofs.Math.Path.{refl}
use Rattle.std.proofs.Common.{sym, ap, ap₂, ◌∙◌, arith}
use Rattle.std.proofs.Math.Bool.{true, false}
use Rattle.std.proofs.Math.Option.{Option}
use mathlib.Core.List.{List, [], ◌∷◌}
use Rattle.std.proofs.Math.Dec.{ltb, leb}
use borrow.Author.Tests.{ltb-true, ltb-false, lt-ltb, le-ltb, leb-true, leb-false}
use Rattle.numbers.specs.Part.{Part, got, refused}
use Rattle.reading_file.specs.File.{read_file}
use Rattle.tables.specs.declared.tables.Tables.{Tables}
use Rattle.theory_model.specs.Model.{total, queue_of, controls, Contents}
use Rattle.theory_model.specs.Diagram.{Pool, along, follow, how_far, accepts, word}
use Rattle.theory_model.specs.Session.{Session, inside, how_far_in}
use Rattle.theory_model.specs.Laws.Far.{far_whole}
use Rattle.theory_model.specs.Laws.Faithful.{accepts_is}
use Rattle.theory_files.specs.Tables.{session_of}
use Rattle.membership.specs.Member.{yes, no, refusal, answer, judge, ask, member_of}
use Rattle.membership.specs.Meaning.{Answered}
use Rattle.membership.specs.Laws.Judging.{judge_unknown, judge_earlier, judge_on}
use Rattle.membership.specs.Laws.Order.{Rises, at_last, further, contents_rise, split}
use Rattle.membership.specs.Laws.Asking.{member_unread, member_asked}

-- a refusal is no answer, and one answer is not the other
pub refusal_no_answer : {k p : ℕ} (b : Bool) (far : ℕ) → refusal k p ≡ answer b far → ⊥
refusal_no_answer true far e = let z : ◌≡◌ {A = ℕ} 0 1 = cc in omega arith
refusal_no_answer false far e = let z : ◌≡◌ {A = ℕ} 0 1 = cc in omega arith

one_answer : (a b : Bool) (far far' : ℕ) → answer a far ≡ answer b far' → (a ≡ b) × (far ≡ far')
one_answer true true far far' e = (refl, cc)
one_answer false false far far' e = (refl, cc)
one_answer true false far far' e = let z : ◌≡◌ {A = ℕ} 0 1 = cc in absurd (omega arith)
one_answer false true far far' e = let z : ◌≡◌ {A = ℕ} 0 1 = cc in absurd (omega arith)

-- THE WALK
module _ (ns : List ℕ) (P : Pool) (far : ℕ) where
  -- contents in order are answered
  judge_rising : (place : ℕ) {p : ℕ} (s : Option ℕ) {u : List ℕ} → Rises (queue_of ns) (total ns) p u
      → judge ns P far place p s u ≡ answer (accepts P s u) far
  unfolding judge
  judge_rising place s at_last = refl
  judge_rising place {p} s (further {m = m} {u = u} h l r) =
      judge_on ns P far place p s m u h l ∙ judge_rising (place + 1) (along P s m) r

  -- and contents that are answered are in order
  pub record Judged (p : ℕ) (s : Option ℕ) (u : List ℕ) (b : Bool) (f : ℕ) : Type 0 where
    pub rises : Rises (queue_of ns) (total ns) p u
    pub accepted : accepts P s u ≡ b
    pub followed : far ≡ f

  judged : (place p : ℕ) (s : Option ℕ) (u : List ℕ) (b : Bool) (f : ℕ) → judge ns P far place p s u ≡ answer b f → Judged p s u b f
  unfolding judge
  judged place p s [] b f e = let (accepted, followed) = one_answer (accepts P s []) b far f e in record { rises = at_last; accepted = accepted; followed = followed }
  judged place p s (m ∷ u) b f e =
      go (judged (place + 1) (queue_of ns m) (along P s m) u b f) (ltb m (total ns)) refl (leb p (queue_of ns m)) refl
    where
      go : (judge ns P far (place + 1) (queue_of ns m) (along P s m) u ≡ answer b f → Judged (queue_of ns m) (along P s m) u b f)
          → (x : Bool) → ltb m (total ns) ≡ x → (y : Bool) → leb p (queue_of ns m) ≡ y → Judged p s (m ∷ u) b f
      go later false k y g =
          absurd (refusal_no_answer b f (sym (judge_unknown ns P far place p s m u (ltb-false m (total ns) k)) ∙ e))
      go later true k false g =
          absurd (refusal_no_answer b f (sym (judge_earlier ns P far place p s m u (ltb-true m (total ns) k) (leb-false p (queue_of ns m) g)) ∙ e))
      go later true k true g =
          let h = ltb-true m (total ns) k in
          let l = leb-true p (queue_of ns m) g in
          let J = later (sym (judge_on ns P far place p s m u h l) ∙ e) in
          record { rises = further h l J.rises; accepted = J.accepted; followed = J.followed }

-- THE QUESTION
module _ (S : Session) (c : ℕ) where
  pub ask_on : (contents : List ℕ) → c < controls S.model
      → ask S c contents ≡ judge S.model.queues S.pool (how_far S.pool (S.root c) contents) 0 0 (S.root c) contents
  unfolding ask
  ask_on contents h = rw (lt-ltb c (controls S.model) h, ask)

  pub ask_off : (contents : List ℕ) → controls S.model ≤ c → ask S c contents ≡ refusal 11 0
  unfolding ask
  ask_off contents h = rw (le-ltb c (controls S.model) h, ask)

  pub ask_queues : (qs : List (List ℕ)) → c < controls S.model → Contents S.model qs
      → ask S c (word qs) ≡ answer (inside S (record { control = c; queues = qs })) (how_far_in S (record { control = c; queues = qs }))
  ask_queues qs h own =
      ask_on (word qs) h ∙ judge_rising S.model.queues S.pool (how_far S.pool (S.root c) (word qs)) 0 (S.root c) (contents_rise own)

  -- an answer, by the walk
  abbrev JudgedFrom : List ℕ → Bool → ℕ → Type 0
  JudgedFrom contents b far = Judged S.model.queues S.pool (how_far S.pool (S.root c) contents) 0 (S.root c) contents b far

  asked : (contents : List ℕ) (b : Bool) (far : ℕ) → ask S c contents ≡ answer b far → (c < controls S.model) × JudgedFrom contents b far
  asked contents b far e = go (ltb c (controls S.model)) refl
    where
      go : (x : Bool) → ltb c (controls S.model) ≡ x → (c < controls S.model) × JudgedFrom contents b far
      go false f = absurd (refusal_no_answer b far (sym (ask_off contents (ltb-false c (controls S.model) f)) ∙ e))
      go true f =
          let h = ltb-true c (controls S.model) f in
          (h, judged S.model.queues S.pool (how_far S.pool (S.root c) contents) 0 0 (S.root c) contents b far (sym (ask_on contents h) ∙ e))

-- CONTENTS AS QUEUES ARE ANSWERED: yes if the configuration is inside, no if it is outside, and never a refusal
pub queues_answered : (file : List ℕ) {T : Tables} {next : ℕ} (c : ℕ) (qs : List (List ℕ)) → read_file file ≡ got T next
    → c < controls (session_of T).model → Contents (session_of T).model qs
    → member_of file c (word qs) ≡ answer (inside (session_of T) (record { control = c; queues = qs })) (how_far_in (session_of T) (record { control = c; queues = qs }))
queues_answered file {T} c qs e h own = member_asked file c (word qs) e ∙ ask_queues (session_of T) c qs h own

-- WHAT AN ANSWER MEANS
pub answer_means : (file : List ℕ) (c : ℕ) (contents : List ℕ) (b : Bool) (far : ℕ) → member_of file c contents ≡ answer b far → Answered file c contents b far
answer_means file c contents b far e = go (read_file file) refl
  where
    go : (x : Part Tables) → read_file file ≡ x → Answered file c contents b far
    go (refused k p) f = absurd (refusal_no_answer b far (sym (member_unread file c contents f) ∙ e))
    go (got T next) f =
        let a = asked (session_of T) c contents b far (sym (member_asked file c contents f) ∙ e) in
        let s = split a.1.rises in
        record {
          tables = T;
          next = next;
          read = f;
          control = a.0;
          queues = s.queues;
          own = s.own;
          words = s.words;
          decided = ap (accepts (session_of T).pool ((session_of T).root c)) s.words ∙ a.1.accepted;
          followed = sym a.1.followed ∙ ap (how_far (session_of T).pool ((session_of T).root c)) (sym s.words);
        }

-- A YES: these contents belong to that control state. A no: they do not
pub yes_means : (file : List ℕ) (c : ℕ) (contents : List ℕ) (far : ℕ) → member_of file c contents ≡ yes far → Answered file c contents true far
yes_means file c contents far e = answer_means file c contents true far e

pub no_means : (file : List ℕ) (c : ℕ) (contents : List ℕ) (far : ℕ) → member_of file c contents ≡ no far → Answered file c contents false far
no_means file c contents far e = answer_means file c contents false far e

-- of a yes all messages are followed
pub yes_whole : (file : List ℕ) (c : ℕ) (contents : List ℕ) (far : ℕ) → member_of file c contents ≡ yes far → far ≡ length contents
yes_whole file c contents far e =
    let A = yes_means file c contents far e in
    let P = (session_of A.tables).pool in
    let root = (session_of A.tables).root c in
    let (s, f, g) = accepts_is (session_of A.tables) (follow P root (word A.queues)) A.decided in
    A.followed ∙ far_whole P root (word A.queues) f ∙ ap length A.words

-- and the other way round
pub means_answer : (file : List ℕ) (c : ℕ) (contents : List ℕ) (b : Bool) (far : ℕ) → Answered file c contents b far → member_of file c contents ≡ answer b far
means_answer file c contents b far A =
    ap (member_of file c) (sym A.words) ∙ queues_answered file c A.queues A.read A.control A.own ∙ ap₂ answer A.decided (sym A.followed)
