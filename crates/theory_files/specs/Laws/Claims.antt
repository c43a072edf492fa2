-- The defined reply has the meaning that is claimed, no other reply has it, and it says of every run what is claimed.
use Rattle.std.specs.Prelude.{ℕ, ◌≡◌, refl, ◌↔◌, List}
use Rattle.std.proofs.Common.{sym, ap, subst, ◌∙◌, arith}
use Rattle.numbers.specs.Part as Part
use Rattle.numbers.specs.Laws.Parts.{not_refused, same_value}
use Rattle.reading_file.specs.File.{read_file}
use Rattle.reading_file.specs.Valid.{Valid}
use Rattle.reading_file.specs.Laws.Valid.{valid}
use Rattle.tables.specs.declared.tables.Tables.{Tables}
use Rattle.theory_model.specs.Verdict.{Reply, closed, items, Means, Closed}
use Rattle.theory_model.specs.Session.{Session}
use Rattle.theory_model.specs.Judge as Judge
use Rattle.theory_model.specs.TwoRuns.{TwoRuns}
use Rattle.theory_model.specs.Laws.Items.{item_is}
use Rattle.theory_model.specs.Laws.Replies.{one_reply}
use Rattle.theory_model.proofs.Verdicts.{verdict_means, closed_bound}
use Rattle.theory_model.proofs.Verdicts.{closed_is, two_runs}
use Rattle.theory_files.specs.Tables.{session_of}
use Rattle.theory_files.specs.Reply.{FileReply, refused, verdict, reply_to, reply_of}
use Rattle.theory_files.specs.Claims.{Meant, TwoRunsTo, MeansOf, TwoRunsOf}
use Rattle.theory_files.specs.Laws.Sessions.{well_formed, within}

-- what is read is valid
abbrev pub Sound : Part.Part Tables → Type 0
Sound x = (T : Tables) (next : ℕ) → x ≡ Part.got T next → Valid T

-- a refusal is no verdict
refused_not_verdict : {X : Type 0} {k p : ℕ} {v : Reply} → ◌≡◌ {A = FileReply} (refused k p) (verdict v) → X
refused_not_verdict e = absurd (let z : ◌≡◌ {A = ℕ} 0 1 = cc in omega arith)

-- as the verdict on a session is closed, so is the reply to its file
verdict_closes : (S : Session) → ((n : ℕ) × (Judge.verdict S ≡ closed n)) ↔ Closed S
    → ((n : ℕ) × (verdict (Judge.verdict S) ≡ verdict (closed n))) ↔ Closed S
verdict_closes S c = (
  λ (n, e). c.0 (n, same n e),
  λ C. let (n, e) = c.1 C in (n, ap verdict e),
)
  where
    same : (n : ℕ) → verdict (Judge.verdict S) ≡ verdict (closed n) → Judge.verdict S ≡ closed n
    same n e = cc

-- ONE REPLY HAS THE MEANING
pub meant_one : (x : Part.Part Tables) → Sound x → (r r' : FileReply) → Meant x r → Meant x r' → r ≡ r'
meant_one (Part.refused k p) ok r r' m m' = m.refuses k p refl ∙ sym (m'.refuses k p refl)
meant_one (Part.got T next) ok r r' m m' =
    let (v, e, a) = m.judges T next refl in
    let (v', e', a') = m'.judges T next refl in
    let wf = well_formed T (ok T next refl) in
    e ∙ ap verdict (one_reply (session_of T) wf (items (session_of T)) (item_is (session_of T)) v v' a a') ∙ sym e'

pub reply_meant : (x : Part.Part Tables) → Sound x → Meant x (reply_to x)
reply_meant (Part.refused k p) ok =
    record {
      refuses = λ j q e. let a : k ≡ j = cc in let b : p ≡ q = cc in ap (λ n. refused n p) a ∙ ap (refused j) b;
      judges = λ T next e. absurd (not_refused e);
      closes = λ T next e. absurd (not_refused e);
      few = λ n e. refused_not_verdict e;
    }
reply_meant (Part.got T next) ok =
    let wf = well_formed T (ok T next refl) in
    let closes = verdict_closes (session_of T) (closed_is (session_of T) wf) in
    record {
      refuses = λ k p e. absurd (not_refused (sym e));
      judges =
          λ T' next' e. (
            Judge.verdict (session_of T),
            refl,
            subst (λ U. Means (session_of U) (items (session_of U)) (Judge.verdict (session_of T))) (same_value e) (verdict_means (session_of T) wf),
          );
      closes =
          λ T' next' e. subst (λ U. ((n : ℕ) × (verdict (Judge.verdict (session_of T)) ≡ verdict (closed n))) ↔ Closed (session_of U)) (same_value e) closes;
      few =
          λ n e.
          let same : Judge.verdict (session_of T) ≡ closed n = cc in
          closed_bound (session_of T) wf (within T (ok T next refl)) n same;
    }

-- the meaning and the definition are one
pub meant_is : (x : Part.Part Tables) → Sound x → (r : FileReply) → (r ≡ reply_to x) ↔ Meant x r
meant_is x ok r = (λ e. subst (Meant x) (sym e) (reply_meant x ok), λ m. meant_one x ok r (reply_to x) m (reply_meant x ok))

-- THE TWO RUNS
pub two_runs_to : (x : Part.Part Tables) → Sound x → (ts : List ℕ) → TwoRunsTo x (reply_to x) ts
two_runs_to (Part.refused k p) ok ts =
    let m = reply_meant (Part.refused k p) ok in
    record { defined = refl; refuses = m.refuses; runs = λ T next e. absurd (not_refused e); few = m.few }
two_runs_to (Part.got T next) ok ts =
    let m = reply_meant (Part.got T next) ok in
    record {
      defined = refl;
      refuses = m.refuses;
      runs =
          λ T' next' e. (
            Judge.verdict (session_of T),
            refl,
            subst (λ U. TwoRuns (session_of U) (Judge.verdict (session_of T)) ts) (same_value e)
                (two_runs (session_of T) (well_formed T (ok T next refl)) ts),
          );
      few = m.few;
    }

-- OF EVERY BYTE STRING
module _ (s : List ℕ) where
  pub file_sound : Sound (read_file s)
  file_sound T next e = valid s e

  pub reply_means : MeansOf s (reply_of s)
  unfolding reply_of
  reply_means = reply_meant (read_file s) file_sound

  pub one_reply_of : (r r' : FileReply) → MeansOf s r → MeansOf s r' → r ≡ r'
  one_reply_of r r' m m' = meant_one (read_file s) file_sound r r' m m'

  pub two_runs_of : (ts : List ℕ) → TwoRunsOf s (reply_of s) ts
  unfolding reply_of
  two_runs_of ts = two_runs_to (read_file s) file_sound ts
