-- The worthless versions of document 01 are shut out: each fails a demand, on a file that is given whole.
use Rattle.std.specs.Prelude.{ℕ, ◌≡◌, refl, Bool, true, false, List, [], ◌∷◌, length, drop, replicate}
use Rattle.std.proofs.Common.{sym, ap, subst, ◌∙◌, arith}
use Rattle.std.proofs.lemmas.Bool.{false≢true}
use mathlib.Core.List.Memᴰ
use Rattle.numbers.specs.Part as Part
use Rattle.reading_file.specs.File.{read_file}
use Rattle.tables.specs.declared.tables.Tables.{Tables}
use Rattle.theory_exploration.specs.Mem.{Mem, here, there}
use Rattle.theory_model.specs.Model.{run}
use Rattle.theory_model.specs.Session.{inside}
use Rattle.theory_model.specs.Verdict.{closed, leaves}
use Rattle.theory_model.specs.TwoRuns.{TwoRuns}
use Rattle.theory_files.specs.Tables.{session_of}
use Rattle.theory_files.specs.Reply.{FileReply, refused, verdict, reply_of}
use Rattle.theory_files.specs.Claims.{TwoRunsTo, MeansOf, TwoRunsOf}
use Rattle.theory_files.specs.Checking.{enough, table_after, contents_after, Checks}
use Rattle.theory_files.specs.Cases.{insides_to, insides, case_a, case_b, case_c, case_f, second_leaves, computed}
use Rattle.theory_files.specs.Laws.Claims.{reply_means, one_reply_of}
use Rattle.theory_files.specs.Laws.Checking.{check_reply}

-- the reply that is meant is the one that is defined
meant : (s : List ℕ) {r d : FileReply} → reply_of s ≡ d → MeansOf s r → r ≡ d
meant s {r} e m = one_reply_of s r (reply_of s) m (reply_means s) ∙ e

module _ {X : Type 0} where
  refused_not_closed : {k p n : ℕ} → ◌≡◌ {A = FileReply} (refused k p) (verdict (closed n)) → X
  refused_not_closed e = absurd (let z : ◌≡◌ {A = ℕ} 0 1 = cc in omega arith)

  closed_not_leaves : {n c t f : ℕ} {w : List ℕ} → ◌≡◌ {A = FileReply} (verdict (closed n)) (verdict (leaves c t w f)) → X
  closed_not_leaves e = absurd (let z : ◌≡◌ {A = ℕ} 0 1 = cc in omega arith)

-- closed accepts the run: each of its configurations is inside
closed_inside : (x : Part.Part Tables) (n : ℕ) (ts : List ℕ) → TwoRunsTo x (verdict (closed n)) ts → (b : Bool) → Mem b (insides_to x ts) → b ≡ true
closed_inside (Part.refused k p) n ts r b m = absurd (Memᴰ.not-nil m)
closed_inside (Part.got T next) n ts r b m =
    let (v, e, t) = r.runs T next refl in
    let same : closed n ≡ v = cc in
    let accepts = (subst (λ v. TwoRuns (session_of T) v ts) (sym same) t).says in
    let (γ, k, i) = Memᴰ.of_map (inside (session_of T)) (run (session_of T).model ts) m in
    sym i ∙ (accepts γ k).0

leaves_not_closed : (s ts : List ℕ) (n : ℕ) → insides s ts ≡ true ∷ false ∷ [] → TwoRunsOf s (verdict (closed n)) ts → ⊥
leaves_not_closed s ts n e r =
    false≢true (closed_inside (read_file s) n ts r false (subst (Mem false) (sym e) (there (here refl))))

-- REFUSES EVERY FILE
pub not_every_file_refused : (k p : ℕ) → MeansOf case_a (refused k p) → ⊥
not_every_file_refused k p m = refused_not_closed (meant case_a computed.a m)

-- SAYS closed TO EVERY FILE
pub b_not_closed : (n : ℕ) → MeansOf case_b (verdict (closed n)) → ⊥
b_not_closed n m = closed_not_leaves (meant case_b computed.b m)

pub b_run_not_closed : (n : ℕ) → TwoRunsOf case_b (verdict (closed n)) (0 ∷ []) → ⊥
b_run_not_closed n r = leaves_not_closed case_b (0 ∷ []) n computed.b_run r

-- RETURNS WITHOUT TOUCHING BUFFER OR TABLES
pub c_touches : {seen queue contents seen₁ queue₁ contents₁ : List ℕ} {r : FileReply} → enough seen queue contents ≡ true
    → Checks case_c seen queue contents r seen₁ queue₁ contents₁
    → (seen₁ ≡ replicate (length seen) 0) × (queue₁ ≡ replicate (length queue) 0) × (contents₁ ≡ 0 ∷ drop 1 contents)
c_touches {seen} {queue} {contents} e c =
    let same = check_reply case_c seen queue contents e ∙ computed.c in (
      c.seen ∙ ap (λ r. table_after r seen) same,
      c.queue ∙ ap (λ r. table_after r queue) same,
      c.contents ∙ ap (λ r. contents_after r contents) same,
    )

-- CHECKS THE FIRST STEP AND WAVES THE OTHERS THROUGH
pub second_not_closed : (n : ℕ) → MeansOf second_leaves (verdict (closed n)) → ⊥
second_not_closed n m = closed_not_leaves (meant second_leaves computed.second m)

pub second_run_not_closed : (n : ℕ) → TwoRunsOf second_leaves (verdict (closed n)) (1 ∷ []) → ⊥
second_run_not_closed n r = leaves_not_closed second_leaves (1 ∷ []) n computed.second_run r

-- REPORTS AN INVENTED NUMBER OF PAIRS
same_pairs : {m n : ℕ} → ◌≡◌ {A = FileReply} (verdict (closed m)) (verdict (closed n)) → m ≡ n
same_pairs e = cc

pub f_three : (n : ℕ) → MeansOf case_f (verdict (closed n)) → n ≡ 3
f_three n m = same_pairs (meant case_f computed.f m)

pub f_run_three : (n : ℕ) (ts : List ℕ) → TwoRunsOf case_f (verdict (closed n)) ts → n ≡ 3
unfolding reply_of
f_run_three n ts r = same_pairs (r.defined ∙ computed.f)
