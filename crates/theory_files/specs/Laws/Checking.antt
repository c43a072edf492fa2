-- Checking with lent memory: when it refuses with 1 and with 2, that it else replies as to the file alone, and the demands of its reply.
use Rattle.std.specs.Prelude.{ℕ, ◌≤◌, ◌<◌, ◌≡◌, ◌↔◌, Bool, ◌&&◌, List, length, leb}
use Rattle.std.proofs.Math.Path.{refl, sym, ap}
use Rattle.std.proofs.Common.{subst, ◌∙◌, ⊎_elim, leb-true, leb-false, le-leb, arith}
use Rattle.std.proofs.Math.Bool.{true, false, and-false}
use Rattle.std.proofs.lemmas.Bool.{false≢true, lt-leb}
use Rattle.numbers.specs.Limits.{most_bytes}
use Rattle.numbers.specs.Part.{Part, got, provided}
use Rattle.numbers.specs.Laws.Parts.{not_refused}
use Rattle.reading_file.specs.File.{read_file}
use Rattle.reading_file.specs.Valid.{Valid}
use Rattle.reading_file.specs.Laws.Fields.{parts, file_is}
use Rattle.reading_file.specs.Laws.Refusals.{refusal_number}
use Rattle.reading_file.specs.Laws.Valid.{valid}
use Rattle.tables.specs.declared.tables.Tables.{Tables}
use Rattle.theory_model.specs.Laws.Basics.{by_test, and_is}
use Rattle.theory_files.specs.Reply.{FileReply, refused, reply_to, reply_of}
use Rattle.theory_files.specs.Checking.{table_least, enough, read_lent, table_after, contents_after, check_of, Checks, CheckMeans, CheckTwoRuns}
use Rattle.tables.specs.Limits.{contents_least}
use Rattle.theory_files.specs.Laws.Claims.{Sound, meant_one, reply_meant, two_runs_to}

-- a reply that refuses was given to a refusal
reply_refused : (x : Part Tables) {k p : ℕ} → reply_to x ≡ refused k p → x ≡ Part.refused k p
reply_refused (Part.refused j q) e = cc
reply_refused (got T next) e = absurd (let z : ◌≡◌ {A = ℕ} 0 1 = cc in omega arith)

module _ (file seen queue contents : List ℕ) where
  -- 1: MORE THAN 16,384 BYTES
  pub lent_long : most_bytes < length file → read_lent file seen queue contents ≡ Part.refused 1 most_bytes
  unfolding read_lent
  lent_long h = rw (lt-leb (length file) most_bytes h)

  -- 2: TOO LITTLE IS LENT
  pub lent_little : length file ≤ most_bytes → enough seen queue contents ≡ false → read_lent file seen queue contents ≡ Part.refused 2 0
  unfolding read_lent
  lent_little h e = rw (le-leb (length file) most_bytes h, e)

  -- ELSE THE FILE
  pub lent_enough : enough seen queue contents ≡ true → read_lent file seen queue contents ≡ read_file file
  unfolding read_lent
  lent_enough e =
      rw e
      (ap (provided (leb (length file) most_bytes) 1 most_bytes) (file_is file) ∙ again (leb (length file) most_bytes) ∙ sym (file_is file))
    where
      again : (b : Bool) → provided b 1 most_bytes (provided b 1 most_bytes (parts file)) ≡ provided b 1 most_bytes (parts file)
      again true = refl
      again false = refl

  -- WHAT IS ENOUGH
  pub enough_long : enough seen queue contents ≡ true
      → (table_least ≤ length seen) × (table_least ≤ length queue) × (contents_least ≤ length contents)
  enough_long e =
      let (a, d) = and_is (leb table_least (length seen)) (leb table_least (length queue) && leb contents_least (length contents)) e in
      let (b, c) = and_is (leb table_least (length queue)) (leb contents_least (length contents)) d in (
        leb-true table_least (length seen) a,
        leb-true table_least (length queue) b,
        leb-true contents_least (length contents) c,
      )

  pub long_enough : table_least ≤ length seen → table_least ≤ length queue → contents_least ≤ length contents
      → enough seen queue contents ≡ true
  long_enough a b c = rw (le-leb table_least (length seen) a, le-leb table_least (length queue) b, le-leb contents_least (length contents) c)

  pub little_seen : length seen < table_least → enough seen queue contents ≡ false
  little_seen h = rw (lt-leb table_least (length seen) h)

  pub little_queue : length queue < table_least → enough seen queue contents ≡ false
  little_queue h = rw (lt-leb table_least (length queue) h) (and-false (leb table_least (length seen)))

  pub little_contents : length contents < contents_least → enough seen queue contents ≡ false
  little_contents h =
      rw (lt-leb contents_least (length contents) h)
      (ap (λ b. leb table_least (length seen) && b) (and-false (leb table_least (length queue))) ∙ and-false (leb table_least (length seen)))

  -- THE THREE WAYS: the file is too long, too little is lent, the file is read
  pub data Ways (x : Part Tables) : Type 0 where
    long : x ≡ Part.refused 1 most_bytes → Ways x
    little : length file ≤ most_bytes → enough seen queue contents ≡ false → x ≡ Part.refused 2 0 → Ways x
    whole : enough seen queue contents ≡ true → x ≡ read_file file → Ways x

  pub ways : Ways (read_lent file seen queue contents)
  ways =
      by_test (leb (length file) most_bytes)
      (λ t.
      let short = leb-true (length file) most_bytes t in
      by_test (enough seen queue contents) (λ e. whole e (lent_enough e)) (λ e. little short e (lent_little short e)))
      (λ f. long (lent_long (leb-false (length file) most_bytes f)))

  pub lent_sound : Sound (read_lent file seen queue contents)
  lent_sound T next e = go ways
    where
      go : Ways (read_lent file seen queue contents) → Valid T
      go (long p) = absurd (not_refused (sym p ∙ e))
      go (little h l p) = absurd (not_refused (sym p ∙ e))
      go (whole h p) = valid file (sym p ∙ e)

  -- 2 in its case and no other
  pub refused_two : (p : ℕ) → (read_lent file seen queue contents ≡ Part.refused 2 p)
      ↔ ((p ≡ 0) × (length file ≤ most_bytes) × (enough seen queue contents ≡ false))
  refused_two p = (λ e. go e ways, λ (z, h, l). lent_little h l ∙ ap (Part.refused 2) (sym z))
    where
      go : read_lent file seen queue contents ≡ Part.refused 2 p → Ways (read_lent file seen queue contents)
          → (p ≡ 0) × (length file ≤ most_bytes) × (enough seen queue contents ≡ false)
      go e (long q) = let n : ◌≡◌ {A = ℕ} 1 2 = cc in absurd (omega arith)
      go e (little h l q) = let n : 0 ≡ p = cc in (sym n, h, l)
      go e (whole h q) =
          absurd
          (⊎_elim (λ (n : ◌≡◌ {A = ℕ} 2 1). omega arith)
          (⊎_elim (λ (n : (3 ≤ 2) × (2 ≤ 10)). omega (arith, n.0)) (λ (n : ◌≡◌ {A = ℕ} 2 23). omega arith))
          (refusal_number file 2 p (sym q ∙ e)))

  -- with enough lent, the reply is that to the file alone
  pub check_reply : enough seen queue contents ≡ true → (check_of file seen queue contents).reply ≡ reply_of file
  unfolding reply_of
  check_reply e = ap reply_to (lent_enough e)

  -- scratch of 32,511 gives 2 and 32,512 does not
  pub scratch_under : length file ≤ most_bytes → length seen ≡ 32511 → (check_of file seen queue contents).reply ≡ refused 2 0
  scratch_under h e = ap reply_to (lent_little h (little_seen (omega arith)))

  pub scratch_enough : length seen ≡ 32512 → length queue ≡ 32512 → contents_least ≤ length contents
      → (p : ℕ) → (check_of file seen queue contents).reply ≡ refused 2 p → ⊥
  scratch_enough a b c p e =
      let long = long_enough (omega arith) (omega arith) c in
      false≢true (sym ((refused_two p).0 (reply_refused (read_lent file seen queue contents) e)).2 ∙ long)

  -- FROM THE REPLY AND THREE FACTS to the promise
  pub checks_made : {r : FileReply} {seen₁ queue₁ contents₁ : List ℕ} → r ≡ reply_to (read_lent file seen queue contents)
      → seen₁ ≡ table_after r seen → queue₁ ≡ table_after r queue → contents₁ ≡ contents_after r contents
      → Checks file seen queue contents r seen₁ queue₁ contents₁
  checks_made e a b c =
      record {
        reply = e;
        seen = a ∙ ap (λ r. table_after r seen) e;
        queue = b ∙ ap (λ r. table_after r queue) e;
        contents = c ∙ ap (λ r. contents_after r contents) e;
      }

  -- a refusal leaves all lent memory as it was
  pub checks_refused : {r : FileReply} (k p : ℕ) → read_lent file seen queue contents ≡ Part.refused k p → r ≡ refused k p
      → Checks file seen queue contents r seen queue contents
  checks_refused k p e f =
      checks_made (f ∙ sym (ap reply_to e)) (ap (λ r. table_after r seen) (sym f)) (ap (λ r. table_after r queue) (sym f))
      (ap (λ r. contents_after r contents) (sym f))

  -- THE DEMANDS OF CHECKING'S REPLY
  module _ {r : FileReply} {seen₁ queue₁ contents₁ : List ℕ} (c : Checks file seen queue contents r seen₁ queue₁ contents₁) where
    pub check_means : CheckMeans file seen queue contents r
    check_means = subst (CheckMeans file seen queue contents) (sym c.reply) (reply_meant (read_lent file seen queue contents) lent_sound)

    pub check_two_runs : (ts : List ℕ) → CheckTwoRuns file seen queue contents r ts
    check_two_runs ts =
        subst (λ r. CheckTwoRuns file seen queue contents r ts) (sym c.reply)
        (two_runs_to (read_lent file seen queue contents) lent_sound ts)

  pub check_one_reply : (r r' : FileReply) → CheckMeans file seen queue contents r → CheckMeans file seen queue contents r' → r ≡ r'
  check_one_reply = meant_one (read_lent file seen queue contents) lent_sound
