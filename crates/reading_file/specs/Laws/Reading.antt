-- What the promise of reading says to whoever holds an answer: there is one reading, and what it means.
use Rattle.std.specs.Prelude.{cond, ℕ, ◌≡◌, refl, List, Result, Ok, Err, eqb}
use Rattle.std.proofs.Common.{sym, ap, ap₂, ◌∙◌, arith}
use Rattle.numbers.specs.Part.{Part, got, refused}
use Rattle.reading_file.specs.Said.{ReadReply, read, refusal, said_answer}
use Rattle.reading_file.specs.File.{read_file, empty, read_reply_of, tables_read, handed, Reads}
use Rattle.reading_file.specs.Valid.{Valid}
use Rattle.reading_file.specs.Laws.Valid.{valid}
use Rattle.numbers.specs.declared.refusal.Refusal.{Refusal}
use Rattle.numbers.specs.declared.refusal.Refusal.TheVariants.{TooLong, Ends, NotShortest, OutOfRange, PassesLimit, OtherQueue, NotAscending, NotInQueueOrder, Trailing, StartsEmpty}
use Rattle.tables.specs.declared.tables.Tables.{Tables}

-- the result that says a reply, with this value where all was read
module _ {A : Type 0} where
  unsaid : A → ReadReply → Result A Refusal
  unsaid x read = Ok x
  unsaid x (refusal k p) =
      cond (eqb k 1) (Err TooLong)
      (cond (eqb k 3) (Err (Ends p))
      (cond (eqb k 4) (Err (NotShortest p))
      (cond (eqb k 5) (Err (OutOfRange p))
      (cond (eqb k 6) (Err (PassesLimit p))
      (cond (eqb k 7) (Err (OtherQueue p))
      (cond (eqb k 8) (Err (NotAscending p))
      (cond (eqb k 9) (Err (NotInQueueOrder p))
      (cond (eqb k 10) (Err (Trailing p)) (Err StartsEmpty)))))))))

  -- a result without what was read: the answer alone
  abbrev pub answer_of : Result A Refusal → Result (Unit {0}) Refusal
  answer_of (Ok x) = Ok tt
  answer_of (Err why) = Err why

module _ {A : Type 0} where
  unsaid_answer : (r : Result A Refusal) → unsaid tt (said_answer r) ≡ answer_of r
  unfolding unsaid
  unsaid_answer (Ok x) = refl
  unsaid_answer (Err TooLong) = refl
  unsaid_answer (Err (Ends p)) = refl
  unsaid_answer (Err (NotShortest p)) = refl
  unsaid_answer (Err (OutOfRange p)) = refl
  unsaid_answer (Err (PassesLimit p)) = refl
  unsaid_answer (Err (OtherQueue p)) = refl
  unsaid_answer (Err (NotAscending p)) = refl
  unsaid_answer (Err (NotInQueueOrder p)) = refl
  unsaid_answer (Err (Trailing p)) = refl
  unsaid_answer (Err StartsEmpty) = refl

  -- no two answers say the same
  pub said_apart : (a b : Result A Refusal) → said_answer a ≡ said_answer b → answer_of a ≡ answer_of b
  said_apart a b e = sym (unsaid_answer a) ∙ ap (unsaid tt) e ∙ unsaid_answer b

unsaid_said : (r : Result Tables Refusal) → unsaid (handed r) (said_answer r) ≡ r
unfolding unsaid
unsaid_said (Ok T) = refl
unsaid_said (Err TooLong) = refl
unsaid_said (Err (Ends p)) = refl
unsaid_said (Err (NotShortest p)) = refl
unsaid_said (Err (OutOfRange p)) = refl
unsaid_said (Err (PassesLimit p)) = refl
unsaid_said (Err (OtherQueue p)) = refl
unsaid_said (Err (NotAscending p)) = refl
unsaid_said (Err (NotInQueueOrder p)) = refl
unsaid_said (Err (Trailing p)) = refl
unsaid_said (Err StartsEmpty) = refl

-- no two results say the same of the same tables
pub results_apart : (a b : Result Tables Refusal) → said_answer a ≡ said_answer b → handed a ≡ handed b → a ≡ b
results_apart a b e f = sym (unsaid_said a) ∙ ap₂ unsaid f e ∙ unsaid_said b

-- THE PROMISE LEAVES ONE READING
pub reading_one : (x : Part Tables) (r r' : Result Tables Refusal) → Reads x r → Reads x r' → r ≡ r'
reading_one x r r' h h' = results_apart r r' (h.reply ∙ sym h'.reply) (h.tables ∙ sym h'.tables)

-- one answer and one set of tables for each file
pub reading_alone : (x : Part Tables) (r r' : Result Tables Refusal) → Reads x r → Reads x r'
    → (said_answer r ≡ said_answer r') × (handed r ≡ handed r')
reading_alone x r r' h h' = (h.reply ∙ sym h'.reply, h.tables ∙ sym h'.tables)

pub refused_empty : {k p : ℕ} {r : Result Tables Refusal} → Reads (refused k p) r → handed r ≡ empty
refused_empty h = h.tables

module _ (x : Part Tables) (r : Result Tables Refusal) (h : Reads x r) where
  pub answer_refused : (k p : ℕ) → said_answer r ≡ refusal k p → x ≡ refused k p
  answer_refused k p e = go x (sym h.reply ∙ e)
    where
      go : (y : Part Tables) → read_reply_of y ≡ refusal k p → y ≡ refused k p
      go (got T next) f = cc
      go (refused j q) f = cc

  pub answer_read : said_answer r ≡ read → (next : ℕ) × (x ≡ got (handed r) next)
  answer_read e = go x (sym h.reply ∙ e) h.tables
    where
      go : (y : Part Tables) → read_reply_of y ≡ read → handed r ≡ tables_read y → (next : ℕ) × (y ≡ got (handed r) next)
      go (got T next) f g = (next, ap (λ t. got t next) (sym g))
      go (refused j q) f g = let z : ◌≡◌ {A = ℕ} 0 1 = cc in absurd (omega arith)

-- the tables handed back with the answer that all was read
pub answer_valid : (s : List ℕ) (r : Result Tables Refusal) → Reads (read_file s) r → said_answer r ≡ read → Valid (handed r)
answer_valid s r h e = valid s (answer_read (read_file s) r h e).1
