-- What holds of a word that was read: each message is of its queue.
use Rattle.std.specs.Prelude.{ℕ, suc, ◌+◌, ◌≤◌, ◌<◌, ◌≡◌, List, length, get_or, set}
use Rattle.std.proofs.Math.Path.{refl}
use Rattle.std.proofs.Common.{sym, subst, ◌∙◌, arith}
use Rattle.numbers.specs.Part.{got}
use Rattle.tables.specs.Queues.{first_message, OfQueue}
use Rattle.tables.specs.Valid.{WordValid}
use Rattle.tables.specs.declared.tables.Queues.{Queues}
use Rattle.reading_model.specs.Words.{read_message, read_word}
use Rattle.reading_model.specs.Laws.Ranges.{message_range}
use Rattle.numbers.specs.Laws.Written.{Entries, entries_none, entries_more}
use Rattle.numbers.specs.Laws.Rounds.{Rounds, rounds_keep}

-- a word looks at its own entries
pub word_same : (q : Queues) {room p : ℕ} (len : ℕ) {first : ℕ} {t u : List ℕ} → ((k : ℕ) → k < first + room → get_or u k 0 ≡ get_or t k 0)
    → WordValid q room p len first t → WordValid q room p len first u
word_same q {p = p} len {first} same w =
    let n = w.most in
    record {
      most = n;
      word = λ j h. subst (OfQueue q p) (sym (same (first + j) (omega arith))) (w.word j h);
      below = λ j h. subst (λ x. x < q.sum) (sym (same (first + j) (omega arith))) (w.below j h);
      rest = λ j l h. same (first + j) (omega arith) ∙ w.rest j l h;
    }

-- what was read where nothing stood is a word of its queue
pub word_made : (q : Queues) (p : ℕ) {room len first : ℕ} {before x : List ℕ} → p < q.count → len ≤ room
    → Entries (λ k v. (first_message q.messages p ≤ v) × (v < first_message q.messages (suc p)) × (v < q.sum)) first (first + len) before x
    → ((k : ℕ) → first ≤ k → get_or before k 0 ≡ 0) → WordValid q room p len first x
word_made q p {first = first} h n z blank =
    record {
      most = n;
      word =
          λ j g.
          let r = z.each (first + j) (omega arith) (omega arith) in
          record { queue = h; from = r.0; below = r.1 };
      below = λ j g. (z.each (first + j) (omega arith) (omega arith)).2;
      rest = λ j l g. z.changed.over (first + j) (omega arith) ∙ blank (first + j) (omega arith);
    }

module _ (s : List ℕ) where
  pub word_rounds : (sum lo hi : ℕ) → Rounds (λ left j at x. read_word s at sum lo hi left j x) (λ j at x. read_message s at sum lo hi)
      (λ j v x. set x j v)
  unfolding read_word
  word_rounds sum lo hi = record { stop = λ i at x. refl; round = λ left i at x. refl }

  pub word_read : (sum lo hi len first at : ℕ) (before : List ℕ) {x : List ℕ} {next : ℕ} → first + len ≤ length before
      → read_word s at sum lo hi len first before ≡ got x next
      → Entries (λ k v. (lo ≤ v) × (v < hi) × (v < sum)) first (first + len) before x
  word_read sum lo hi len first at before {x} h e =
      (rounds_keep (word_rounds sum lo hi) (λ j t. (first ≤ j) × Entries (λ k v. (lo ≤ v) × (v < hi) × (v < sum)) first j before t)
      (first + len)
      (λ j at' t v next l f z. (
        omega (arith, z.0),
        entries_more (λ k w. (lo ≤ w) × (w < hi) × (w < sum)) z.0 (omega arith) z.1 (message_range s at' sum lo hi f),
      ))
      len first at before refl e (omega arith, entries_none (λ k w. (lo ≤ w) × (w < hi) × (w < sum)) first before)).1
