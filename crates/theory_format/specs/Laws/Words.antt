-- A word that is read is the word that stands there: of a transition, or waiting in a queue at the start.
use Rattle.std.specs.Prelude.{ℕ, suc, ◌+◌, ◌-◌, ◌≤◌, ◌<◌, ◌≡◌, refl, List, length, ltb, leb}
use Rattle.std.proofs.Math.Path.{subst}
use Rattle.std.proofs.Common.{◌∙◌}
use Rattle.std.proofs.Math.ListN.{get_or}
use borrow.Author.Tests.{lt-ltb, le-leb}
use native.Mathlib.Omega.{arith}
use Rattle.tables.specs.Queues.{first_message}
use Rattle.tables.specs.Valid.{WordValid}
use Rattle.tables.specs.declared.tables.Queues.{Queues}
use Rattle.numbers.specs.Part.{got}
use Rattle.numbers.specs.Number.{read_below}
use Rattle.numbers.specs.Laws.Parts.{provided_got, and_then_got}
use Rattle.reading_model.specs.Words.{read_message, read_word}
use Rattle.reading_model.specs.Laws.Words.{word_rounds}
use Rattle.theory_format.specs.Readable.{Bytes}
use Rattle.theory_format.specs.Spelled.{number, entries}
use Rattle.theory_format.specs.Laws.Here.{Here}
use Rattle.theory_format.specs.Laws.Fronts.{Begun, Front, front_zeros}
use Rattle.theory_format.specs.Laws.Numbers.{below_forth, below_back}
use Rattle.theory_format.specs.Laws.Loops.{entries_forth, entries_back}

module _ (s : List ℕ) (bytes : Bytes s) (sum lo hi : ℕ) where
  message_forth : (at v next : ℕ) → read_message s at sum lo hi ≡ got v next → Here s at (number v) next
  unfolding read_message
  message_forth at v next e =
      let t = and_then_got (read_below s at sum) e in
      let g = provided_got (leb lo t.value) 7 at _ t.then in
      let h = provided_got (ltb t.value hi) 7 at (got t.value t.place) g.1 in
      below_forth s bytes at sum (t.first ∙ h.1)

  -- from its end back, as the last table has it
  pub word_forth : (last : List ℕ) (len first : ℕ) → first + len ≤ length last → (at : ℕ) (table : List ℕ) {x : List ℕ} {next : ℕ}
      → read_word s at sum lo hi len first table ≡ got x next → Begun last (first + len) x
      → Begun last first table × Here s at (entries last len first) next
  word_forth last len first long at table e b =
      entries_forth s (word_rounds s sum lo hi) (λ z. z) (λ i v z. refl) (first + len) last long (λ i a z. message_forth a) len first at
      table refl e b

-- so many entries from one on are messages from lo on, below hi and below the sum; the others of the word's room are 0
pub record Word (last : List ℕ) (sum lo hi room len first : ℕ) : Type 0 where
  pub most : len ≤ room
  pub messages : (j : ℕ) → j < len → (lo ≤ get_or last (first + j) 0) × (get_or last (first + j) 0 < hi) × (get_or last (first + j) 0 < sum)
  pub rest : (j : ℕ) → len ≤ j → j < room → get_or last (first + j) 0 ≡ 0

pub word_of : (q : Queues) {room p first : ℕ} (len : ℕ) (last : List ℕ) → WordValid q room p len first last
    → Word last q.sum (first_message q.messages p) (first_message q.messages (suc p)) room len first
word_of q len last w =
    record { most = w.most; messages = λ j h. let o = w.word j h in (o.from, o.below, w.below j h); rest = w.rest }

pub word_rest : {last : List ℕ} {sum lo hi room len first : ℕ} → Word last sum lo hi room len first → (k : ℕ) → first + len ≤ k
    → k < first + room → get_or last k 0 ≡ 0
word_rest {last} {first = first} w k l h = subst (λ j. get_or last j 0 ≡ 0) (omega arith) (w.rest (k - first) (omega arith) (omega arith))

module _ (s last : List ℕ) {sum lo hi room : ℕ} (few : sum ≤ 16384) (len first : ℕ) (long : first + room ≤ length last)
    (word : Word last sum lo hi room len first) where
  message_back : (i at : ℕ) {next : ℕ} → first ≤ i → i < first + len → Here s at (number (get_or last i 0)) next
      → read_message s at sum lo hi ≡ got (get_or last i 0) next
  unfolding read_message
  message_back i at l g h =
      let same : first + (i - first) ≡ i = omega arith in
      let v =
      subst (λ k. (lo ≤ get_or last k 0) × (get_or last k 0 < hi) × (get_or last k 0 < sum)) same (word.messages (i - first) (omega arith))
      in
      rw (below_back s at sum (get_or last i 0) v.2 few h, le-leb lo (get_or last i 0) v.0, lt-ltb (get_or last i 0) hi v.1)

  -- forwards, with what follows it up to the end of its room
  pub word_back : (end at : ℕ) (table : List ℕ) {next : ℕ} → first + room ≡ end → Front last first table
      → Here s at (entries last len first) next → (x : List ℕ) × (read_word s at sum lo hi len first table ≡ got x next) × Front last end x
  word_back end at table whole f h =
      let n = word.most in
      let w =
      entries_back s (word_rounds s sum lo hi) (λ z. z) (λ i v z. refl) (first + len) last (omega arith) (λ i z. first ≤ i)
      (λ i a z p l g e. (message_back i a g l e, omega arith)) len first at table refl f (omega arith) h
      in
      (w.last, w.reads, front_zeros {t = w.last} end (omega arith) (λ k l g. word_rest word k l (omega arith)) w.holds.0)
