-- The loops over a ring, turn by turn: a word is put, and asked for.
use Rattle.std.specs.Prelude.{ℕ, suc, ◌+◌, ◌-◌, ◌%◌, ◌≤◌, ◌<◌, ◌≡◌, refl, Bool, true, false, List, [], ◌∷◌, eqb, length, set, drop}
use Rattle.std.proofs.Common.{sym, ap₂, ◌∙◌, true≢false, add-zero, sub-eq-zero_of_le, drop-cons, eq-eqb, ne_eqb}
use Rattle.std.proofs.Math.Path.{ap}
use Rattle.std.proofs.Math.Option.{Option, none, some}
use native.Mathlib.Omega.{arith}
use Rattle.std.proofs.Math.Nat.{sub-zero}
use Rattle.std.proofs.Math.ListN.{get_or, length-set, drop_of_length-le}
use Rattle.numbers.specs.Laws.Parts.{one_more_lem}
use Rattle.theory_replay.specs.Rules.{room}
use Rattle.theory_model.specs.Model.{strip}
use Rattle.theory_model.specs.Laws.Basics.{by_test}
use Rattle.following.specs.Standing.{standing}
use Rattle.replaying_queues.specs.Ring.{waiting, put_round, began}
use Rattle.replaying_queues.specs.Laws.Waiting.{waiting_length}

-- WHAT IS LEFT of the messages that wait
abbrev pub waiting_from : List ℕ → ℕ → ℕ → ℕ → ℕ → List ℕ
waiting_from mem base head n i = waiting mem base (head + i) (n - i)

module _ (mem : List ℕ) (base head n : ℕ) where
  pub waiting_begin : waiting mem base head n ≡ waiting_from mem base head n 0
  waiting_begin = rw (add-zero, sub-zero)

  pub waiting_next : {i : ℕ} → i < n
      → waiting_from mem base head n i ≡ get_or mem (base + (head + i) % room) 0 ∷ waiting_from mem base head n (i + 1)
  unfolding standing
  waiting_next {i} h =
      ap (waiting mem base (head + i)) (one_more_lem h)
      ∙ ap (λ k. get_or mem (base + (head + i) % room) 0 ∷ waiting mem base k (n - (i + 1))) (let z : head + i + 1 ≡ head + (i + 1) = omega arith in z)

  pub waiting_end : {i : ℕ} → n ≤ i → waiting_from mem base head n i ≡ []
  unfolding standing
  waiting_end h = rw (sub-eq-zero_of_le h)

-- WHAT IS LEFT of a word
module _ (w : List ℕ) where
  pub word_next : {i : ℕ} → i < length w → drop i w ≡ get_or w i 0 ∷ drop (i + 1) w
  word_next {i} h = drop-cons w i 0 h ∙ ap (λ k. get_or w i 0 ∷ drop k w) (let z : suc i ≡ i + 1 = omega arith in z)

  pub word_end : {i : ℕ} → length w ≤ i → drop i w ≡ []
  word_end h = drop_of_length-le w h

  pub word_one : length w ≡ 1 → w ≡ get_or w 0 0 ∷ []
  word_one e = word_next {i = 0} (omega arith) ∙ ap (λ l. get_or w 0 0 ∷ l) (word_end {i = 1} (omega arith))

-- A WORD IS PUT
pub record Putting (mem₀ : List ℕ) (base from : ℕ) (w mem : List ℕ) (p : ℕ) (rest : List ℕ) : Type 0 where
  pub is : put_round mem base p rest ≡ put_round mem₀ base from w
  pub long : length mem ≡ length mem₀

pub put_begin : (mem : List ℕ) (base from : ℕ) {w v : List ℕ} → w ≡ v → Putting mem base from w mem (from + 0) v
put_begin mem base from e = record { is = ap₂ (put_round mem base) (add-zero from) (sym e); long = refl }

pub put_one : (mem : List ℕ) (base from : ℕ) {m : ℕ} {w : List ℕ} → w ≡ m ∷ [] → set mem (base + from % room) m ≡ put_round mem base from w
unfolding put_round
put_one mem base from e = ap (put_round mem base from) (sym e)

module _ {mem₀ mem w v : List ℕ} {base from p : ℕ} (t : Putting mem₀ base from w mem p v) where
  pub put_next : {m : ℕ} {rest : List ℕ} {p' : ℕ} → v ≡ m ∷ rest → p' ≡ p + 1 → Putting mem₀ base from w (set mem (base + p % room) m) p' rest
  unfolding put_round
  put_next {m} {rest} e next =
      record {
        is = ap (λ k. put_round (set mem (base + p % room) m) base k rest) next ∙ ap (put_round mem base p) (sym e) ∙ t.is;
        long = length-set mem (base + p % room) m ∙ t.long;
      }

  pub put_end : v ≡ [] → mem ≡ put_round mem₀ base from w
  unfolding put_round
  put_end e = ap (put_round mem base p) (sym e) ∙ t.is

-- A WORD IS ASKED FOR: v is left of it, and r of the queue
pub record Asking (w q v r : List ℕ) : Type 0 where
  pub is : strip v r ≡ strip w q

ask_begin : {w q v r : List ℕ} → w ≡ v → q ≡ r → Asking w q v r
ask_begin e f = record { is = sym (ap₂ strip e f) }

module _ {w q v r : List ℕ} (t : Asking w q v r) where
  ask_next : {m n : ℕ} {v' r' : List ℕ} → v ≡ m ∷ v' → r ≡ n ∷ r' → n ≡ m → Asking w q v' r'
  ask_next {m} {n} {v'} {r'} e f same =
      record { is = sym (ap₂ strip e f ∙ rw (eq-eqb m n (sym same), strip)) ∙ t.is }

  ask_differs : {m n : ℕ} {v' r' : List ℕ} → v ≡ m ∷ v' → r ≡ n ∷ r' → (n ≡ m → ⊥) → false ≡ began (strip w q)
  ask_differs {m} {n} {v'} {r'} e f other =
      let gone : strip (m ∷ v') (n ∷ r') ≡ none = rw (ne_eqb m n (λ s. other (sym s)), strip) in
      sym (ap began (sym t.is ∙ ap₂ strip e f ∙ gone))

  ask_end : v ≡ [] → true ≡ began (strip w q)
  ask_end e = sym (ap began (sym t.is ∙ ap (λ l. strip l r) e))

-- THE SAME where the loop goes on after a message that differs, and keeps whether there was none
pub record Asked (same : Bool) (w q v r : List ℕ) : Type 0 where
  pub yes : same ≡ true → Asking w q v r
  pub no : same ≡ false → false ≡ began (strip w q)

pub asked_begin : {w q v r : List ℕ} → w ≡ v → q ≡ r → Asked true w q v r
asked_begin e f = record { yes = λ _. ask_begin e f; no = λ s. absurd (true≢false s) }

module _ {w q v r : List ℕ} {m n : ℕ} {v' r' : List ℕ} (e : v ≡ m ∷ v') (f : r ≡ n ∷ r') where
  pub asked_same : {b b' : Bool} → Asked b w q v r → n ≡ m → b' ≡ b → Asked b' w q v' r'
  asked_same t same s = record { yes = λ u. ask_next (t.yes (sym s ∙ u)) e f same; no = λ u. t.no (sym s ∙ u) }

  pub asked_other : (b : Bool) {b' : Bool} → Asked b w q v r → (n ≡ m → ⊥) → b' ≡ false → Asked b' w q v' r'
  asked_other true t other s = record { yes = λ u. absurd (true≢false (sym u ∙ s)); no = λ _. ask_differs (t.yes refl) e f other }
  asked_other false t other s = record { yes = λ u. absurd (true≢false (sym u ∙ s)); no = λ _. t.no refl }

pub asked_end : (b : Bool) {w q v r : List ℕ} → Asked b w q v r → v ≡ [] → b ≡ began (strip w q)
asked_end true t e = ask_end (t.yes refl) e
asked_end false t e = t.no refl

-- a word of one message is the first that waits
pub ask_one : {w q r : List ℕ} {m n : ℕ} → w ≡ m ∷ [] → q ≡ n ∷ r → eqb m n ≡ began (strip w q)
ask_one {w} {q} {r} {m} {n} e f = first (eqb m n) refl ∙ sym (ap began (ap₂ strip e f))
  where
    first : (b : Bool) → eqb m n ≡ b → eqb m n ≡ began (strip (m ∷ []) (n ∷ r))
    first true t = rw (t, strip)
    first false t = rw (t, strip)

-- a queue shorter than the word does not begin with it
strip_short : (w q : List ℕ) → length q < length w → strip w q ≡ none
strip_short [] q h = absurd (omega arith)
strip_short (m ∷ w) [] h = refl
strip_short (m ∷ w) (n ∷ q) h = by_test (eqb m n) (λ t. rw (t, strip) (strip_short w q (omega arith))) (λ f. rw (f, strip))

pub ask_short : (mem : List ℕ) (base head count : ℕ) (w : List ℕ) → count < length w → false ≡ began (strip w (waiting mem base head count))
ask_short mem base head count w short =
    sym (ap began (strip_short w (waiting mem base head count) (omega (arith, waiting_length mem base head count))))

-- a queue begins with a word where what is left of it can be said
pub began_some : (o : Option (List ℕ)) → true ≡ began o → (r : List ℕ) × (o ≡ some r)
began_some none e = let z : ◌≡◌ {A = ℕ} 0 1 = cc in absurd (omega arith)
began_some (some r) e = (r, refl)

pub began_none : (o : Option (List ℕ)) → false ≡ began o → o ≡ none
began_none none e = refl
began_none (some r) e = let z : ◌≡◌ {A = ℕ} 0 1 = cc in absurd (omega arith)
