-- The numbers of a text are the messages of the tree that it spells, and within the limits there are few of them, each a message's.
use Rattle.std.specs.Prelude.{◌≡◌, refl, Bool, true, false, cond, List, [], ◌∷◌, ◌++◌, ℕ, zero, suc, ◌+◌, ◌-◌, ◌*◌, ◌≤◌, ◌<◌, length, get_or}
use Rattle.std.proofs.Common.{sym, ap, ap₂, ◌∙◌, append-nil, append_assoc, arith, zero-add, length-append}
use Rattle.std.proofs.Math.Seq.{append_snoc}
use Rattle.theory_model.specs.Laws.Basics.{false_not_true}
use Rattle.theory_model.specs.Laws.Decimals.{Decimal}
use Rattle.theory_grammar.specs.Tree.{Tree, letter, empty, sequence, either, star, letters, size}
use Rattle.theory_grammar.specs.Grammar.{Spaces, Digit, BeginsWithDigit, Apart, Kind, Spells, Text}
use Rattle.theory_grammar.specs.Parse.{is_digit}
use Rattle.theory_grammar.specs.Offends.{value_from, numbers_from, NumberBegins, Offends, most_occurrences, message_limit, kept, limits}
use Rattle.theory_grammar.specs.Laws.Signs.{is_digit_lem, digit_is, other_is, digit_byte, decimal_ends, spaces_apart, apart_first, apart_second}
use Rattle.theory_grammar.specs.Laws.Before.{ends_from, ends_is}
use Rattle.theory_grammar.specs.Laws.Limits.{limits_kept}

-- ONE NUMBER: its digits before any text
value_digit : {d : ℕ} → d < 10 → (n : ℕ) (v : List ℕ) → value_from n ((48 + d) ∷ v) ≡ value_from (n * 10 + d) v
value_digit {d} h n v =
    let e : 48 + d - 48 ≡ d = omega arith in
    rw (digit_is (48 + d) (digit_byte h), e)

value_end : (n : ℕ) (v : List ℕ) → (BeginsWithDigit v → ⊥) → value_from n v ≡ n
value_end n [] no_digit = refl
value_end n (b ∷ v) no_digit = rw (other_is b no_digit)

decimal_from : {n : ℕ} {u : List ℕ} → Decimal n u → (v : List ℕ) → value_from 0 (u ++ v) ≡ value_from n v
decimal_from (Decimal.digit {n = n} h) v = value_digit h 0 v ∙ ap (λ k. value_from k v) (zero-add n)
decimal_from (Decimal.more {n = n} {d = d} {u = u} p h r) v =
    ap (value_from 0) (append_snoc u (48 + d) v) ∙ decimal_from r ((48 + d) ∷ v) ∙ value_digit h n v

pub decimal_value : {n : ℕ} {u : List ℕ} (v : List ℕ) → Decimal n u → (BeginsWithDigit v → ⊥) → value_from 0 (u ++ v) ≡ n
decimal_value {n} v d no_digit = decimal_from d v ∙ value_end n v no_digit

numbers_decimal : {n : ℕ} {u : List ℕ} → Decimal n u → (v : List ℕ) → numbers_from false (u ++ v) ≡ value_from 0 (u ++ v) ∷ numbers_from true v
numbers_decimal (Decimal.digit {n = n} h) v = rw (digit_is (48 + n) (digit_byte h))
numbers_decimal (Decimal.more {n = n} {d = d} {u = u} p h r) v =
    rw (append_snoc u (48 + d) v) (numbers_decimal r ((48 + d) ∷ v) ∙ rw (digit_is (48 + d) (digit_byte h)))

-- where no digit follows, it does not matter whether one stands before
numbers_apart : (v : List ℕ) → (BeginsWithDigit v → ⊥) → numbers_from true v ≡ numbers_from false v
numbers_apart [] no_digit = refl
numbers_apart (b ∷ v) no_digit = rw (other_is b no_digit)

numbers_spaces : {w : List ℕ} → Spaces w → (v : List ℕ) → numbers_from false (w ++ v) ≡ numbers_from false v
numbers_spaces Spaces.none v = refl
numbers_spaces (Spaces.space s) v = numbers_spaces s v

-- A TREE'S MESSAGES
pub size_letters : (t : Tree) → size t ≡ length (letters t)
size_letters (letter m) = refl
size_letters empty = refl
size_letters (sequence a b) = ap₂ ◌+◌ (size_letters a) (size_letters b) ∙ sym (length-append (letters a) (letters b))
size_letters (either a b) = ap₂ ◌+◌ (size_letters a) (size_letters b) ∙ sym (length-append (letters a) (letters b))
size_letters (star a) = size_letters a

letters_then : (p q n : List ℕ) {x y : List ℕ} → x ≡ p ++ y → y ≡ q ++ n → x ≡ (p ++ q) ++ n
letters_then p q n e f = e ∙ ap (λ l. p ++ l) f ∙ sym (append_assoc p q n)

-- what a part of the grammar has, before whatever may follow
numbers_are : {k : Kind} {u : List ℕ} {t : Tree} → Spells k u t → (v : List ℕ) → Apart u v
    → numbers_from false (u ++ v) ≡ letters t ++ numbers_from false v
numbers_are (Spells.number {n = n} {u = u} {w = w} d s) v a =
    let no_digit = spaces_apart u v s (decimal_ends d) a in
    ap (numbers_from false) (append_assoc u w v)
    ∙ numbers_decimal d (w ++ v)
    ∙ ap₂ ◌∷◌ (decimal_value (w ++ v) d no_digit) (numbers_apart (w ++ v) no_digit ∙ numbers_spaces s v)
numbers_are (Spells.group {u = u} {v = x} {w = w} {t = t} b r s) v a =
    ap (numbers_from false) (append_assoc x (u ++ (41 ∷ w)) v ∙ ap (λ l. x ++ l) (append_assoc u (41 ∷ w) v))
    ∙ numbers_spaces b (u ++ (41 ∷ (w ++ v)))
    ∙ numbers_are r (41 ∷ (w ++ v)) (λ _ d. omega arith)
    ∙ ap (λ l. letters t ++ l) (numbers_spaces s v)
numbers_are (Spells.plain r) v a = numbers_are r v a
numbers_are (Spells.starred {u = u} {w = w} {t = t} r s) v a =
    ap (numbers_from false) (append_assoc u (42 ∷ w) v)
    ∙ numbers_are r (42 ∷ (w ++ v)) (λ _ d. omega arith)
    ∙ ap (λ l. letters t ++ l) (numbers_spaces s v)
numbers_are Spells.end v a = refl
numbers_are (Spells.next {u = u} {v = w} {x = x} {r = y} f b r) v a =
    ap (numbers_from false) (append_assoc u w v)
    ∙ letters_then (letters x) (letters y) (numbers_from false v) (numbers_are f (w ++ v) (apart_first u w v b a))
    (numbers_are r v (apart_second u w v a))
numbers_are (Spells.last r) v a = numbers_are r v a
numbers_are (Spells.or {u = u} {v = x} {w = w} {a = l} {r = y} f s r) v a =
    ap (numbers_from false) (append_assoc u (124 ∷ (x ++ w)) v ∙ ap (λ k. u ++ (124 ∷ k)) (append_assoc x w v))
    ∙ letters_then (letters l) (letters y) (numbers_from false v) (numbers_are f (124 ∷ (x ++ (w ++ v))) (λ _ d. omega arith))
    (numbers_spaces s (w ++ v)
    ∙ numbers_are r v (apart_second x w v (apart_second (124 ∷ []) (x ++ w) v (apart_second u (124 ∷ (x ++ w)) v a))))

-- THE NUMBERS OF A TEXT are the messages of its tree
pub letters_are : (s : List ℕ) (t : Tree) → Text s t → letters t ≡ numbers_from false s
letters_are s t x =
    sym
    (ap (numbers_from false) (x.whole ∙ ap (λ l. x.front ++ l) (sym (append-nil x.rest)))
    ∙ numbers_spaces x.spaces (x.rest ++ [])
    ∙ numbers_are x.spelled [] (λ _ d. d)
    ∙ append-nil (letters t))

-- WHERE EACH NUMBER BEGINS: number i, a digit being before the text if it is inside one
record Begun (inside : Bool) (s : List ℕ) (i : ℕ) : Type 0 where
  before : List ℕ
  first : ℕ
  after : List ℕ
  whole : s ≡ before ++ (first ∷ after)
  digit : Digit first
  alone : ends_from inside before ≡ false
  count : length (numbers_from inside before) ≡ i
  value : get_or (numbers_from inside s) i 0 ≡ value_from 0 (first ∷ after)

begun_before : (inside : Bool) (b : ℕ) (u : List ℕ) (i : ℕ) (one_more_lem : ℕ → ℕ)
    → ((v : List ℕ) → length (numbers_from inside (b ∷ v)) ≡ one_more_lem (length (numbers_from (is_digit b) v)))
    → get_or (numbers_from inside (b ∷ u)) (one_more_lem i) 0 ≡ get_or (numbers_from (is_digit b) u) i 0 → Begun (is_digit b) u i
    → Begun inside (b ∷ u) (one_more_lem i)
begun_before inside b u i one_more_lem counts values r =
    record {
      before = b ∷ r.before;
      first = r.first;
      after = r.after;
      whole = ap (λ l. b ∷ l) r.whole;
      digit = r.digit;
      alone = r.alone;
      count = counts r.before ∙ ap one_more_lem r.count;
      value = values ∙ r.value;
    }

begun : (inside : Bool) (s : List ℕ) (i : ℕ) → i < length (numbers_from inside s) → Begun inside s i
begun true [] i h = absurd (omega arith)
begun false [] i h = absurd (omega arith)
begun true (b ∷ u) i h = begun_before true b u i (λ n. n) (λ v. refl) refl (begun (is_digit b) u i h)
begun false (b ∷ u) i h = by (is_digit b) refl i h (λ k. begun (is_digit b) u k)
  where
    by : (t : Bool) → is_digit b ≡ t → (i : ℕ) → i < length (cond t (value_from 0 (b ∷ u) ∷ numbers_from true u) (numbers_from false u))
        → ((k : ℕ) → k < length (numbers_from (is_digit b) u) → Begun (is_digit b) u k) → Begun false (b ∷ u) i
    by true e zero h rest =
        record { before = []; first = b; after = u; whole = refl; digit = is_digit_lem b e; alone = refl; count = refl; value = rw e }
    by true e (suc i) h rest = begun_before false b u i suc (λ v. rw e) (rw e) (rest i (rw e (omega arith)))
    by false e i h rest = begun_before false b u i (λ n. n) (λ v. rw e) (rw e) (rest i (rw e h))

begun_number : {s : List ℕ} {i : ℕ} (r : Begun false s i) → NumberBegins s r.before r.after
begun_number r =
    record { first = r.first; whole = r.whole; digit = r.digit; alone = λ e. false_not_true r.alone (ends_is r.before e) }

-- WITHIN THE LIMITS a text has few numbers, and each is a message's
pub numbers_few : (s : List ℕ) → limits s ≡ kept → length (numbers_from false s) ≤ most_occurrences
numbers_few s e =
    let none : most_occurrences < length (numbers_from false s) → ⊥ =
    λ h. let r = begun false s most_occurrences h in (limits_kept s).0 e 21 _ (Offends.many (begun_number r) (omega (arith, r.count))) in
    omega arith

pub numbers_small : (s : List ℕ) → limits s ≡ kept → (i : ℕ) → i < length (numbers_from false s) → get_or (numbers_from false s) i 0 < message_limit
unfolding begun_number
numbers_small s e i h =
    let r = begun false s i h in
    let none : message_limit ≤ value_from 0 (r.first ∷ r.after) → ⊥ = λ v. (limits_kept s).0 e 5 _ (Offends.large (begun_number r) v) in
    omega (arith, r.value)

pub kept_bounds : (s : List ℕ) (t : Tree) → Text s t → limits s ≡ kept
    → (size t ≤ 32) × ((i : ℕ) → i < size t → get_or (letters t) i 0 < 32)
kept_bounds s t x e = rw (size_letters t, letters_are s t x) (numbers_few s e, numbers_small s e)
