-- Digits and messages that are put one after the other.
use Rattle.std.specs.Prelude.{ℕ, zero, suc, ◌+◌, ◌-◌, ◌/◌, ◌%◌, ◌≤◌, ◌<◌, ◌≡◌, refl, Bool, true, false, List, [], ◌∷◌, ◌++◌, length, get_or, drop, ltb}
use Rattle.std.proofs.Common.{sym, ap, subst, ◌∙◌, drop-cons, drop_of_length-le, add-one, lt-ltb, le-ltb, ltb-false, arith}
use Rattle.theory_model.specs.Line.{digits, spaced, spaced_all}
use Rattle.numbers.specs.Put.{Put}
use Rattle.numbers.specs.Laws.Put.{Left, left_put, left_end, put_then}

-- DIGITS
pub digits_none : (s : List ℕ) (at most n : ℕ) → most ≡ 0 → Put s at most (digits most n) s at
unfolding digits
digits_none s at most n e =
    subst (λ (m : ℕ). Put s at m (digits m n) s at) (sym e) (record { buffer = refl; next = omega arith; within = omega arith })

digits_one : (most n : ℕ) → (most ≡ 0 → ⊥) → n < 10 → digits most n ≡ (48 + n) ∷ []
unfolding digits
digits_one zero n z h = absurd (z refl)
digits_one (suc most) n z h = rw (lt-ltb n 10 h, digits)

digits_more : (most n : ℕ) → (most ≡ 0 → ⊥) → 10 ≤ n → digits most n ≡ digits (most - 1) (n / 10) ++ ((48 + n % 10) ∷ [])
unfolding digits
digits_more zero n z h = absurd (z refl)
digits_more (suc most) n z h =
    let e : most ≡ suc most - 1 = omega arith in
    rw (le-ltb n 10 h, digits) (ap (λ (k : ℕ). digits k (n / 10) ++ ((48 + n % 10) ∷ [])) e)

-- the last digit, and one digit more
module _ {s exit : List ℕ} {at most n b r : ℕ} where
  pub put_last : (most ≡ 0 → ⊥) → n < 10 → b ≡ 48 + n → Put s at 1 (b ∷ []) exit r → Put s at most (digits most n) exit r
  put_last z h e w =
      subst (λ (t : List ℕ). Put s at most t exit r) (ap (λ (d : ℕ). d ∷ []) e ∙ sym (digits_one most n z h))
      (record { buffer = w.buffer; next = w.next; within = omega (arith, w.within) })

  pub put_more : {mid : List ℕ} {p : ℕ} → (most ≡ 0 → ⊥) → 10 ≤ n → Put s at (most - 1) (digits (most - 1) (n / 10)) mid p → b ≡ 48 + n % 10
      → Put mid p 1 (b ∷ []) exit r → Put s at most (digits most n) exit r
  put_more z h a e w =
      subst (λ (t : List ℕ). Put s at most t exit r)
      (ap (λ (d : ℕ). digits (most - 1) (n / 10) ++ (d ∷ [])) e ∙ sym (digits_more most n z h))
      (put_then a w (omega arith))

-- MESSAGES, each a byte: three digits are enough
same_digits : (a b n : ℕ) → (10 ≤ n → digits a (n / 10) ≡ digits b (n / 10)) → digits (suc a) n ≡ digits (suc b) n
unfolding digits
same_digits a b n h = go (ltb n 10) refl
  where
    go : (t : Bool) → ltb n 10 ≡ t
        → ◌≡◌ {A = List ℕ} (elim t [ true ↦ (48 + n) ∷ [] | false ↦ digits a (n / 10) ++ ((48 + n % 10) ∷ []) ])
        (elim t [ true ↦ (48 + n) ∷ [] | false ↦ digits b (n / 10) ++ ((48 + n % 10) ∷ []) ])
    go true e = refl
    go false e = ap (λ (l : List ℕ). l ++ ((48 + n % 10) ∷ [])) (h (ltb-false n 10 e))

digits_three : (m : ℕ) → m < 1000 → digits 3 m ≡ digits 10 m
digits_three m h =
    same_digits 2 9 m (λ _. same_digits 1 8 (m / 10) (λ _. same_digits 0 7 (m / 10 / 10) (λ l. absurd (omega arith))))

messages_split : (l : List ℕ) (i : ℕ) → i < length l → spaced_all (drop i l) ≡ spaced (get_or l i 0) ++ spaced_all (drop (i + 1) l)
unfolding spaced_all
messages_split l i h =
    ap spaced_all (drop-cons l i 0 h) ∙ ap (λ (k : ℕ). spaced (get_or l i 0) ++ spaced_all (drop k l)) (sym (add-one i))

module _ (messages : List ℕ) {entry text now after : List ℕ} {at p q i m : ℕ} where
  pub left_message : i < length messages → Left entry at text now p (spaced_all (drop i messages)) → m ≡ get_or messages i 0 → m < 256
      → Put now p 4 (32 ∷ digits 3 m) after q → Left entry at text after q (spaced_all (drop (i + 1) messages))
  left_message h l e small w =
      let byte : 32 ∷ digits 3 m ≡ spaced (get_or messages i 0) = ap (λ (d : List ℕ). 32 ∷ d) (digits_three m (omega arith)) ∙ ap spaced e in
      left_put (spaced (get_or messages i 0)) (spaced_all (drop (i + 1) messages))
      (subst (Left entry at text now p) (messages_split messages i h) l) (subst (λ (u : List ℕ). Put now p 4 u after q) byte w)

pub left_messages : (messages : List ℕ) {entry text now : List ℕ} {at p i : ℕ} (most : ℕ) → length messages ≤ i → p ≤ at + most
    → Left entry at text now p (spaced_all (drop i messages)) → Put entry at most text now p
unfolding spaced_all
left_messages messages {entry} {text} {now} {at} {p} {i} most h w l =
    left_end most (subst (λ (rest : List ℕ). Left entry at text now p (spaced_all rest)) (drop_of_length-le messages h) l) w
