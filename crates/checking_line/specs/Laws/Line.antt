-- The words and numbers of a line, put one after the other, are the line; and what the buffer then holds.
use Rattle.std.specs.Prelude.{ℕ, ◌+◌, ◌*◌, ◌≤◌, ◌≡◌, refl, Bool, true, false, ◌&&◌, List, [], ◌∷◌, ◌++◌, length, take, drop, leb, Result}
use Rattle.std.proofs.Common.{sym, ap, subst, ◌∙◌, take_at, leb-true, le-leb, arith, zero-add}
use Rattle.theory_model.specs.Verdict.{closed, outside, leaves, bad}
use Rattle.theory_model.specs.Line.{spaced, spaced_all, listed, newline, closed_word, outside_word, leaves_word, bad_word, refused_word, at_word, line, refused_line}
use Rattle.theory_model.specs.Laws.Basics.{and_is}
use Rattle.theory_files.specs.Reply.{line_of}
use Rattle.numbers.specs.Put.{Put}
use Rattle.numbers.specs.Laws.Put.{put_then, put_front}
use Rattle.verdicts.specs.Said.{said_verdict, shown_in}
use Rattle.verdicts.specs.declared.verdict.Verdict.{Verdict}
use Rattle.verdicts.specs.declared.verdict.CheckRefusal.{CheckRefusal}
use Rattle.checking_line.specs.Said.{holds, LineRoom, given, Lined, PutsLine, Writes}
use Rattle.tables.specs.Limits.{contents_least}

-- ROOM
pub room_is : (room contents shown : ℕ) → holds room contents shown ≡ true → (shown ≤ contents) × (4 * shown + 52 ≤ room)
room_is room contents shown e =
    let (a, d) = and_is (leb shown contents) (leb shown contents_least && leb (4 * shown + 52) room) e in
    let (b, c) = and_is (leb shown contents_least) (leb (4 * shown + 52) room) d in
    (leb-true shown contents a, leb-true (4 * shown + 52) room c)

-- what the test says where it holds, and where it does not
module _ {room contents shown : ℕ} {r : Bool} (found : LineRoom room contents shown r) where
  pub enough : r ≡ true → holds room contents shown ≡ true
  enough e = sym found.is ∙ e

  pub bounds : r ≡ true → (shown ≤ contents) × (4 * shown + 52 ≤ room)
  bounds e = room_is room contents shown (enough e)

  pub little : r ≡ false → holds room contents shown ≡ false
  little e = sym found.is ∙ e

module _ (contents : List ℕ) (shown : ℕ) {entry text : List ℕ} where
  pub lined : {exit : List ℕ} {r : ℕ} (most : ℕ) → holds (length entry) (length contents) shown ≡ true → Put entry 0 most text exit r
      → most ≤ length entry → Lined entry contents shown text exit r
  lined {exit} {r} most e w h =
      let all = put_front w (omega (arith, w.next, w.within)) in
      let some = ap (λ b. given b text) e in
      record {
        reply = w.next ∙ zero-add (length text) ∙ sym (ap length some);
        buffer = subst (λ (t : List ℕ). exit ≡ t ++ drop (length t) entry) (sym some) all;
      }

  pub lined_none : holds (length entry) (length contents) shown ≡ false → Lined entry contents shown text entry 0
  lined_none e =
      let none = ap (λ b. given b text) e in
      record {
        reply = sym (ap length none);
        buffer = subst (λ (t : List ℕ). entry ≡ t ++ drop (length t) entry) (sym none) refl;
      }

-- THE MESSAGES
pub put_listed : (messages : List ℕ) {a b c : List ℕ} {at p r : ℕ} → Put a at 1 (58 ∷ []) b p
    → Put b p (4 * length messages) (spaced_all messages) c r → Put a at (1 + 4 * length messages) (listed messages) c r
put_listed messages x y = put_then x y (omega arith)

-- THE LINES
module _ {a b c d : List ℕ} {p q r : ℕ} where
  pub put_closed : (n : ℕ) → Put a 0 6 closed_word b p → Put b p 11 (spaced n) c q → Put c q 1 newline d r → Put a 0 18 (line (closed n)) d r
  unfolding line
  put_closed n x y z = put_then x (put_then {most = 12} y z (omega arith)) (omega arith)

pub put_outside : {a b c : List ℕ} {p r : ℕ} → Put a 0 7 outside_word b p → Put b p 1 newline c r → Put a 0 8 (line outside) c r
unfolding line
put_outside x y = put_then x y (omega arith)

module _ {a b c d e f : List ℕ} {p q s t r : ℕ} where
  pub put_refused : (k n : ℕ) → Put a 0 7 refused_word b p → Put b p 11 (spaced k) c q → Put c q 3 at_word d s → Put d s 11 (spaced n) e t
      → Put e t 1 newline f r → Put a 0 33 (refused_line k n) f r
  unfolding refused_line
  put_refused k n u v w x y =
      put_then u (put_then {most = 26} v (put_then {most = 15} w (put_then {most = 12} x y (omega arith)) (omega arith)) (omega arith)) (omega arith)

  pub put_bad : (number : ℕ) (shown : List ℕ) → Put a 0 3 bad_word b p → Put b p 11 (spaced number) c q
      → Put c q 11 (spaced (length shown)) d s → Put d s (1 + 4 * length shown) (listed shown) e t → Put e t 1 newline f r
      → Put a 0 (4 * length shown + 27) (line (bad number shown)) f r
  unfolding line
  put_bad number shown u v w x y =
      put_then u
      (put_then {most = 4 * length shown + 24} v
      (put_then {most = 4 * length shown + 13} w (put_then {most = 4 * length shown + 2} x y (omega arith)) (omega arith)) (omega arith))
      (omega arith)

module _ {a b c d e g k l : List ℕ} {p q s t n o r : ℕ} where
  pub put_leaves : (control transition : ℕ) (shown : List ℕ) (far : ℕ) → Put a 0 6 leaves_word b p
      → Put b p 11 (spaced control) c q → Put c q 11 (spaced transition) d s → Put d s 11 (spaced (length shown)) e t
      → Put e t 11 (spaced far) g n → Put g n (1 + 4 * length shown) (listed shown) k o → Put k o 1 newline l r
      → Put a 0 (4 * length shown + 52) (line (leaves control transition shown far)) l r
  unfolding line
  put_leaves control transition shown far u v w x y z end =
      put_then u
      (put_then {most = 4 * length shown + 46} v
      (put_then {most = 4 * length shown + 35} w
      (put_then {most = 4 * length shown + 24} x
      (put_then {most = 4 * length shown + 13} y (put_then {most = 4 * length shown + 2} z end (omega arith)) (omega arith)) (omega arith)) (omega arith))
      (omega arith))
      (omega arith)

-- THE LINE of what a check answers, where there is room for it and where there is none
module _ {entry contents : List ℕ} {v : Result Verdict CheckRefusal} {n : ℕ} {t : Bool} where
  pub writes : {exit : List ℕ} {r : ℕ} → n ≡ shown_in v → LineRoom (length entry) (length contents) n t → t ≡ true
      → PutsLine entry v contents exit r → Writes entry v contents exit r
  writes shown room e w =
      let there = ap (holds (length entry) (length contents)) (sym shown) ∙ enough room e in
      record { line = lined contents (shown_in v) (4 * shown_in v + 52) there w.put (omega (arith, shown, (bounds room e).1)) }

  pub writes_none : n ≡ shown_in v → LineRoom (length entry) (length contents) n t → t ≡ false → Writes entry v contents entry 0
  writes_none shown room e =
      record { line = lined_none contents (shown_in v) (ap (holds (length entry) (length contents)) (sym shown) ∙ little room e) }

-- WHAT A CALLER HAS where there is room: the front of the buffer is the line
pub room_for : (room contents shown : ℕ) → shown ≤ contents → shown ≤ contents_least → 4 * shown + 52 ≤ room → holds room contents shown ≡ true
room_for room contents shown a b c = rw (le-leb shown contents a, le-leb shown contents_least b, le-leb (4 * shown + 52) room c)

pub written : {entry contents exit : List ℕ} {v : Result Verdict CheckRefusal} {r : ℕ} → Writes entry v contents exit r
    → holds (length entry) (length contents) (shown_in v) ≡ true
    → (r ≡ length (line_of (said_verdict v contents))) × (take r exit ≡ line_of (said_verdict v contents))
written {entry} {contents} {exit} {v} {r} w e =
    let text = line_of (said_verdict v contents) in
    let some = ap (λ b. given b text) e in
    let long : r ≡ length text = w.line.reply ∙ ap length some in
    let whole : exit ≡ text ++ drop (length text) entry =
    subst (λ (t : List ℕ). exit ≡ t ++ drop (length t) entry) some w.line.buffer
    in
    (long, ap (take r) whole ∙ take_at text (drop (length text) entry) r (sym long))
