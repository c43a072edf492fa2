-- What the parse answers is spelled: read from the end, each byte puts one sign before what the rest of the text spells.
use Rattle.std.specs.Prelude.{◌≡◌, refl, List, [], ◌∷◌, ◌++◌, ℕ, zero, suc, ◌+◌, ◌*◌, ◌<◌}
use Rattle.std.proofs.Common.{sym, ap, subst, ◌∙◌, append-nil, append_assoc, arith}
use Rattle.std.proofs.Math.Option.{Option, none, some}
use Rattle.std.proofs.Math.Seq.{append_snoc}
use Rattle.theory_model.specs.Laws.Decimals.{Decimal}
use Rattle.theory_grammar.specs.Tree.{Tree, letter, empty, sequence, either, star}
use Rattle.theory_grammar.specs.Grammar.{Spaces, Digit, BeginsWithDigit, EndsInDigit, Apart, Kind, Spells, Text}
use Rattle.theory_grammar.specs.Parse.{Sign, Mode, fresh, digits, item, Frame, frame, state, settled, chain, choice, whole, step, parsed, run, parse}
use Rattle.theory_grammar.specs.Laws.Signs.{Reads, sign_reads, after_ends}
use Rattle.theory_grammar.specs.Laws.Running.{goes, run_step, stuck_not_parsed}

-- how a text goes on with the alternative at hand: behind what the mode stands for, v spells a
abbrev Goes : Mode → List ℕ → Tree → Type 0
Goes fresh v a = (w : List ℕ) × (r : List ℕ) × (v ≡ w ++ r) × Spaces w × Spells Kind.alternative r a
Goes (digits n) v a = (f : List ℕ) → Decimal n f → Spells Kind.alternative (f ++ v) a
Goes (item x) v a = (f : List ℕ) → Spells Kind.factor f x → Apart f v → Spells Kind.alternative (f ++ v) a

-- the alternatives behind the one at hand
data Others : List ℕ → Option Tree → Type 0 where
  no_more : Others [] none
  one_more_lem : {v : List ℕ} {y : Tree} → Text v y → Others (124 ∷ v) (some y)

abbrev joined : Tree → Option Tree → Tree
joined a none = a
joined a (some y) = either a y

-- the rest of the group at hand, which is the tree y in the end
record Group (ds is : List Tree) (m : Mode) (u : List ℕ) (y : Tree) : Type 0 where
  own : List ℕ
  others : List ℕ
  first : Tree
  further : Option Tree
  parts : u ≡ own ++ others
  goes_on : Goes m own first
  then : Others others further
  tree : y ≡ choice ds (joined (chain is first) further)

-- the rest of the text: of the group at hand, and of each that is open around it
abbrev Unread : List Frame → List Tree → List Tree → Mode → List ℕ → Tree → Type 0
Unread [] ds is m s t = Group ds is m s t
Unread (frame ds' is' ∷ fs) ds is m s t =
    (u : List ℕ) × (y : Tree) × (v : List ℕ) × (s ≡ u ++ (41 ∷ v)) × Group ds is m u y × Unread fs ds' is' (item y) v t

-- what is put before the group at hand is put before the text
unread_before : (p : List ℕ) {ds is ds' is' : List Tree} {m m' : Mode}
    → ((u : List ℕ) (y : Tree) → Group ds is m u y → Group ds' is' m' (p ++ u) y)
    → (fs : List Frame) (s : List ℕ) (t : Tree) → Unread fs ds is m s t → Unread fs ds' is' m' (p ++ s) t
unread_before p g [] s t r = g s t r
unread_before p g (frame a b ∷ fs) s t (u, y, v, e, q, r) =
    (p ++ u, y, v, ap (λ l. p ++ l) e ∙ sym (append_assoc p u (41 ∷ v)), g u y q, r)

group_before : (p : List ℕ) (k : Tree → Tree) {ds is is' : List Tree} {m m' : Mode}
    → ((v : List ℕ) (a : Tree) → Goes m v a → Goes m' (p ++ v) (k a)) → ((a : Tree) → chain is a ≡ chain is' (k a))
    → (u : List ℕ) (y : Tree) → Group ds is m u y → Group ds is' m' (p ++ u) y
group_before p k {ds} on same u y g =
    record {
      own = p ++ g.own;
      others = g.others;
      first = k g.first;
      further = g.further;
      parts = ap (λ l. p ++ l) g.parts ∙ sym (append_assoc p g.own g.others);
      goes_on = on g.own g.first g.goes_on;
      then = g.then;
      tree = g.tree ∙ ap (λ a. choice ds (joined a g.further)) (same g.first);
    }

-- FACTORS
number_alone : {n : ℕ} {f : List ℕ} → Decimal n f → Spells Kind.factor f (letter n)
number_alone {n} {f} d = subst (λ l. Spells Kind.factor l (letter n)) (append-nil f) (Spells.number d Spaces.none)

spaces_one_more : {w : List ℕ} → Spaces w → Spaces (w ++ (32 ∷ []))
spaces_one_more Spaces.none = Spaces.space Spaces.none
spaces_one_more (Spaces.space s) = Spaces.space (spaces_one_more s)

factor_space : {f : List ℕ} {x : Tree} → Spells Kind.factor f x → Spells Kind.factor (f ++ (32 ∷ [])) x
factor_space (Spells.number {u = u} {w = w} d s) = rw (append_assoc u w (32 ∷ [])) (Spells.number d (spaces_one_more s))
factor_space (Spells.group {u = u} {v = v} {w = w} a b s) =
    rw (append_assoc v (u ++ (41 ∷ w)) (32 ∷ []), append_assoc u (41 ∷ w) (32 ∷ [])) (Spells.group a b (spaces_one_more s))

-- a text in brackets
grouped : {u : List ℕ} {y : Tree} → Text u y → Spells Kind.factor (40 ∷ (u ++ (41 ∷ []))) y
grouped {u} {y} t =
    rw (t.whole, append_assoc t.front t.rest (41 ∷ [])) (Spells.group t.spaces t.spelled Spaces.none)

spaces_end : {w : List ℕ} (b : ℕ) → (Digit b → ⊥) → Spaces w → EndsInDigit (b ∷ w) → ⊥
spaces_end b n Spaces.none e = n e
spaces_end b n (Spaces.space s) e = spaces_end 32 (λ d. omega arith) s e

-- behind a sign that is no digit, and the spaces that it takes, anything may stand
apart_after : {w : List ℕ} (f : List ℕ) (b : ℕ) → (Digit b → ⊥) → Spaces w → (v : List ℕ) → Apart (f ++ (b ∷ w)) v
apart_after {w} f b n s v e _ = spaces_end b n s (after_ends f b w e)

-- THE MODES: what is whole before the text is its next item
abbrev settles : Mode → Tree → Tree
settles fresh a = a
settles (digits n) a = sequence (letter n) a
settles (item x) a = sequence x a

chain_settled : (is : List Tree) (m : Mode) (a : Tree) → chain (settled is m) a ≡ chain is (settles m a)
chain_settled is fresh a = refl
chain_settled is (digits n) a = refl
chain_settled is (item x) a = refl

goes_after : (m : Mode) (v : List ℕ) (a : Tree) → (BeginsWithDigit v → ⊥) → Spells Kind.alternative v a → Goes m v (settles m a)
goes_after fresh v a n s = ([], v, refl, Spaces.none, s)
goes_after (digits k) v a n s = λ f d. Spells.next (Spells.plain (number_alone d)) (λ _. n) s
goes_after (item x) v a n s = λ f g p. Spells.next (Spells.plain g) p s

-- a number may end before what is no digit
goes_number : {n : ℕ} (v : List ℕ) (a : Tree) → (BeginsWithDigit v → ⊥) → Goes (item (letter n)) v a → Goes (digits n) v a
goes_number v a n q = λ f d. q f (number_alone d) (λ _. n)

goes_digit : {n d : ℕ} → d < 10 → (v : List ℕ) (a : Tree) → Goes (digits (suc n * 10 + d)) v a → Goes (digits (suc n)) ((48 + d) ∷ v) a
goes_digit {n} {d} h v a q =
    λ f g. rw (append_snoc f (48 + d) v) at (q (f ++ ((48 + d) ∷ [])) (Decimal.more (omega arith) h g))

goes_spaces : (v : List ℕ) (a : Tree) → Goes fresh v a → Goes fresh (32 ∷ v) a
goes_spaces v a (w, r, e, s, q) = (32 ∷ w, r, ap (λ l. 32 ∷ l) e, Spaces.space s, q)

goes_space : {x : Tree} (v : List ℕ) (a : Tree) → Goes (item x) v a → Goes (item x) (32 ∷ v) a
goes_space v a q =
    λ f g p. rw (append_snoc f 32 v) at (q (f ++ (32 ∷ [])) (factor_space g) (apart_after f 32 (λ d. omega arith) Spaces.none v))

goes_star : {x : Tree} (v : List ℕ) (a : Tree) → Goes fresh v a → Goes (item x) (42 ∷ v) (sequence (star x) a)
goes_star {x} v a (w, r, e, s, q) =
    λ f g p.
    rw (e, ← append_assoc f (42 ∷ w) r) (Spells.next (Spells.starred g s) (apart_after f 42 (λ d. omega arith) s r) q)

-- THE SIGNS: each takes the rest of the text one byte further to the left
group_ends : (ds is : List Tree) (m : Mode) → Group ds is m [] (whole ds is m)
group_ends ds is m =
    record {
      own = [];
      others = [];
      first = settles m empty;
      further = none;
      parts = refl;
      goes_on = goes_after m [] empty (λ b. b) Spells.end;
      then = no_more;
      tree = ap (choice ds) (chain_settled is m empty);
    }

alternatives_are : {r o : List ℕ} {a : Tree} {y : Option Tree} → Spells Kind.alternative r a → Others o y
    → Spells Kind.alternatives (r ++ o) (joined a y)
alternatives_are {r} s no_more = rw (append-nil r) (Spells.last s)
alternatives_are s (one_more_lem t) = rw t.whole (Spells.or s t.spaces t.spelled)

group_text : {ds : List Tree} {u : List ℕ} {y : Tree} (g : Group ds [] fresh u y) → Text u (joined g.first g.further)
group_text g =
    let (w, r, e, s, a) = g.goes_on in
    record {
      front = w;
      rest = r ++ g.others;
      whole = g.parts ∙ ap (λ l. l ++ g.others) e ∙ append_assoc w r g.others;
      spaces = s;
      spelled = alternatives_are a g.then;
    }

group_bar : (ds is : List Tree) (m : Mode) (u : List ℕ) (y : Tree) → Group (chain (settled is m) empty ∷ ds) [] fresh u y
    → Group ds is m (124 ∷ u) y
group_bar ds is m u y g =
    record {
      own = [];
      others = 124 ∷ u;
      first = settles m empty;
      further = some (joined g.first g.further);
      parts = refl;
      goes_on = goes_after m [] empty (λ b. b) Spells.end;
      then = one_more_lem (group_text g);
      tree = g.tree ∙ ap (λ a. choice ds (either a (joined g.first g.further))) (chain_settled is m empty);
    }

unread_opening : (fs : List Frame) (ds is : List Tree) (m : Mode) (s : List ℕ) (t : Tree)
    → Unread (frame ds (settled is m) ∷ fs) [] [] fresh s t → Unread fs ds is m (40 ∷ s) t
unread_opening fs ds is m s t (u, y, v, e, g, r) =
    let group : List ℕ = 40 ∷ (u ++ (41 ∷ [])) in
    let spelled : Spells Kind.factor group y = rw g.tree (grouped (group_text g)) in
    let before = unread_before group
    (group_before group (settles m)
    (λ w a q. goes_after m (group ++ w) a (λ d. omega arith) (q group spelled (apart_after (40 ∷ u) 41 (λ d. omega arith) Spaces.none w)))
    (chain_settled is m))
    fs v t r in
    subst (λ l. Unread fs ds is m (40 ∷ l) t) (append_snoc u 41 v ∙ sym e) before

-- one byte before the alternative at hand
group_byte : (b : ℕ) (k : Tree → Tree) {ds is is' : List Tree} {m m' : Mode}
    → ((v : List ℕ) (a : Tree) → Goes m v a → Goes m' (b ∷ v) (k a)) → ((a : Tree) → chain is a ≡ chain is' (k a))
    → (u : List ℕ) (y : Tree) → Group ds is m u y → Group ds is' m' (b ∷ u) y
group_byte b k on same = group_before (b ∷ []) k on same

module _ (s : List ℕ)
    (rest : (fs : List Frame) (ds is : List Tree) (m : Mode) (t : Tree) → run s (state fs ds is m) ≡ parsed t → Unread fs ds is m s t) where
  unread_byte : {b : ℕ} {ds is ds' is' : List Tree} {m m' : Mode}
      → ((u : List ℕ) (y : Tree) → Group ds is m u y → Group ds' is' m' (b ∷ u) y)
      → (fs : List Frame) (t : Tree) → run s (state fs ds is m) ≡ parsed t → Unread fs ds' is' m' (b ∷ s) t
  unread_byte {b} {ds} {is} {m = m} g fs t e = unread_before (b ∷ []) g fs s t (rest fs ds is m t e)

  unread_sign : {b : ℕ} {g : Sign} → Reads b g → (fs : List Frame) (ds is : List Tree) (m : Mode) (t : Tree)
      → goes (step g (state fs ds is m)) s ≡ parsed t → Unread fs ds is m (b ∷ s) t
  unread_sign Reads.space fs ds is fresh t e = unread_byte (group_byte 32 (λ a. a) goes_spaces (λ a. refl)) fs t e
  unread_sign Reads.space fs ds is (digits n) t e =
      unread_byte (group_byte 32 (λ a. a) (λ v a q. goes_number (32 ∷ v) a (λ d. omega arith) (goes_space v a q)) (λ a. refl)) fs t e
  unread_sign Reads.space fs ds is (item x) t e = unread_byte (group_byte 32 (λ a. a) goes_space (λ a. refl)) fs t e
  unread_sign (Reads.digit {d = d} h) fs ds is fresh t e =
      unread_byte (group_byte (48 + d) (λ a. a) (λ v a q. ([], (48 + d) ∷ v, refl, Spaces.none, q _ (Decimal.digit h))) (λ a. refl)) fs t e
  unread_sign (Reads.digit {d = d} h) fs ds is (item x) t e =
      unread_byte (group_byte (48 + d) (sequence x) (λ v a q f g p. Spells.next (Spells.plain g) p (q _ (Decimal.digit h))) (λ a. refl)) fs t e
  unread_sign (Reads.digit h) fs ds is (digits zero) t e = stuck_not_parsed refl e
  unread_sign (Reads.digit {d = d} h) fs ds is (digits (suc n)) t e = unread_byte (group_byte (48 + d) (λ a. a) (goes_digit h) (λ a. refl)) fs t e
  unread_sign Reads.opening fs ds is m t e = unread_opening fs ds is m s t (rest (frame ds (settled is m) ∷ fs) [] [] fresh t e)
  unread_sign Reads.closing [] ds is m t e = stuck_not_parsed refl e
  unread_sign Reads.closing (frame ds' is' ∷ fs) ds is m t e =
      ([], whole ds is m, s, refl, group_ends ds is m, rest fs ds' is' (item (whole ds is m)) t e)
  unread_sign Reads.bar fs ds is m t e = unread_byte (group_bar ds is m) fs t e
  unread_sign Reads.times fs ds is fresh t e = stuck_not_parsed refl e
  unread_sign Reads.times fs ds is (digits n) t e =
      unread_byte
      (group_byte 42 (sequence (star (letter n)))
      (λ v a q. goes_number (42 ∷ v) (sequence (star (letter n)) a) (λ d. omega arith) (goes_star v a q)) (λ a. refl))
      fs t e
  unread_sign Reads.times fs ds is (item x) t e = unread_byte (group_byte 42 (sequence (star x)) goes_star (λ a. refl)) fs t e
  unread_sign Reads.other fs ds is m t e = stuck_not_parsed refl e

unread : (s : List ℕ) (fs : List Frame) (ds is : List Tree) (m : Mode) (t : Tree) → run s (state fs ds is m) ≡ parsed t → Unread fs ds is m s t
unfolding run
unread [] [] ds is m t e = let same : whole ds is m ≡ t = cc in rw (← same) (group_ends ds is m)
unread [] (f ∷ fs) ds is m t e = stuck_not_parsed refl e
unread (b ∷ s) fs ds is m t e = unread_sign s (unread s) (sign_reads b) fs ds is m t (sym (run_step b s (state fs ds is m)) ∙ e)

-- THE PARSE IS RIGHT
pub parsed_spelled : (s : List ℕ) (t : Tree) → parse s ≡ parsed t → Text s t
parsed_spelled s t e = let g = unread s [] [] [] fresh t e in rw g.tree (group_text g)
