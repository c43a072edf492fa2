-- What a text spells is what the parse answers: each part of the grammar is read from any stack, whatever follows that may follow it.
use Rattle.std.specs.Prelude.{◌≡◌, refl, List, [], ◌∷◌, ◌++◌, ℕ, suc, ◌+◌, ◌<◌}
use Rattle.std.proofs.Common.{sym, ap, ◌∙◌, append-nil, append_assoc, arith}
use Rattle.std.proofs.Math.Seq.{append_snoc}
use Rattle.theory_model.specs.Laws.Decimals.{Decimal}
use Rattle.theory_grammar.specs.Tree.{Tree, letter, empty, sequence, either, star}
use Rattle.theory_grammar.specs.Grammar.{Spaces, BeginsWithDigit, Apart, Kind, Spells, Text}
use Rattle.theory_grammar.specs.Parse.{Sign, Mode, fresh, digits, item, Frame, frame, State, state, settled, chain, choice, whole, step, parsed, run, parse}
use Rattle.theory_grammar.specs.Laws.Signs.{Reads, sign_reads, sign_digit, digit_byte, decimal_ends, spaces_apart, apart_first}
use Rattle.theory_grammar.specs.Laws.Running.{goes, run_step}

-- no digits that may go on
abbrev Settled : Mode → Type 0
Settled fresh = Unit
Settled (digits n) = ⊥
Settled (item x) = Unit

-- ONE SIGN
run_digit : {d : ℕ} → d < 10 → (s : List ℕ) (σ : State) → run ((48 + d) ∷ s) σ ≡ goes (step (Sign.digit d) σ) s
run_digit {d} h s σ = run_step (48 + d) s σ ∙ ap (λ g. goes (step g σ) s) (sign_digit h)

run_spaces : {w : List ℕ} → Spaces w → (v : List ℕ) (fs : List Frame) (ds is : List Tree) (m : Mode) → Settled m
    → run (w ++ v) (state fs ds is m) ≡ run v (state fs ds is m)
unfolding run
run_spaces (Rattle.theory_grammar.specs.Grammar.space {u = u} s) v fs ds is (digits _) e = elim e [ ]
run_spaces Spaces.none v fs ds is m e = refl
run_spaces (Spaces.space s) v fs ds is fresh e = run_spaces s v fs ds is fresh e
run_spaces (Spaces.space s) v fs ds is (item x) e = run_spaces s v fs ds is (item x) e

run_decimal : {n : ℕ} {u : List ℕ} → Decimal n u → (v : List ℕ) (fs : List Frame) (ds is : List Tree) (m : Mode) → Settled m
    → run (u ++ v) (state fs ds is m) ≡ run v (state fs ds (settled is m) (digits n))
run_decimal (Rattle.theory_model.specs.Laws.Decimals.digit {n = n} h) v fs ds is (digits _) e = elim e [ ]
run_decimal (Rattle.theory_model.specs.Laws.Decimals.more {n = Prim.Native.Nat.zero} {d = d} {u = u} p h r) v fs ds is m e = elim p [ ]
run_decimal (Decimal.digit h) v fs ds is fresh e = run_digit h v (state fs ds is fresh)
run_decimal (Decimal.digit h) v fs ds is (item x) e = run_digit h v (state fs ds is (item x))
run_decimal (Decimal.more {n = suc n} {d = d} {u = u} p h r) v fs ds is m e =
    ap (λ l. run l (state fs ds is m)) (append_snoc u (48 + d) v)
    ∙ run_decimal r ((48 + d) ∷ v) fs ds is m e
    ∙ run_digit h v (state fs ds (settled is m) (digits (suc n)))

-- a number that no digit follows is an item
run_number : (v : List ℕ) → (BeginsWithDigit v → ⊥) → (fs : List Frame) (ds is : List Tree) (n : ℕ)
    → run v (state fs ds is (digits n)) ≡ run v (state fs ds is (item (letter n)))
unfolding run
run_number [] no_digit [] ds is n = refl
run_number [] no_digit (f ∷ fs) ds is n = refl
run_number (b ∷ v) no_digit fs ds is n =
    run_step b v (state fs ds is (digits n)) ∙ by (sign_reads b) no_digit fs ∙ sym (run_step b v (state fs ds is (item (letter n))))
  where
    by : {c : ℕ} {g : Sign} → Reads c g → (BeginsWithDigit (c ∷ v) → ⊥) → (fs : List Frame)
        → goes (step g (state fs ds is (digits n))) v ≡ goes (step g (state fs ds is (item (letter n)))) v
    by (Reads.digit h) no_digit fs = absurd (no_digit (digit_byte h))
    by Reads.space no_digit fs = refl
    by Reads.opening no_digit fs = refl
    by Reads.closing no_digit [] = refl
    by Reads.closing no_digit (frame ds' is' ∷ fs) = refl
    by Reads.bar no_digit fs = refl
    by Reads.times no_digit fs = refl
    by Reads.other no_digit fs = refl

-- where alternatives may end, and where one of them may
data Closes : List ℕ → Type 0 where
  at_end : Closes []
  at_closing : {v : List ℕ} → Closes (41 ∷ v)

data Ends : List ℕ → Type 0 where
  closes : {v : List ℕ} → Closes v → Ends v
  at_bar : {v : List ℕ} → Ends (124 ∷ v)

ends_no_digit : {v : List ℕ} → Ends v → BeginsWithDigit v → ⊥
ends_no_digit (closes at_end) d = d
ends_no_digit (closes at_closing) d = omega arith
ends_no_digit at_bar d = omega arith

-- there it does not matter whether the last item may still get its star
run_settled : {v : List ℕ} → Ends v → (fs : List Frame) (ds is : List Tree) (m : Mode)
    → run v (state fs ds is m) ≡ run v (state fs ds (settled is m) fresh)
unfolding run
run_settled (closes at_end) [] ds is m = refl
run_settled (closes at_end) (f ∷ fs) ds is m = refl
run_settled (closes at_closing) [] ds is m = refl
run_settled (closes at_closing) (frame ds' is' ∷ fs) ds is m = refl
run_settled at_bar fs ds is m = refl

-- THE PARTS OF THE GRAMMAR, each read from any stack
record ItemRead (u v : List ℕ) (y : Tree) (fs : List Frame) (ds is : List Tree) (m : Mode) : Type 0 where
  items : List Tree
  mode : Mode
  whole_item : Settled mode
  tree : settled items mode ≡ y ∷ settled is m
  same : run (u ++ v) (state fs ds is m) ≡ run v (state fs ds items mode)

record AlternativeRead (u v : List ℕ) (a : Tree) (fs : List Frame) (ds is : List Tree) (m : Mode) : Type 0 where
  items : List Tree
  tree : chain items empty ≡ chain (settled is m) a
  same : run (u ++ v) (state fs ds is m) ≡ run v (state fs ds items fresh)

record AlternativesRead (u v : List ℕ) (t : Tree) (fs : List Frame) (ds : List Tree) : Type 0 where
  done : List Tree
  items : List Tree
  tree : whole done items fresh ≡ choice ds t
  same : run (u ++ v) (state fs ds [] fresh) ≡ run v (state fs done items fresh)

abbrev Read : Kind → List ℕ → Tree → Type 0
Read Kind.factor u x =
    (v : List ℕ) → Apart u v → (fs : List Frame) (ds is : List Tree) (m : Mode) → Settled m
    → run (u ++ v) (state fs ds is m) ≡ run v (state fs ds (settled is m) (item x))
Read Kind.item u y = (v : List ℕ) → Apart u v → (fs : List Frame) (ds is : List Tree) (m : Mode) → Settled m → ItemRead u v y fs ds is m
Read Kind.alternative u a = (v : List ℕ) → Ends v → (fs : List Frame) (ds is : List Tree) (m : Mode) → Settled m → AlternativeRead u v a fs ds is m
Read Kind.alternatives u t = (v : List ℕ) → Closes v → (fs : List Frame) (ds : List Tree) → AlternativesRead u v t fs ds

number_read : {n : ℕ} {u w : List ℕ} → Decimal n u → Spaces w → Read Kind.factor (u ++ w) (letter n)
number_read {n} {u} {w} d s v a fs ds is m e =
    ap (λ l. run l (state fs ds is m)) (append_assoc u w v)
    ∙ run_decimal d (w ++ v) fs ds is m e
    ∙ run_number (w ++ v) (spaces_apart u v s (decimal_ends d) a) fs ds (settled is m) n
    ∙ run_spaces s v fs ds (settled is m) (item (letter n)) tt

group_read : {u v w : List ℕ} {t : Tree} → Spaces v → Read Kind.alternatives u t → Spaces w
    → Read Kind.factor (40 ∷ (v ++ (u ++ (41 ∷ w)))) t
unfolding run
group_read {u} {v} {w} {t} a r b k apart fs ds is m e =
    let inner = r (41 ∷ (w ++ k)) at_closing (frame ds (settled is m) ∷ fs) [] in
    ap (λ l. run (40 ∷ l) (state fs ds is m)) (append_assoc v (u ++ (41 ∷ w)) k ∙ ap (λ l. v ++ l) (append_assoc u (41 ∷ w) k))
    ∙ run_spaces a (u ++ (41 ∷ (w ++ k))) (frame ds (settled is m) ∷ fs) [] [] fresh tt
    ∙ inner.same
    ∙ ap (λ x. run (w ++ k) (state fs ds (settled is m) (item x))) inner.tree
    ∙ run_spaces b k fs ds (settled is m) (item t) tt

plain_read : {u : List ℕ} {x : Tree} → Read Kind.factor u x → Read Kind.item u x
plain_read {u} {x} r v a fs ds is m e =
    record { items = settled is m; mode = item x; whole_item = tt; tree = refl; same = r v a fs ds is m e }

starred_read : (u : List ℕ) {w : List ℕ} {x : Tree} → Read Kind.factor u x → Spaces w → Read Kind.item (u ++ (42 ∷ w)) (star x)
unfolding run
starred_read u {w} {x} r s v a fs ds is m e =
    record {
      items = star x ∷ settled is m;
      mode = fresh;
      whole_item = tt;
      tree = refl;
      same =
          ap (λ l. run l (state fs ds is m)) (append_assoc u (42 ∷ w) v)
          ∙ r (42 ∷ (w ++ v)) (λ _ d. omega arith) fs ds is m e
          ∙ run_spaces s v fs ds (star x ∷ settled is m) fresh tt;
    }

next_read : {u v : List ℕ} {x r : Tree} → Read Kind.item u x → Apart u v → Read Kind.alternative v r → Read Kind.alternative (u ++ v) (sequence x r)
next_read {u} {v} {x} {r} first apart rest k ends fs ds is m e =
    let f = first (v ++ k) (apart_first u v k apart (λ _. ends_no_digit ends)) fs ds is m e in
    let g = rest k ends fs ds f.items f.mode f.whole_item in
    record {
      items = g.items;
      tree = g.tree ∙ ap (λ l. chain l r) f.tree;
      same = ap (λ l. run l (state fs ds is m)) (append_assoc u v k) ∙ f.same ∙ g.same;
    }

last_read : {u : List ℕ} {a : Tree} → Read Kind.alternative u a → Read Kind.alternatives u a
last_read r v c fs ds =
    let f = r v (closes c) fs ds [] fresh tt in
    record { done = ds; items = f.items; tree = ap (choice ds) f.tree; same = f.same }

or_read : {u v w : List ℕ} {a r : Tree} → Read Kind.alternative u a → Spaces v → Read Kind.alternatives w r
    → Read Kind.alternatives (u ++ (124 ∷ (v ++ w))) (either a r)
unfolding run
or_read {u} {v} {w} {a} {r} first s rest k c fs ds =
    let f = first (124 ∷ (v ++ (w ++ k))) at_bar fs ds [] fresh tt in
    let g = rest k c fs (a ∷ ds) in
    record {
      done = g.done;
      items = g.items;
      tree = g.tree;
      same =
          ap (λ l. run l (state fs ds [] fresh)) (append_assoc u (124 ∷ (v ++ w)) k ∙ ap (λ l. u ++ (124 ∷ l)) (append_assoc v w k))
          ∙ f.same
          ∙ ap (λ x. run (v ++ (w ++ k)) (state fs (x ∷ ds) [] fresh)) f.tree
          ∙ run_spaces s (w ++ k) fs (a ∷ ds) [] fresh tt
          ∙ g.same;
    }

is_read : {k : Kind} {u : List ℕ} {t : Tree} → Spells k u t → Read k u t
is_read (Spells.number d s) = number_read d s
is_read (Spells.group a r b) = group_read a (is_read r) b
is_read (Spells.plain r) = plain_read (is_read r)
is_read (Spells.starred {u = u} r s) = starred_read u (is_read r) s
is_read Spells.end =
    λ v e fs ds is m h. record { items = settled is m; tree = refl; same = run_settled e fs ds is m }
is_read (Spells.next f a r) = next_read (is_read f) a (is_read r)
is_read (Spells.last r) = last_read (is_read r)
is_read (Spells.or f s r) = or_read (is_read f) s (is_read r)

-- EVERY TREE THAT A TEXT SPELLS is what the parse answers
pub spelled_parsed : (s : List ℕ) (t : Tree) → Text s t → parse s ≡ parsed t
unfolding run
spelled_parsed s t x =
    let r = is_read x.spelled [] at_end [] [] in
    ap parse x.whole
    ∙ run_spaces x.spaces x.rest [] [] [] fresh tt
    ∙ ap (λ l. parse l) (sym (append-nil x.rest))
    ∙ r.same
    ∙ ap parsed r.tree

-- so there is only one
pub one_tree : {s : List ℕ} {t t' : Tree} → Text s t → Text s t' → t ≡ t'
one_tree {s} {t} {t'} a b = cc (spelled_parsed s t a, spelled_parsed s t' b)
