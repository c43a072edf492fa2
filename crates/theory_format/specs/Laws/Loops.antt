-- Loops over a file: what their rounds read stands there part by part, both ways.
use Prim.Native.Nat.{ℕ, zero, suc, ◌+◌, ◌≤◌, ◌<◌}
use Rattle.std.specs.Prelude.{◌≡◌, refl, List, length, get_or, set, replicate}
use Rattle.std.proofs.Math.Path.{sym, ap, subst}
use Rattle.std.proofs.Common.{◌∙◌, add-zero, zero-add}
use native.Mathlib.Omega.{arith}
use Rattle.numbers.specs.Part.{Part, got, and_then}
use Rattle.numbers.specs.Laws.Parts.{and_then_got, same_value, same_place_lem}
use Rattle.numbers.specs.Laws.Rounds.{Rounds}
use Rattle.theory_format.specs.Spelled.{number, each, entries}
use Rattle.theory_format.specs.Laws.Here.{Here, here_none, here_then, here_part}
use Rattle.theory_format.specs.Laws.Fronts.{Begun, begun_all, begun_before, Front, front_none, front_set, front_whole}

module _ {S B : Type 0} where
  -- round i reads a value here, and with it the state is as R has it before the next round
  pub record Round (read : ℕ → ℕ → S → Part B) (put : ℕ → B → S → S) (R : ℕ → S → Type 0) (i at : ℕ) (x : S) (next : ℕ) : Type 0 where
    pub value : B
    pub reads : read i at x ≡ got value next
    pub then : R (i + 1) (put i value x)

module _ {S : Type 0} where
  -- the loop ends in a state as R has it before round hi
  pub record Looped (loop : ℕ → ℕ → ℕ → S → Part S) (R : ℕ → S → Type 0) (hi left i at : ℕ) (x : S) (next : ℕ) : Type 0 where
    pub last : S
    pub reads : loop left i at x ≡ got last next
    pub holds : R hi last

module _ {S B : Type 0} (s : List ℕ) {loop : ℕ → ℕ → ℕ → S → Part S} {read : ℕ → ℕ → S → Part B} {put : ℕ → B → S → S}
    (rounds : Rounds loop read put) (hi : ℕ) (part : ℕ → List ℕ) where
  -- I holds before each round. K is shown from the loop's end back: before round i the state is on its way to the last one.
  pub loop_forth : (I K : ℕ → S → Type 0)
      → ((i at : ℕ) (x : S) (v : B) (next : ℕ) → i < hi → read i at x ≡ got v next → I i x → I (i + 1) (put i v x))
      → ((i at : ℕ) (x : S) (v : B) (next : ℕ) → i < hi → read i at x ≡ got v next → I i x → K (i + 1) (put i v x)
      → K i x × Here s at (part i) next)
      → (left i at : ℕ) (x : S) {y : S} {next : ℕ} → i + left ≡ hi → loop left i at x ≡ got y next → I i x → K hi y
      → K i x × Here s at (each part left i) next
  unfolding each
  loop_forth I K keeps step zero i at x n e a b =
      let f = sym (rounds.stop i at x) ∙ e in (
        subst (λ k. K k x) (omega arith) (subst (K hi) (sym (same_value f)) b),
        subst (Here s at _) (same_place_lem f) (here_none s at),
      )
  loop_forth I K keeps step (suc left) i at x n e a b =
      let t = and_then_got (read i at x) (sym (rounds.round left i at x) ∙ e) in
      let l : i < hi = omega arith in
      let later =
      loop_forth I K keeps step left (i + 1) t.place (put i t.value x) (omega arith) t.then
      (keeps i at x t.value t.place l t.first a) b
      in
      let now = step i at x t.value t.place l t.first a later.0 in (now.0, here_then now.1 later.1)

  -- R i holds of the state before round i
  pub loop_back : (R : ℕ → S → Type 0)
      → ((i at : ℕ) (x : S) (next : ℕ) → i < hi → R i x → Here s at (part i) next → Round read put R i at x next)
      → (left i at : ℕ) (x : S) {next : ℕ} → i + left ≡ hi → R i x → Here s at (each part left i) next
      → Looped loop R hi left i at x next
  unfolding each
  loop_back R step zero i at x n r h =
      record {
        last = x;
        reads = rounds.stop i at x ∙ ap (got x) (sym (add-zero at) ∙ sym h.place);
        holds = subst (λ k. R k x) (omega arith) r;
      }
  loop_back R step (suc left) i at x n r h =
      let p = here_part (part i) h in
      let now = step i at x p.middle (omega arith) r p.first in
      let later = loop_back R step left (i + 1) p.middle (put i now.value x) (omega arith) now.then p.second in
      record {
        last = later.last;
        reads =
            rounds.round left i at x
            ∙ ap (λ z. and_then z (λ v m. loop left (i + 1) m (put i v x))) now.reads
            ∙ later.reads;
        holds = later.holds;
      }

-- Round i puts one number into entry i of a table.
module _ {S : Type 0} (s : List ℕ) {loop : ℕ → ℕ → ℕ → S → Part S} {read : ℕ → ℕ → S → Part ℕ} {put : ℕ → ℕ → S → S}
    (rounds : Rounds loop read put) (table : S → List ℕ) (puts : (i v : ℕ) (x : S) → table (put i v x) ≡ set (table x) i v)
    (hi : ℕ) (last : List ℕ) (long : hi ≤ length last) where
  pub entries_forth : ((i at : ℕ) (x : S) (v next : ℕ) → read i at x ≡ got v next → Here s at (number v) next)
      → (left i at : ℕ) (x : S) {y : S} {next : ℕ} → i + left ≡ hi → loop left i at x ≡ got y next → Begun last hi (table y)
      → Begun last i (table x) × Here s at (entries last left i) next
  entries_forth forth left i at x n e b =
      loop_forth s rounds hi (λ k. number (get_or last k 0)) (λ k z. Unit {0}) (λ k z. Begun last k (table z)) (λ _ _ _ _ _ _ _ _. tt)
      (λ k a z v p l f _ g.
      let c = begun_before k v refl (omega arith) (subst (Begun last (k + 1)) (puts k v z) g) in
      (c.0, subst (λ w. Here s a (number w) p) (sym c.1) (forth k a z v p f)))
      left i at x n e tt b

  -- E holds besides of the state before each round
  pub entries_back : (E : ℕ → S → Type 0)
      → ((i at : ℕ) (x : S) (next : ℕ) → i < hi → E i x → Here s at (number (get_or last i 0)) next
      → (read i at x ≡ got (get_or last i 0) next) × E (i + 1) (put i (get_or last i 0) x))
      → (left i at : ℕ) (x : S) {next : ℕ} → i + left ≡ hi → Front last i (table x) → E i x → Here s at (entries last left i) next
      → Looped loop (λ k z. Front last k (table z) × E k z) hi left i at x next
  entries_back E back left i at x n f a h =
      loop_back s rounds hi (λ k. number (get_or last k 0)) (λ k z. Front last k (table z) × E k z)
      (λ k b z p l r g.
      let c = back k b z p l r.1 g in
      record {
        value = get_or last k 0;
        reads = c.0;
        then = (subst (Front last (k + 1)) (sym (puts k (get_or last k 0) z)) (front_set k refl (omega arith) r.0), c.1);
      })
      left i at x n (f, a) h

-- The same where the table is the whole state and begins with zeros.
module _ (s : List ℕ) {loop : ℕ → ℕ → ℕ → List ℕ → Part (List ℕ)} {read : ℕ → ℕ → List ℕ → Part ℕ}
    (rounds : Rounds loop read (λ i v x. set x i v)) (count at : ℕ) where
  pub table_forth : ((i at' : ℕ) (x : List ℕ) (v next : ℕ) → read i at' x ≡ got v next → Here s at' (number v) next)
      → (x : List ℕ) {last : List ℕ} {next : ℕ} → count ≤ length last → loop count 0 at x ≡ got last next
      → Here s at (entries last count 0) next
  table_forth forth x {last} long e =
      (entries_forth s rounds (λ z. z) (λ i v z. refl) count last long forth count 0 at x (zero-add count) e (begun_all last count)).1

  pub table_back : (last : List ℕ) (n : ℕ) {next : ℕ} → length last ≡ n → count ≤ n → ((k : ℕ) → count ≤ k → get_or last k 0 ≡ 0)
      → ((i at' : ℕ) (x : List ℕ) (p : ℕ) → i < count → Here s at' (number (get_or last i 0)) p → read i at' x ≡ got (get_or last i 0) p)
      → Here s at (entries last count 0) next → loop count 0 at (replicate n 0) ≡ got last next
  table_back last n {next} long few zeros back h =
      let l =
      entries_back s rounds (λ z. z) (λ i v z. refl) count last (omega arith) (λ i z. Unit {0}) (λ i a z p g _ f. (back i a z p g f, tt))
      count 0 at (replicate n 0) (zero-add count) (front_none last n long) tt h
      in
      l.reads ∙ ap (λ z. got z next) (front_whole zeros l.holds.0)
