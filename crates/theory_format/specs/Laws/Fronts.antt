-- A table on its way to the last one, entry by entry: its first entries are as the last table has them.
use Rattle.std.specs.Prelude.{ℕ, ◌+◌, ◌≤◌, ◌<◌, ◌≡◌, refl, Bool, true, false, List, length, get_or, set, replicate, ltb}
use Rattle.std.proofs.Common.{sym, ◌∙◌, length-set, get_or-set_same, get_or-set_other, ext_get_or, ltb-true, ltb-false, arith}
use Rattle.std.proofs.lemmas.List.{length-replicate}
use Rattle.numbers.specs.Laws.Written.{at_or_other, zeros_hold}

-- entries before e are as in the last table
pub record Begun (last : List ℕ) (e : ℕ) (t : List ℕ) : Type 0 where
  pub long : length t ≡ length last
  pub same : (k : ℕ) → k < e → get_or t k 0 ≡ get_or last k 0

pub begun_all : (last : List ℕ) (e : ℕ) → Begun last e last
begun_all last e = record { long = refl; same = λ k h. refl }

pub begun_less : {last t : List ℕ} {e : ℕ} (i : ℕ) → i ≤ e → Begun last e t → Begun last i t
begun_less i h b = record { long = b.long; same = λ k l. b.same k (omega arith) }

-- entry i was set: it is the last table's, and so were the entries before it
pub begun_before : {last t : List ℕ} {e : ℕ} (i v : ℕ) → e ≡ i + 1 → i < length last → Begun last e (set t i v)
    → Begun last i t × (get_or last i 0 ≡ v)
begun_before {last} {t} {e} i v n h b =
    let l : length t ≡ length last = sym (length-set t i v) ∙ b.long in (
      record { long = l; same = λ k g. sym (get_or-set_other t i k v 0 (omega arith)) ∙ b.same k (omega arith) },
      sym (b.same i (omega arith)) ∙ get_or-set_same t i v 0 (omega arith),
    )

-- entries before e are as in the last table, the others still 0
pub record Front (last : List ℕ) (e : ℕ) (t : List ℕ) : Type 0 where
  pub long : length t ≡ length last
  pub same : (k : ℕ) → k < e → get_or t k 0 ≡ get_or last k 0
  pub rest : (k : ℕ) → e ≤ k → get_or t k 0 ≡ 0

pub front_none : (last : List ℕ) (n : ℕ) → length last ≡ n → Front last 0 (replicate n 0)
front_none last n l =
    record {
      long = length-replicate {A = ℕ} n 0 ∙ sym l;
      same = λ k h. absurd (omega arith);
      rest = λ k h. zeros_hold n k;
    }

pub front_set : {last t : List ℕ} {e : ℕ} (i : ℕ) → e ≡ i + 1 → i < length last → Front last i t → Front last e (set t i (get_or last i 0))
front_set {last} {t} {e} i n h f =
    let v = get_or last i 0 in
    let l = f.long in
    record {
      long = length-set t i v ∙ l;
      same =
          λ k g.
          at_or_other (λ j. j < e → get_or (set t i v) j 0 ≡ get_or last j 0) i k (λ _. get_or-set_same t i v 0 (omega arith))
          (λ d g'. get_or-set_other t i k v 0 d ∙ f.same k (omega arith)) g;
      rest = λ k g. get_or-set_other t i k v 0 (omega arith) ∙ f.rest k (omega arith);
    }

-- entries of the last table that are 0 need no setting
pub front_zeros : {last t : List ℕ} {e : ℕ} (d : ℕ) → e ≤ d → ((k : ℕ) → e ≤ k → k < d → get_or last k 0 ≡ 0) → Front last e t
    → Front last d t
front_zeros {last} {t} {e} d h zeros f =
    record { long = f.long; same = λ k g. go k g (ltb k e) refl; rest = λ k g. f.rest k (omega arith) }
  where
    go : (k : ℕ) → k < d → (b : Bool) → ltb k e ≡ b → get_or t k 0 ≡ get_or last k 0
    go k g true q = f.same k (ltb-true k e q)
    go k g false q = let l = ltb-false k e q in f.rest k l ∙ sym (zeros k l g)

pub front_whole : {last t : List ℕ} {e : ℕ} → ((k : ℕ) → e ≤ k → get_or last k 0 ≡ 0) → Front last e t → t ≡ last
front_whole {last} {t} {e} zeros f =
    ext_get_or 0 t last f.long (λ k h. (front_zeros (e + k + 1) (omega arith) (λ j l g. zeros j l) f).same k (omega arith))
