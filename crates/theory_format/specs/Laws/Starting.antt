-- What waits in the queues at the start is what stands there, and with it all of field 2: in a file that resumes, and in one that does not.
use Rattle.std.specs.Prelude.{ℕ, suc, ◌+◌, ◌*◌, ◌/◌, ◌%◌, ◌≤◌, ◌<◌, ◌≡◌, Bool, length, set, ltb}
use Rattle.std.proofs.Math.Path.{refl, ap, ap₂, subst}
use Rattle.std.proofs.Common.{sym, ◌∙◌, ltb-true, ltb-false, zero-add, add-zero, arith}
use Rattle.std.proofs.Math.Bool.{true, false, cond}
use mathlib.Core.List.{List, [], ◌++◌, append_assoc}
use Rattle.std.proofs.Math.ListN.{get_or, replicate}
use Rattle.tables.specs.Limits.{most_queues, most_starting}
use Rattle.tables.specs.Queues.{first_message}
use Rattle.tables.specs.Starting.{starting_length, waits}
use Rattle.tables.specs.Valid.{QueuesValid}
use Rattle.tables.specs.declared.tables.Queues.{Queues}
use Rattle.numbers.specs.Part.{got}
use Rattle.numbers.specs.Number.{read_within}
use Rattle.numbers.specs.Laws.Parts.{and_then_got, provided_got, same_value, same_place_lem}
use Rattle.numbers.specs.Laws.Ranges.{within_range}
use Rattle.numbers.specs.Laws.Written.{zeros_hold}
use Rattle.tables.specs.Laws.Starting.{waits_none, none_waits}
use Rattle.reading_model.specs.Words.{read_word}
use Rattle.reading_model.specs.Queues.{counted_queues, read_content, read_contents, starting_with, read_starting, read_queues}
use Rattle.reading_model.specs.Laws.Queues.{counted_valid}
use Rattle.reading_model.specs.Laws.Starting.{contents_rounds, starting_valid}
use Rattle.theory_format.specs.Readable.{Bytes}
use Rattle.theory_format.specs.Spelled.{number, each, entries, content, contents, queues}
use Rattle.theory_format.specs.Laws.Here.{Here, here_none, here_then, here_part}
use Rattle.theory_format.specs.Laws.Fronts.{Begun, begun_all, begun_less, begun_before}
use Rattle.theory_format.specs.Laws.Fronts.{Front, front_none, front_set, front_whole}
use Rattle.theory_format.specs.Laws.Numbers.{within_forth, within_back}
use Rattle.theory_format.specs.Laws.Loops.{Round, loop_forth, loop_back}
use Rattle.theory_format.specs.Laws.Words.{word_forth, word_of, word_back}
use Rattle.theory_format.specs.Laws.Queues.{counted_forth, counted_empty, counted_back}

-- QUEUE BY QUEUE, from the last back: the lengths and the messages are those of the last tables
module _ (s : List ℕ) (bytes : Bytes s) (q : Queues) (lengths table : List ℕ) (lengths_long : length lengths ≡ most_queues)
    (tableLong : length table ≡ starting_length) (few : q.count ≤ most_queues) where
  abbrev BegunBoth : ℕ → List ℕ × List ℕ → Type 0
  BegunBoth i held = Begun lengths i held.0 × Begun table (i * most_starting) held.1

  content_forth : (i at : ℕ) (held : List ℕ × List ℕ) {x : List ℕ × List ℕ} {next : ℕ} → i < q.count
      → read_content s at q i held ≡ got x next → BegunBoth (i + 1) x → BegunBoth i held × Here s at (content lengths table i) next
  unfolding read_content content
  content_forth i at held {x} {next} l e b =
      let t = and_then_got (read_within s at 0 most_starting) e in
      let lo = first_message q.messages i in
      let hi = first_message q.messages (suc i) in
      let w = and_then_got (read_word s t.place q.sum lo hi t.value (i * most_starting) held.1) t.then in
      made t.value (within_range s at 0 most_starting t.first).1 (within_forth s bytes at 0 most_starting t.first) w.first
      (subst (BegunBoth (i + 1)) (sym (same_value w.then)) b) (same_place_lem w.then)
    where
      made : (len : ℕ) {p₁ p₂ : ℕ} {read : List ℕ} → len ≤ most_starting → Here s at (number len) p₁
          → read_word s p₁ q.sum (first_message q.messages i) (first_message q.messages (suc i)) len (i * most_starting) held.1
          ≡ got read p₂
          → BegunBoth (i + 1) (set held.0 i len, read) → p₂ ≡ next
          → BegunBoth i held × Here s at (number (get_or lengths i 0) ++ entries table (get_or lengths i 0) (i * most_starting)) next
      made len {p₁} {p₂} short f w (b₀, b₁) n =
          let lo = first_message q.messages i in
          let hi = first_message q.messages (suc i) in
          let c₁ =
          word_forth s bytes q.sum lo hi table len (i * most_starting) (omega arith) p₁ held.1 w
          (begun_less (i * most_starting + len) (omega arith) b₁)
          in
          let c₀ = begun_before i len refl (omega arith) b₀ in
          let both = subst (Here s at _) n (here_then f c₁.1) in (
            (c₀.0, c₁.0),
            subst (λ k. Here s at (number k ++ entries table k (i * most_starting)) next) (sym c₀.1) both,
          )

  contents_forth : (at : ℕ) (held : List ℕ × List ℕ) {next : ℕ} → read_contents s at q q.count 0 held ≡ got (lengths, table) next
      → Here s at (each (content lengths table) q.count 0) next
  contents_forth at held e =
      (loop_forth s (contents_rounds s q) q.count (content lengths table) (λ i z. Unit {0}) BegunBoth (λ _ _ _ _ _ _ _ _. tt)
      (λ i a z v p l f _ b. content_forth i a z l f b) q.count 0 at held (zero-add q.count) e tt
      (begun_all lengths q.count, begun_all table (q.count * most_starting))).1

-- FIELD 2 IN TWO PARTS: the queues as they are counted, and what waits in them
abbrev counted : Queues → List ℕ
counted q = number q.count ++ entries q.messages q.count 0

queues_parts : (q : Queues) (resumes : Bool) → waits q.lengths ≡ resumes → queues q ≡ counted q ++ cond resumes (contents q) []
unfolding queues
queues_parts q resumes e =
    ap (λ b. number q.count ++ (entries q.messages q.count 0 ++ cond b (contents q) [])) e
    ∙ sym (append_assoc (number q.count) (entries q.messages q.count 0) (cond resumes (contents q) []))

module _ (s : List ℕ) (bytes : Bytes s) where
  abbrev Stands : ℕ → Bool → Queues → ℕ → Type 0
  Stands at resumes q next = (waits q.lengths ≡ resumes) × Here s at (counted q ++ cond resumes (contents q) []) next

  starting_forth : (at p : ℕ) {r q : Queues} {next : ℕ} → QueuesValid r → Here s at (counted r) p → read_starting s p r ≡ got q next
      → Stands at true q next
  unfolding read_starting contents
  starting_forth at p {r} {q} {next} valid h e =
      let t = and_then_got (read_contents s p r r.count 0 (replicate most_queues 0, replicate starting_length 0)) e in
      let g = provided_got (waits t.value.0) 23 0 (got (starting_with r t.value) t.place) t.then in
      let z = subst QueuesValid (sym (same_value g.1)) (starting_valid s r valid p e).0 in
      let c =
      contents_forth s bytes r t.value.0 t.value.1 z.starting.lengths_long z.starting.contents_long valid.most p _ t.first
      in
      subst (λ n. Stands at true q n) (same_place_lem g.1)
      (subst (λ y. Stands at true y t.place) (same_value g.1) (g.0, here_then h c))

  pub queues_forth : (at : ℕ) (resumes : Bool) {q : Queues} {next : ℕ} → read_queues s at resumes ≡ got q next
      → (waits q.lengths ≡ resumes) × Here s at (queues q) next
  unfolding read_queues
  queues_forth at resumes {q} {next} e =
      let t = and_then_got (counted_queues s at) e in
      let f = t.first in
      let (same, here) =
      go resumes t.value t.place (counted_valid s at f) (counted_empty s at f) (counted_forth s bytes at f) t.then in
      (same, subst (λ w. Here s at w next) (sym (queues_parts q resumes same)) here)
    where
      go : (b : Bool) (r : Queues) (p : ℕ) → QueuesValid r → r.lengths ≡ replicate most_queues 0 → Here s at (counted r) p
          → cond b (read_starting s p r) (got r p) ≡ got q next → Stands at b q next
      go true r p valid z h f = starting_forth at p valid h f
      go false r p valid z h f =
          subst (λ n. Stands at false q n) (same_place_lem f)
          (subst (λ y. Stands at false y p) (same_value f) (
            none_waits r.lengths (λ i. ap (λ l. get_or l i 0) z ∙ zeros_hold most_queues i),
            here_then h (here_none s p),
          ))

-- FORWARDS: what is put into the tables is what they have in the end
module _ (s : List ℕ) (q : Queues) (valid : QueuesValid q) where
  -- the queues before what waits in them is read
  abbrev emptied : Queues
  emptied = starting_with q (replicate most_queues 0, replicate starting_length 0)

  abbrev FrontBoth : ℕ → List ℕ × List ℕ → Type 0
  FrontBoth i held = Front q.lengths i held.0 × Front q.contents (i * most_starting) held.1

  content_back : (i at : ℕ) (held : List ℕ × List ℕ) (next : ℕ) → i < q.count → FrontBoth i held
      → Here s at (content q.lengths q.contents i) next
      → Round (λ i at x. read_content s at emptied i x) (λ i v x. v) FrontBoth i at held next
  unfolding read_content content
  content_back i at held next l (f₀, f₁) h =
      let len = get_or q.lengths i 0 in
      let w = valid.starting.words i l in
      let few : q.sum ≤ 16384 = omega (arith, valid.sum_most) in
      let p = here_part (number len) h in
      let x =
      word_back s q.contents few len (i * most_starting) (omega (arith, valid.starting.contents_long, valid.most))
      (word_of q len q.contents w) ((i + 1) * most_starting) p.middle held.1 (omega arith) f₁ p.second
      in
      record {
        value = (set held.0 i len, x.0);
        reads = rw (within_back s at 0 most_starting len (omega arith) w.most (omega arith) p.first, x.1);
        then = (front_set i refl (omega (arith, valid.starting.lengths_long, valid.most)) f₀, x.2);
      }

  contents_back : (at : ℕ) {next : ℕ} → Here s at (contents q) next
      → read_contents s at emptied q.count 0 (replicate most_queues 0, replicate starting_length 0) ≡ got (q.lengths, q.contents) next
  unfolding contents
  contents_back at {next} h =
      let l =
      loop_back s (contents_rounds s emptied) q.count (content q.lengths q.contents) FrontBoth content_back q.count 0 at
      (replicate most_queues 0, replicate starting_length 0) (zero-add q.count)
      (front_none q.lengths most_queues valid.starting.lengths_long, front_none q.contents starting_length valid.starting.contents_long) h
      in
      l.reads
      ∙ ap₂ (λ a b. got (a, b) next) (front_whole valid.starting.lengths_rest l.holds.0)
      (front_whole valid.starting.contents_rest l.holds.1)

  starting_back : (at : ℕ) {next : ℕ} → waits q.lengths ≡ true → Here s at (contents q) next → read_starting s at emptied ≡ got q next
  unfolding read_starting
  starting_back at e h = rw (contents_back at h, e)

  -- where nothing waits, nothing stands in the tables
  module _ (none : waits q.lengths ≡ false) where
    contents_none : (k : ℕ) → get_or q.contents k 0 ≡ 0
    contents_none k = go (ltb k (q.count * most_starting)) refl
      where
        go : (b : Bool) → ltb k (q.count * most_starting) ≡ b → get_or q.contents k 0 ≡ 0
        go true e =
            let l = ltb-true k (q.count * most_starting) e in
            let same : k / most_starting * most_starting + k % most_starting ≡ k = omega arith in
            let word = valid.starting.words (k / most_starting) (omega arith) in
            let len = waits_none q.lengths none (k / most_starting) in
            subst (λ j. get_or q.contents j 0 ≡ 0) same (word.rest (k % most_starting) (omega arith) (omega arith))
        go false e = valid.starting.contents_rest k (ltb-false k (q.count * most_starting) e)

    starts_empty_lem : emptied ≡ q
    starts_empty_lem =
        ap₂ (λ a b. starting_with q (a, b))
        (front_whole (λ k _. waits_none q.lengths none k) (front_none q.lengths most_queues valid.starting.lengths_long))
        (front_whole (λ k _. contents_none k) (front_none q.contents starting_length valid.starting.contents_long))

pub queues_back : (s : List ℕ) (at : ℕ) (q : Queues) {next : ℕ} → QueuesValid q → Here s at (queues q) next
    → read_queues s at (waits q.lengths) ≡ got q next
unfolding read_queues
queues_back s at q {next} valid h =
    let p = here_part (counted q) (subst (λ w. Here s at w next) (queues_parts q (waits q.lengths) refl) h) in
    rw (counted_back s at q valid p.first) (go (waits q.lengths) refl p.second)
  where
    go : (b : Bool) → waits q.lengths ≡ b → {m : ℕ} → Here s m (cond b (contents q) []) next
        → cond b (read_starting s m (emptied s q valid)) (got (emptied s q valid) m) ≡ got q next
    go true e {m} f = starting_back s q valid m e f
    go false e {m} f = ap₂ got (starts_empty_lem s q valid e) (sym (add-zero m) ∙ sym f.place)
