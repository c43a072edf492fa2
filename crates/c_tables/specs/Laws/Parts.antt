-- Parts of a list: which stand one after the other, and which make up another.
use Rattle.std.specs.Prelude.{ℕ, ◌+◌, ◌≤◌, ◌≡◌, refl, List, [], ◌∷◌, ◌++◌, length, get_or, take, drop, replicate}
use Rattle.std.proofs.Common.{sym, ap, ◌∙◌, append-nil, length-take, length-drop, drop_of_length-le, take_at, drop_at, drop-drop, take-add, get_or-drop, arith, add-zero}
use Rattle.std.proofs.lemmas.List.{length-replicate}
use Rattle.numbers.specs.Put.{Put, four}
use Rattle.numbers.specs.Laws.Put.{put_front}
use Rattle.c_tables.specs.Taken.{part}

-- b stands from the place on, and s after it
pub record Stands (f : List ℕ) (at n : ℕ) (b s : List ℕ) : Type 0 where
  pub here : part at n f ≡ b
  pub after : drop (at + n) f ≡ s

pub stands : {f : List ℕ} {at : ℕ} (n : ℕ) (b s : List ℕ) → drop at f ≡ b ++ s → length b ≡ n → Stands f at n b s
stands {f} {at} n b s e h =
    record {
      here = ap (take n) e ∙ take_at b s n h;
      after = sym (drop-drop n at f) ∙ ap (drop n) e ∙ drop_at b s n h;
    }

-- two parts, one after the other
pub part_add : (at n m : ℕ) (f : List ℕ) → part at (n + m) f ≡ part at n f ++ part (at + n) m f
part_add at n m f = take-add n m (drop at f) ∙ ap (λ (l : List ℕ). part at n f ++ take m l) (drop-drop n at f)

-- and four
pub part_four : (at a b c d : ℕ) (f : List ℕ)
    → part at (a + b + c + d) f ≡ four (part at a f) (part (at + a) b f) (part (at + (a + b)) c f) (part (at + (a + b + c)) d f)
part_four at a b c d f =
    part_add at (a + b + c) d f
    ∙ ap (λ (l : List ℕ). l ++ part (at + (a + b + c)) d f)
    (part_add at (a + b) c f ∙ ap (λ (l : List ℕ). l ++ part (at + (a + b)) c f) (part_add at a b f))

-- a part that is put into as many zeros
pub part_copied : (f : List ℕ) (at n : ℕ) {exit : List ℕ} {most r : ℕ} → at + n ≤ length f → Put (replicate n 0) 0 most (part at n f) exit r
    → exit ≡ part at n f
part_copied f at n h w =
    let long : length (part at n f) ≡ n = omega (arith, length-take n (drop at f), length-drop at f) in
    let room = length-replicate {A = ℕ} n 0 in
    let all : length {A = ℕ} (replicate n 0) ≤ length (part at n f) = omega arith in
    put_front w (omega arith) ∙ ap (λ (l : List ℕ). part at n f ++ l) (drop_of_length-le (replicate n 0) all) ∙ append-nil (part at n f)

-- four entries, and six
first_four : (l : List ℕ) → 4 ≤ length l → take 4 l ≡ get_or l 0 0 ∷ get_or l 1 0 ∷ get_or l 2 0 ∷ get_or l 3 0 ∷ []
first_four [] h = absurd (omega arith)
first_four (a ∷ []) h = absurd (omega arith)
first_four (a ∷ b ∷ []) h = absurd (omega arith)
first_four (a ∷ b ∷ c ∷ []) h = absurd (omega arith)
first_four (a ∷ b ∷ c ∷ d ∷ l) h = refl

pub part_entries : (f : List ℕ) (at : ℕ) → at + 4 ≤ length f
    → get_or f at 0 ∷ get_or f (at + 1) 0 ∷ get_or f (at + 2) 0 ∷ get_or f (at + 3) 0 ∷ [] ≡ part at 4 f
part_entries f at h =
    let first = get_or-drop at f 0 0 ∙ ap (λ (k : ℕ). get_or f k 0) (add-zero at) in
    sym
    (first_four (drop at f) (omega (arith, length-drop at f))
    ∙ rw (first, get_or-drop at f 1 0, get_or-drop at f 2 0, get_or-drop at f 3 0))

pub first_six : (l : List ℕ) → 6 ≤ length l
    → get_or l 0 0 ∷ get_or l 1 0 ∷ get_or l 2 0 ∷ get_or l 3 0 ∷ get_or l 4 0 ∷ get_or l 5 0 ∷ [] ≡ take 6 l
first_six [] h = absurd (omega arith)
first_six (a ∷ []) h = absurd (omega arith)
first_six (a ∷ b ∷ []) h = absurd (omega arith)
first_six (a ∷ b ∷ c ∷ []) h = absurd (omega arith)
first_six (a ∷ b ∷ c ∷ d ∷ []) h = absurd (omega arith)
first_six (a ∷ b ∷ c ∷ d ∷ e ∷ []) h = absurd (omega arith)
first_six (a ∷ b ∷ c ∷ d ∷ e ∷ g ∷ l) h = refl
