-- What the lent tables show. The queue has the number of each pair that was found, in the order of finding; seen has at a pair's number the place of its
-- parent in the queue plus 1, and 0 where the pair was not found.
use Rattle.std.specs.Prelude.{◌≡◌, not, List, map, ℕ, ◌-◌, ◌≤◌, ◌<◌, eqb, length, get_or, take, replicate}
use Rattle.std.proofs.Math.Option.{Option}
use Rattle.theory_exploration.specs.Search.{Found, push, sweep}
use Rattle.theory_exploration.specs.Marks.{mem, count}
use Rattle.theory_model.specs.Verdict.{Pair}
use Rattle.theory_model.specs.Judge.{same}
use Rattle.checking_pairs.specs.Pairs.{most_codes, decode}

-- the pair of a number, with its parent's place
abbrev pub found_at : List ℕ → ℕ → Found Pair
found_at seen c = record { at = decode c; parent = get_or seen c 0 - 1 }

-- THE LIST of the definition: the pairs found, each with its parent's place
abbrev pub view : List ℕ → List ℕ → ℕ → List (Found Pair)
view seen queue tail = map (found_at seen) (take tail queue)

pub record Tables (seen queue : List ℕ) (tail : ℕ) : Type 0 where
  pub seen_long : length seen ≡ most_codes
  pub queue_long : length queue ≡ most_codes
  -- each mark has its place in the queue, so there is room as long as an entry of seen is 0
  pub counted : tail ≡ count seen
  pub known : (c : ℕ) → mem c (take tail queue) ≡ not (eqb (get_or seen c 0) 0)
  pub codes : (k : ℕ) → get_or queue k 0 < most_codes
  pub rest : (k : ℕ) → tail ≤ k → get_or queue k 0 ≡ 0
  -- parents stand earlier
  pub earlier : (k : ℕ) → 0 < k → k < tail → get_or seen (get_or queue k 0) 0 ≤ k

-- the tables show this list
pub record Shows (seen queue : List ℕ) (tail : ℕ) (L : List (Found Pair)) : Type 0 where
  pub tables : Tables seen queue tail
  pub is : view seen queue tail ≡ L

-- after the pair of o, if there is one, was pushed from the place h
pub record Pushed (seen queue : List ℕ) (tail h : ℕ) (o : Option Pair) (seen' queue' : List ℕ) (r : ℕ) : Type 0 where
  pub shows : Shows seen' queue' r (push same h o (view seen queue tail))

-- after so many letters from m on were followed from the pair x at the place h
pub record Swept (seen queue : List ℕ) (tail : ℕ) (δ : Pair → ℕ → Option Pair) (x : Pair) (h left m : ℕ) (seen' queue' : List ℕ) (r : ℕ) : Type 0 where
  pub shows : Shows seen' queue' r (sweep δ same x h left m (view seen queue tail))

-- nothing is marked
pub record Blank (seen queue : List ℕ) : Type 0 where
  pub seen_blank : seen ≡ replicate (length seen) 0
  pub queue_blank : queue ≡ replicate (length queue) 0
