-- The judgement of a walk over the tables of a session: how many pairs there are, or the contents of the first that fails.
use Rattle.std.specs.Prelude.{◌≡◌, List, [], ◌∷◌, ◌++◌, reverse, ℕ, suc, ◌≤◌, length, take, drop}
use Rattle.std.specs.Prelude.{Result, Ok, Err}
use Rattle.std.proofs.Math.Option.{some}
use Rattle.theory_exploration.specs.Search.{Outcome, found, finished, trace}
use Rattle.theory_exploration.specs.Size.{Size}
use Rattle.tables.specs.Limits.{most_pool, contents_least}
use Rattle.theory_model.specs.Session.{Session, WellFormed}
use Rattle.theory_model.specs.Verdict.{Item, Pair, Visited}
use Rattle.theory_model.specs.Judge as Judge
use Rattle.theory_model.specs.Judge.{same, passes, fails, walk_of}
use Rattle.theory_model.specs.Laws.Items.{IsItem}
use Rattle.checking_pairs.specs.declared.pairs.Walk.{Walk}
use Rattle.checking_walk.specs.declared.judge.Shown.{Shown}
use Rattle.checking_pairs.specs.Marks.{Blank}
use Rattle.checking_pairs.specs.Over.{go_over, search_over, walk_over, Over}
use Rattle.checking_walk.specs.Shown.{part_over}

-- the contents that a word of letters stands for
abbrev pub contents_over : List ℕ → Walk → List ℕ → List ℕ
contents_over rows w [] = []
contents_over rows w (m ∷ u) = part_over rows w m ++ contents_over rows w u

module _ (arcs finals rows : List ℕ) (w : Walk) where
  abbrev pub settled_over : Outcome Pair → Judge.Judged
  settled_over (found k L) = fails (contents_over rows w (reverse (trace (suc w.sum) (go_over arcs rows w) same L k)))
  settled_over (finished L) = passes (length L)

  unfoldable pub judged_over : Pair → Judge.Judged
  judged_over root = settled_over (search_over arcs finals rows w root)

-- the contents are not too long to be shown
pub record ShownFits (arcs finals rows : List ℕ) (w : Walk) (root : Pair) : Type 0 where
  pub most : (u : List ℕ) → judged_over arcs finals rows w root ≡ fails u → length u ≤ contents_least

abbrev pub contents_shown : Judge.Judged → List ℕ
contents_shown (passes n) = []
contents_shown (fails u) = u

-- what the code's answer says, with the contents buffer that it left
abbrev pub said_judged : Result ℕ Shown → List ℕ → Judge.Judged
said_judged (Ok n) contents = passes n
said_judged (Err s) contents = fails (take s.0 contents)

-- how many messages are shown
abbrev pub shown_by : Result ℕ Shown → ℕ
shown_by (Ok n) = 0
shown_by (Err s) = s.0

-- THE ANSWER is the definition's, the tables are all 0 again, and the contents shown fill the front of the buffer
pub record WalkJudged (arcs finals rows : List ℕ) (w : Walk) (root : Pair) (contents seen' queue' contents' : List ℕ) (r : Result ℕ Shown) : Type 0 where
  pub reply : said_judged r contents' ≡ judged_over arcs finals rows w root
  pub blank : Blank seen' queue'
  pub number : shown_by r ≡ length (contents_shown (judged_over arcs finals rows w root))
  pub shown : contents'
      ≡ contents_shown (judged_over arcs finals rows w root) ++ drop (length (contents_shown (judged_over arcs finals rows w root))) contents

-- the walk is that of an item of a session that the tables are of
pub record WalksItem (arcs finals rows : List ℕ) (w : Walk) (root : Pair) (S : Session) (i : Item) : Type 0 where
  pub over : Over arcs finals w.sum S
  pub formed : WellFormed S
  pub few : S.pool.states ≤ most_pool
  pub item : IsItem S i
  pub begun : walk_of S i ≡ some (record { walk = walk_over rows w; root = root })

-- THE NUMBER of a walk that passes is the size of the item's set of pairs
pub record Counts (arcs finals rows : List ℕ) (w : Walk) (root : Pair) (r : Result ℕ Shown) : Type 0 where
  pub size : (S : Session) (i : Item) → WalksItem arcs finals rows w root S i → (n : ℕ) → r ≡ Ok n → Size (Visited S i) n
