-- A walk over the tables of a session: the model's walk with its arcs, its final states and its word as the tables have them.
use Rattle.std.specs.Prelude.{◌≡◌, Bool, true, false, not, ◌&&◌, List, ℕ, suc, ◌≤◌, ltb, eqb, get_or}
use Rattle.std.proofs.Math.Option.{Option, none, some}
use Rattle.theory_tables.specs.Pool.{arc_of}
use Rattle.tables.specs.Lookup.{final_at, ArcsSmall}
use Rattle.tables.specs.Limits.{most_pool, most_messages}
use Rattle.theory_exploration.specs.Search.{Outcome, search_from}
use Rattle.theory_model.specs.Model.{messages}
use Rattle.theory_model.specs.Session.{Session}
use Rattle.theory_model.specs.Diagram.{Pool, along, follow}
use Rattle.theory_model.specs.Verdict.{Pair, before, after}
use Rattle.following.specs.Standing.{word_over, WordWithin}
use Rattle.theory_model.specs.Judge as Judge
use Rattle.theory_model.specs.Judge.{same, pair}
use Rattle.checking_pairs.specs.declared.pairs.Walk.{Walk}
use Rattle.checking_pairs.specs.declared.pairs.Node.{Node}
use Rattle.tables.specs.Kinds.{reached_of}
use Rattle.checking_pairs.specs.Pairs.{most_codes, after_side, side_of}

-- the states and arcs alone; which are final is asked when a pair is judged
abbrev pub pool_over : List ℕ → Pool
pool_over arcs = record { states = most_pool; final = λ s. false; arc = arc_of arcs }

-- THE WALK of the model that the code's walk is
abbrev pub walk_over : List ℕ → Walk → Judge.Walk
walk_over rows w =
    record {
      cut = w.cut;
      out = word_over rows w.word w.out;
      into = word_over rows w.word w.into;
      entry = w.entry;
    }

-- both follow a message
abbrev pub read_over : List ℕ → Bool → ℕ → ℕ → Option ℕ → ℕ → Option Pair
read_over arcs entry side s t m = pair entry (side_of side) (arc_of arcs s m) (along (pool_over arcs) t m)

module _ (arcs rows : List ℕ) (w : Walk) where
  -- both make the step
  abbrev pub jump_over : ℕ → Option ℕ → Option Pair
  jump_over s t =
      pair w.entry after (follow (pool_over arcs) (some s) (word_over rows w.word w.out))
      (follow (pool_over arcs) t (word_over rows w.word w.into))

  -- where a letter leads: the messages are the letters below the sum, and the step is the sum
  unfoldable pub go_over : Pair → ℕ → Option Pair
  go_over (before s t) m =
      elim (ltb m w.cut) [
        | true ↦ read_over arcs w.entry 0 s t m
        | false ↦ elim (eqb m w.sum) [ true ↦ jump_over s t | false ↦ none ]
      ]
  go_over (after s t) m =
      elim (ltb m w.cut) [
        | true ↦ none
        | false ↦ elim (ltb m w.sum) [ true ↦ read_over arcs w.entry after_side s t m | false ↦ none ]
      ]

-- a pair that fails: of a step, where the source accepts and the target does not; of a bad entry, where both do
unfoldable pub wrong_over : List ℕ → Bool → Pair → Bool
wrong_over finals entry (before s t) = false
wrong_over finals entry (after s t) =
    final_at finals (some s) && elim entry [ true ↦ final_at finals t | false ↦ not (final_at finals t) ]

-- THE SEARCH that the code makes; there are no more pairs than numbers, so the fuel is enough
abbrev pub search_over : List ℕ → List ℕ → List ℕ → Walk → Pair → Outcome Pair
search_over arcs finals rows w root =
    search_from (suc w.sum) (go_over arcs rows w) same (wrong_over finals w.entry) root most_codes

-- a session of these arcs, final states and messages
pub record Over (arcs finals : List ℕ) (sum : ℕ) (S : Session) : Type 0 where
  pub arc : S.pool.arc ≡ arc_of arcs
  pub final : S.pool.final ≡ (λ s. eqb (get_or finals s 0) 1)
  pub letters : messages S.model ≡ sum

-- WHAT IS ASKED OF THE TABLES: every file that was read has it
pub record Lent (arcs rows : List ℕ) (w : Walk) : Type 0 where
  pub small : ArcsSmall arcs
  pub sum : w.sum ≤ most_messages
  pub cut : w.cut ≤ w.sum
  pub out : WordWithin rows w.word w.out
  pub into : WordWithin rows w.word w.into

-- WHAT THE PARTS OF THE CODE SAY
-- the number r stands for where t leads by a message
pub record MessageRead (arcs : List ℕ) (t m r : ℕ) : Type 0 where
  pub is : reached_of r ≡ along (pool_over arcs) (reached_of t) m
  pub most : r ≤ most_pool

-- what the messages lead to from a node
abbrev pub read_from : List ℕ → Bool → Node → Pair → ℕ → Option Pair
read_from arcs entry x y m = read_over arcs entry x.side x.source.0 (reached_of x.target.0) m
