-- How an action parts the contents, in the model's words.
use Rattle.std.specs.Prelude.{ℕ, suc, ◌≤◌, ◌≡◌, ◌⊎◌, List, take}
use Rattle.std.proofs.Math.Option.{Option}
use Rattle.tables.specs.declared.tables.Queues.{Queues}
use Rattle.theory_model.specs.Model.{Action, local, send, receive, first_of}
use Rattle.theory_model.specs.Judge.{out, into, root_pair}
use Rattle.theory_files.specs.Tables.{action_of}
use Rattle.checking_pairs.specs.Pairs.{after_side, side_of}
use Rattle.following.specs.Standing.{word_over}
use Rattle.checking_items.specs.declared.cut.Cut.{Cut}
use Rattle.tables.specs.Rows.{word_entry, kind_at, queue_at, length_at, word_at}

-- the action of the transition whose row begins here
abbrev pub action_at : List ℕ → ℕ → Action
action_at rows row = action_of (kind_at rows row) (queue_at rows row) (word_at rows row)

-- the first message that is read after an action, the queues having so many messages each
abbrev pub cut_of : List ℕ → Action → ℕ
cut_of ns local = 0
cut_of ns (send q w) = first_of ns (suc q)
cut_of ns (receive q w) = first_of ns q

-- how an action parts the contents
pub record Cuts (q : Queues) (rows : List ℕ) (row : ℕ) (r : Cut) : Type 0 where
  pub cut : r.cut ≡ cut_of (take q.count q.messages) (action_at rows row)
  pub out : word_over rows (word_entry row) r.out ≡ out (action_at rows row)
  pub into : word_over rows (word_entry row) r.into ≡ into (action_at rows row)
  pub side : (s : ℕ) (t : Option ℕ) → side_of r.side s t ≡ root_pair (action_at rows row) s t
  pub sides : (r.side ≡ 0) ⊎ (r.side ≡ after_side)
  pub small : (r.cut ≤ q.sum) × (r.out ≤ length_at rows row) × (r.into ≤ length_at rows row)
