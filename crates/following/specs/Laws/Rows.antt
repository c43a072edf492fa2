-- A row leads where its state's arc does.
use Rattle.std.specs.Prelude.{Result, Ok, Err, ℕ, ◌≡◌, List}
use Rattle.std.proofs.Common.{ap, subst}
use Rattle.std.proofs.Math.Option.{some}
use Rattle.tables.specs.Limits.{most_pool}
use Rattle.tables.specs.Pool.{arc_from, arc_at}
use Rattle.following.specs.Follow.{FollowsTo, far_arcs}
use Rattle.following.specs.Rows.{state_at, StateRow, followed_to, RowFollows}
use Rattle.following.specs.declared.messages.Lost.{Lost}

-- the arc of a row is that of its state
pub row_arc : (arcs : List ℕ) {row : ℕ} (m : ℕ) → StateRow row → arc_from arcs row m ≡ arc_at arcs (state_at row) m
row_arc arcs m R = ap (λ k. arc_from arcs k m) R.is

-- where a word was followed from a row on, by its answer
module _ {arcs u : List ℕ} {row : ℕ} {r : Result ℕ Lost} (R : RowFollows arcs row u r) where
  pub followed_at : {next : ℕ} → r ≡ Ok next → StateRow next × FollowsTo arcs (state_at row) u (state_at next)
  followed_at z = subst (followed_to arcs row u) z R.is

  pub followed_lost : {n : Lost} → r ≡ Err n → FollowsTo arcs (state_at row) u most_pool × (n.0 ≡ far_arcs arcs (some (state_at row)) u)
  followed_lost z = subst (followed_to arcs row u) z R.is
