-- What else holds of a text that is put.
use Rattle.std.specs.Prelude.{ℕ, ◌≤◌, ◌≡◌, List, length}
use Rattle.std.proofs.Common.{ap, subst, ◌∙◌, arith}
use Rattle.std.proofs.Math.Seq.{length-sets}
use Rattle.numbers.specs.Put.{Put}
use Rattle.theory_format.specs.Spelled.{number}

module _ {entry text exit : List ℕ} {at m r : ℕ} where
  -- a looser bound
  pub put_wider : (most : ℕ) → Put entry at m text exit r → m ≤ most → Put entry at most text exit r
  put_wider most w h = record { buffer = w.buffer; next = w.next; within = omega (arith, w.within) }

  -- the buffer keeps its length
  pub put_long : Put entry at m text exit r → length exit ≡ length entry
  put_long w = ap length w.buffer ∙ length-sets entry at text

-- the text by another name
pub put_as : {entry u w exit : List ℕ} {at m r : ℕ} → u ≡ w → Put entry at m u exit r → Put entry at m w exit r
put_as {entry} {exit = exit} {at} {m} {r} e p = subst (λ (t : List ℕ). Put entry at m t exit r) e p

-- a number that was looked up
pub put_found : {entry exit : List ℕ} {at m v x r : ℕ} → v ≡ x → Put entry at m (number v) exit r → Put entry at m (number x) exit r
put_found e w = put_as (ap number e) w
