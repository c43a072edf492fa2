-- What the end of a replay says of the run of the model, in its words alone: the numbers that were taken stand at the front of the trace, and
-- the configurations are those of the run that is fed them.
use Rattle.std.specs.Prelude.{ℕ, ◌+◌, ◌<◌, ◌≡◌, true, List, [], ◌∷◌, length, get_or}
use Rattle.std.proofs.Math.Option.{some}
use Rattle.numbers.specs.Part.{got}
use Rattle.numbers.specs.Number.{read_number}
use Rattle.theory_model.specs.Model.{Model, Configuration, take?, begin, run}
use Rattle.theory_model.specs.Session.{Session, Inside}
use Rattle.theory_replay.specs.Rules.{fits, Stops, Ended}

-- these numbers stand one after the other from a place on, and next is the place after them
pub data Numbers (s : List ℕ) : ℕ → List ℕ → ℕ → Type 0 where
  none_left : {at : ℕ} → Numbers s at [] at
  number : {at p next t : ℕ} {ts : List ℕ} → read_number s at ≡ got t p → Numbers s p ts next → Numbers s at (t ∷ ts) next

-- configuration i of the run that is fed these numbers
abbrev pub configuration : Model → List ℕ → ℕ → Configuration
configuration M ts i = get_or (run M ts) i (begin M)

-- THE TRACE LEADS, by these numbers at its front, to the place at: of the run that is fed them each configuration before the last is inside, and each
-- number's transition is taken there, with no queue past its room
pub record Leads (S : Session) (s ts : List ℕ) (at : ℕ) : Type 0 where
  pub numbers : Numbers s 0 ts at
  pub inside : (i : ℕ) → i < length ts → Inside S (configuration S.model ts i)
  pub taken : (i : ℕ) → i < length ts
      → take? S.model (get_or ts i 0) (configuration S.model ts i) ≡ some (configuration S.model ts (i + 1))
  pub fitting : (i : ℕ) → i < length ts → fits (configuration S.model ts (i + 1)).queues ≡ true

-- where it has led: the last configuration of that run
abbrev pub last : Session → List ℕ → Configuration
last S ts = configuration S.model ts (length ts)

-- WHAT AN END MEANS: the trace leads by some numbers to a place where the replay stops, for the reason told; as many steps were taken as there are
-- numbers, and the configuration is the last of their run
pub record EndMeans (S : Session) (s : List ℕ) (e : Ended) : Type 0 where
  pub numbers : List ℕ
  pub at : ℕ
  pub leads : Leads S s numbers at
  pub stops : Stops S s at (last S numbers) e.why
  pub steps : e.steps ≡ length numbers
  pub last : e.last ≡ last S numbers
