-- Diagrams (source document 000, section 4): following a word, how far that goes, accepted contents; the contents of all queues as one word.
use Rattle.std.specs.Prelude.{◌≡◌, Bool, true, false, List, [], ◌∷◌, ◌++◌, ℕ, suc, ◌+◌, ◌≤◌, ◌<◌, ltb, length}
use Rattle.std.proofs.Math.Option.{Option, none, some}
use Rattle.theory_model.specs.Model.{queue_of}

-- the states that all diagrams share: how many, which are final, and where an arc leads
pub record Pool : Type 0 where
  pub states : ℕ
  pub final : ℕ → Bool
  pub arc : ℕ → ℕ → Option ℕ

-- one message more, if it leads somewhere
abbrev pub one_more : Option ℕ → ℕ → ℕ
one_more none n = 0
one_more (some s) n = suc n

module _ (P : Pool) where
  -- a missing arc leads nowhere, and nowhere leads nowhere
  abbrev pub along : Option ℕ → ℕ → Option ℕ
  along none m = none
  along (some s) m = P.arc s m

  abbrev pub follow : Option ℕ → List ℕ → Option ℕ
  follow s [] = s
  follow s (m ∷ u) = follow (along s m) u

  -- HOW FAR a word is followed (document 02, change 7): how many messages it takes before it has nowhere to go, else its length; from nowhere none
  abbrev pub how_far : Option ℕ → List ℕ → ℕ
  how_far s [] = 0
  how_far s (m ∷ u) = one_more (along s m) (how_far (along s m) u)

  abbrev pub is_final : Option ℕ → Bool
  is_final none = false
  is_final (some s) = P.final s

  abbrev pub accepts : Option ℕ → List ℕ → Bool
  accepts s u = is_final (follow s u)

-- WHAT THAT MEANS, without the walk: the length of the longest beginning of u that leads from s somewhere (`far_is` of Laws/Far)
pub record Farthest (P : Pool) (s : ℕ) (u : List ℕ) (n : ℕ) : Type 0 where
  pub beginning : List ℕ
  pub rest : List ℕ
  pub whole : u ≡ beginning ++ rest
  pub long : n ≡ length beginning
  pub leads : (s' : ℕ) × (follow P (some s) beginning ≡ some s')
  pub longest : (v w : List ℕ) (s' : ℕ) → u ≡ v ++ w → follow P (some s) v ≡ some s' → length v ≤ n

-- the contents of all queues as one word: queue 0, then queue 1, and so on
abbrev pub word : List (List ℕ) → List ℕ
word [] = []
word (q ∷ qs) = q ++ word qs

-- and back: the messages below hi that a word begins with, and what is left; so queue by queue, the first from k on
abbrev pub front_of : ℕ → List ℕ → List ℕ
front_of hi [] = []
front_of hi (m ∷ u) = elim (ltb m hi) [ true ↦ m ∷ front_of hi u | false ↦ [] ]

abbrev pub rest_of : ℕ → List ℕ → List ℕ
rest_of hi [] = []
rest_of hi (m ∷ u) = elim (ltb m hi) [ true ↦ rest_of hi u | false ↦ m ∷ u ]

abbrev pub queues_from : ℕ → List ℕ → List ℕ → List (List ℕ)
queues_from k [] u = []
queues_from k (n ∷ ns) u = front_of (k + n) u ∷ queues_from (k + n) ns (rest_of (k + n) u)

-- A WORD IS OUT OF ORDER, over queues of so many messages each, if a message of an earlier queue stands after one of a later queue
pub record OutOfOrder (ns u : List ℕ) : Type 0 where
  pub before : List ℕ
  pub later : ℕ
  pub between : List ℕ
  pub earlier : ℕ
  pub after : List ℕ
  pub is : u ≡ before ++ (later ∷ (between ++ (earlier ∷ after)))
  pub back : queue_of ns earlier < queue_of ns later
