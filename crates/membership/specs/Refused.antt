-- What a refusal of membership means, in the words of the model: each number in its row's case of document 01, and no other.
use Rattle.std.specs.Prelude.{ℕ, ◌≤◌, ◌<◌, ◌≡◌, ◌⊎◌, List, [], ◌∷◌, ◌++◌, length}
use Rattle.numbers.specs.Part.{got, refused}
use Rattle.reading_file.specs.File.{read_file}
use Rattle.tables.specs.declared.tables.Tables.{Tables}
use Rattle.theory_model.specs.Model.{total, queue_of, controls, Own}
use Rattle.theory_model.specs.Diagram.{word}
use Rattle.theory_files.specs.Tables.{session_of}

-- the queue of the last message of a word, and queue p where it has none
abbrev pub last_queue : List ℕ → ℕ → List ℕ → ℕ
last_queue ns p [] = p
last_queue ns p (m ∷ u) = last_queue ns (queue_of ns m) u

-- 12 and 13: the messages before the place are contents of the queues, and the message there is not below the sum, or is of an earlier queue than
-- the one before it
pub record Stopped (ns contents : List ℕ) (k p : ℕ) : Type 0 where
  pub front : List ℕ
  pub message : ℕ
  pub rest : List ℕ
  pub whole : contents ≡ front ++ (message ∷ rest)
  pub place : p ≡ length front
  pub queues : List (List ℕ)
  pub own : Own 0 ns queues
  pub words : word queues ≡ front
  pub cause : ((k ≡ 12) × (total ns ≤ message)) ⊎ ((k ≡ 13) × (message < total ns) × (queue_of ns message < last_queue ns 0 front))

-- THE REFUSAL k at place p
pub data Refused (file : List ℕ) (c : ℕ) (contents : List ℕ) : ℕ → ℕ → Type 0 where
  -- reading's own
  unread : {k p : ℕ} → read_file file ≡ refused k p → Refused file c contents k p
  -- 11: the control state is not below K
  no_control : {T : Tables} {next : ℕ} → read_file file ≡ got T next → controls (session_of T).model ≤ c → Refused file c contents 11 0
  stopped : {T : Tables} {next k p : ℕ} → read_file file ≡ got T next → c < controls (session_of T).model
      → Stopped (session_of T).model.queues contents k p → Refused file c contents k p
