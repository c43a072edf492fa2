-- What an answer of membership means, in the words of the model: no walk in it.
use Rattle.std.specs.Prelude.{ℕ, ◌<◌, ◌≡◌, Bool, List}
use Rattle.numbers.specs.Part.{got}
use Rattle.reading_file.specs.File.{read_file}
use Rattle.tables.specs.declared.tables.Tables.{Tables}
use Rattle.theory_model.specs.Model.{controls, Contents}
use Rattle.theory_model.specs.Diagram.{word}
use Rattle.theory_model.specs.Session.{inside, how_far_in}
use Rattle.theory_files.specs.Tables.{session_of}

-- THE ANSWER yes (true) or no (false): the file was read, the control state is one of its session, the contents are the word of
-- some queues, and the configuration of the two is inside (true) or outside (false) and followed so far
pub record Answered (file : List ℕ) (c : ℕ) (contents : List ℕ) (b : Bool) (far : ℕ) : Type 0 where
  pub tables : Tables
  pub next : ℕ
  pub read : read_file file ≡ got tables next
  pub control : c < controls (session_of tables).model
  pub queues : List (List ℕ)
  pub own : Contents (session_of tables).model queues
  pub words : word queues ≡ contents
  pub decided : inside (session_of tables) (record { control = c; queues = queues }) ≡ b
  pub followed : far ≡ how_far_in (session_of tables) (record { control = c; queues = queues })
