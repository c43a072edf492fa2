-- MEMBERSHIP (document 01, "Diagrams" and the refusals 11 to 13): whether contents belong to a control state of a file, for every input.
use Rattle.std.specs.Prelude.{ℕ, ◌+◌, Bool, true, false, List, [], ◌∷◌, ltb, leb}
use Rattle.std.proofs.Math.Option.{Option}
use Rattle.numbers.specs.Part.{got, refused}
use Rattle.reading_file.specs.File.{read_file}
use Rattle.theory_model.specs.Model.{total, queue_of, controls}
use Rattle.theory_model.specs.Diagram.{Pool, along, how_far, is_final}
use Rattle.theory_model.specs.Session.{Session}
use Rattle.theory_files.specs.Tables.{session_of}
use Rattle.numbers.specs.Refusals.{no_control, no_message, earlier_queue}

-- yes or no, with how far the contents are followed (document 02, change 7), or a refusal: its number in document 01 and its place
pub data MemberReply : Type 0 where
  yes : ℕ → MemberReply
  no : ℕ → MemberReply
  refusal : ℕ → ℕ → MemberReply

abbrev pub answer : Bool → ℕ → MemberReply
answer true far = yes far
answer false far = no far

-- the contents, which are followed so far, from a place on: the message before them is of this queue, and has led to s. Each message is held to its
-- number and then to its queue, wherever the diagram stands
unfoldable pub judge : List ℕ → Pool → ℕ → ℕ → ℕ → Option ℕ → List ℕ → MemberReply
judge ns P far place queue s [] = answer (is_final P s) far
judge ns P far place queue s (m ∷ u) =
    elim (ltb m (total ns)) [
      | false ↦ refusal no_message place
      | true ↦ elim (leb queue (queue_of ns m)) [
        | false ↦ refusal earlier_queue place
        | true ↦ judge ns P far (place + 1) (queue_of ns m) (along P s m) u
      ]
    ]

-- the question put to a session
unfoldable pub ask : Session → ℕ → List ℕ → MemberReply
ask S c contents =
    elim (ltb c (controls S.model)) [
      | false ↦ refusal no_control 0
      | true ↦ judge S.model.queues S.pool (how_far S.pool (S.root c) contents) 0 0 (S.root c) contents
    ]

-- and to a file, which is read first
unfoldable pub member_of : List ℕ → ℕ → List ℕ → MemberReply
member_of file c contents = elim (read_file file) [ refused k p ↦ refusal k p | got T next ↦ ask (session_of T) c contents ]
