-- The contents shown fit the contents buffer, one byte for each message, and the buffer keeps its length.
use Prim.Native.Nat.{ℕ, zero, suc, ◌+◌, ◌*◌, ◌≤◌, zero-le}
use Rattle.std.specs.Prelude.{◌≡◌, drop, take}
use Rattle.std.proofs.Math.Path.{refl}
use Rattle.std.proofs.Common.{sym, subst, length-append, length-drop, length-take, arith, mul-le-mul}
use mathlib.Core.List.{List, [], ◌∷◌}
use Rattle.std.proofs.Math.ListN.{length}
use Rattle.std.proofs.Math.Seq.{take-append_seam}
use Rattle.numbers.specs.Part as Part
use Rattle.tables.specs.Limits.{most_word, most_messages}
use Rattle.reading_file.specs.Valid.{Valid}
use Rattle.tables.specs.declared.tables.Tables.{Tables}
use Rattle.theory_exploration.specs.Mem.{Mem, here, there}
use Rattle.theory_model.specs.Model.{Between, nothing, Contents}
use Rattle.theory_model.specs.Diagram.{word}
use Rattle.theory_model.specs.Session.{Session, WellFormed}
use Rattle.theory_model.specs.Verdict.{Item, start, step, entry, items, most_pairs, Reply, closed, outside, leaves, bad, Means}
use Rattle.theory_model.specs.Judge.{Judged, passes, fails, judge, reply, decide, out}
use Rattle.theory_model.specs.Judge as Judge
use Rattle.theory_model.specs.Laws.Queues.{word_between, between_wide}
use Rattle.theory_model.specs.Laws.Items.{IsItem, item_is, at_place}
use Rattle.theory_model.specs.Laws.Lengths.{taken, showing, shown_bound}
use Rattle.theory_model.proofs.Verdicts.{verdict_means}
use Rattle.theory_files.specs.Tables.{action_of, session_of}
use Rattle.theory_files.specs.Reply.{FileReply, verdict, reply_to, shown_of}
use Rattle.theory_files.specs.Checking.{most_shown, read_lent, contents_after, check_of}
use Rattle.theory_files.specs.Laws.Rows.{transition_row}
use Rattle.theory_tables.specs.Laws.Queues.{messages_are}
use Rattle.theory_files.specs.Laws.Sessions.{well_formed}
use Rattle.theory_files.specs.Laws.Claims.{Sound}
use Rattle.theory_files.specs.Laws.Checking.{Ways, long, little, whole, ways, enough_long, lent_sound}
use Rattle.tables.specs.Rows.{row_length, word_entry, kind_at, queue_at, length_at}

-- a failing item shows no more than what speaks against it
reply_shows : (S : Session) (i : Item) (w : List ℕ) (b : ℕ) → length (showing i w) ≤ b → length (shown_of (verdict (reply S i w))) ≤ b
reply_shows S start w b h = zero-le
reply_shows S (step c t τ) w b h = h
reply_shows S (entry c e) w b h = h

module _ (S : Session) (wf : WellFormed S) (b : ℕ) (most : (i : Item) → IsItem S i → most_pairs S.pool.states + length (taken i) ≤ b) where
  decided_fits : (is : List Item) (n : ℕ) → ((i : Item) → Mem i is → IsItem S i) → length (shown_of (verdict (decide S is n))) ≤ b
  unfolding decide
  decided_fits [] n h = zero-le
  decided_fits (i ∷ is) n h = by_judgement (judge S i) refl (λ k. decided_fits is (n + k) (λ j m. h j (there m)))
    where
      by_judgement : (j : Judged) → judge S i ≡ j → ((k : ℕ) → length (shown_of (verdict (decide S is (n + k)))) ≤ b)
          → length (shown_of (verdict (elim j [ passes k ↦ decide S is (n + k) | fails w ↦ reply S i w ]))) ≤ b
      by_judgement (passes k) e rest = rest k
      by_judgement (fails w) e rest =
          let item = h i (here refl) in
          let short = shown_bound S wf i item w e in
          let all = most i item in
          reply_shows S i w b (omega arith)

-- no more is taken than a word of a file may have
module _ (T : Tables) (ok : Valid T) where
  out_short : (k q len : ℕ) (t : List ℕ) → len ≤ most_word → length (out (action_of k q (take len t))) ≤ most_word
  out_short zero q len t h = zero-le
  out_short (suc zero) q len t h = zero-le
  out_short (suc (suc k)) q len t h = omega (arith, length-take len t)

  taken_short : (i : Item) → IsItem (session_of T) i → length (taken i) ≤ most_word
  taken_short start h = zero-le
  taken_short (step c t τ) (l, g, a) =
      let rows = T.transitions.rows in
      let (j, m, e) = transition_row rows T.transitions.count 0 τ (at_place (session_of T).model.transitions t g) in
      subst (λ σ. length (out σ.action) ≤ most_word) (sym e)
      (out_short (kind_at rows (j * row_length)) (queue_at rows (j * row_length)) (length_at rows (j * row_length))
      (drop (word_entry (j * row_length)) rows) (ok.transitions.row j (omega arith)).action.word.most)
  taken_short (entry b e) h = zero-le

  shown_most : (i : Item) → IsItem (session_of T) i → most_pairs T.pool.count + length (taken i) ≤ most_shown
  shown_most i h =
      let n = T.pool.count in
      let few : n ≤ 127 = ok.pool.most in
      let more : n + 1 ≤ 128 = omega arith in
      omega (arith, mul-le-mul few more, taken_short i h)

  session_fits : length (shown_of (verdict (Judge.verdict (session_of T)))) ≤ most_shown
  unfolding Judge.verdict
  session_fits = decided_fits (session_of T) (well_formed T ok) most_shown shown_most (items (session_of T)) 0 (item_is (session_of T))

-- THE CONTENTS SHOWN FIT
pub shown_fits : (x : Part.Part Tables) → Sound x → length (shown_of (reply_to x)) ≤ most_shown
shown_fits (Part.refused k p) ok = zero-le
shown_fits (Part.got T next) ok = session_fits T (ok T next refl)

module _ (file seen queue contents : List ℕ) where
  -- what checking shows is no longer than the buffer lent
  pub shown_within : length (shown_of (check_of file seen queue contents).reply) ≤ length contents
  shown_within = go (ways file seen queue contents)
    where
      go : Ways file seen queue contents (read_lent file seen queue contents) → length (shown_of (check_of file seen queue contents).reply) ≤ length contents
      go (long e) = subst (λ x. length (shown_of (reply_to x)) ≤ length contents) (sym e) zero-le
      go (little h l e) = subst (λ x. length (shown_of (reply_to x)) ≤ length contents) (sym e) zero-le
      go (whole h e) =
          let fits = shown_fits (read_lent file seen queue contents) (lent_sound file seen queue contents) in
          omega (arith, (enough_long file seen queue contents h).2)

  -- the buffer keeps its length
  pub contents_kept : length (check_of file seen queue contents).contents ≡ length contents
  contents_kept =
      let shown = shown_of (check_of file seen queue contents).reply in
      omega (arith, shown_within, length-append shown (drop (length shown) contents), length-drop (length shown) contents)

-- what is shown stands at the front
pub shown_front : (r : FileReply) (contents : List ℕ) → take (length (shown_of r)) (contents_after r contents) ≡ shown_of r
shown_front r contents = take-append_seam (shown_of r) (drop (length (shown_of r)) contents)

-- EACH MESSAGE SHOWN is below the sum of the messages, and so a byte
module _ (T : Tables) (ok : Valid T) where
  fails_below : (qs : List (List ℕ)) (w : List ℕ) → Contents (session_of T).model qs → word qs ≡ w → Between 0 most_messages w
  fails_below qs w c e =
      let sum = messages_are ok.queues in
      subst (Between 0 most_messages) e (between_wide (omega arith) (omega (arith, ok.queues.sum_most)) (word_between c))

  meaning_below : (v : Reply) → Means (session_of T) (items (session_of T)) v → Between 0 most_messages (shown_of (verdict v))
  meaning_below (closed n) m = nothing
  meaning_below outside m = nothing
  meaning_below (leaves c t w f) (τ, F, e) = fails_below F.fails.shown.queues w F.fails.against.contents F.fails.contents
  meaning_below (bad b w) (e, F) = fails_below F.fails.shown.queues w F.fails.against.contents F.fails.contents

pub shown_below : (x : Part.Part Tables) → Sound x → Between 0 most_messages (shown_of (reply_to x))
shown_below (Part.refused k p) ok = nothing
shown_below (Part.got T next) ok =
    meaning_below T (ok T next refl) (Judge.verdict (session_of T)) (verdict_means (session_of T) (well_formed T (ok T next refl)))
