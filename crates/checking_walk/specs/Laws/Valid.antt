-- The tables of a file that was read can be walked over: what a walk asks of them holds.
use Rattle.std.specs.Prelude.{◌≡◌, refl, List, ℕ, ◌+◌, ◌*◌, ◌≤◌, ◌<◌, length}
use Rattle.std.proofs.Common.{arith}
use Rattle.tables.specs.Valid.{QueuesValid, TransitionsValid}
use Rattle.reading_file.specs.Valid.{Valid}
use Rattle.tables.specs.Laws.Lookup.{arcs_small}
use Rattle.tables.specs.declared.tables.Machines.{Machines}
use Rattle.tables.specs.declared.tables.Queues.{Queues}
use Rattle.tables.specs.declared.tables.Transitions.{Transitions}
use Rattle.tables.specs.declared.tables.Tables.{Tables}
use Rattle.theory_model.specs.Model.{messages}
use Rattle.theory_files.specs.Tables.{session_of}
use Rattle.tables.specs.Limits.{most_word}
use Rattle.tables.specs.Rows.{row_length, word_entry, length_at}
use Rattle.checking_pairs.specs.declared.pairs.Walk.{Walk}
use Rattle.following.specs.Standing.{WordWithin}
use Rattle.checking_pairs.specs.Over.{Lent, Over}

-- the word of a transition, or a front of it; and no word
pub word_within : {m : Machines} {q : Queues} {τ : Transitions} → TransitionsValid m q τ → QueuesValid q → (t n : ℕ) → t < τ.count
    → n ≤ length_at τ.rows (t * row_length) → WordWithin τ.rows (word_entry (t * row_length)) n
word_within {q = q} z s t n h g =
    let a = (z.row t h).action in
    record {
      within = omega (arith, z.most, z.long);
      most = omega (arith, a.word.most);
      messages = λ i l. omega (arith, a.word.below i (omega arith), s.sum_most);
    }

pub word_empty : {rows : List ℕ} {at : ℕ} → at + most_word ≤ length rows → WordWithin rows at 0
word_empty h = record { within = h; most = omega arith; messages = λ i l. absurd (omega arith) }

pub lent : {T : Tables} → Valid T → (w : Walk) → w.sum ≡ T.queues.sum → w.cut ≤ w.sum
    → WordWithin T.transitions.rows w.word w.out → WordWithin T.transitions.rows w.word w.into
    → Lent T.pool.arcs T.transitions.rows w
lent z w e cut out into =
    record {
      small = arcs_small z.pool;
      sum = omega (arith, z.queues.sum_most);
      cut = cut;
      out = out;
      into = into;
    }

-- and they are those of their session
pub over_session : (T : Tables) {sum : ℕ} → messages (session_of T).model ≡ sum → Over T.pool.arcs T.pool.finals sum (session_of T)
over_session T e = record { arc = refl; final = refl; letters = e }
