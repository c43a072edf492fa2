-- What writing promises in each case.
-- These stand here and not in specs/ because a must-fail edit of what is replied first takes their ground away.
use Rattle.std.specs.Prelude.{ℕ, ◌≤◌, ◌<◌, ◌≡◌, Bool, true, false, cond, Result, Ok, Err, List, length}
use Rattle.std.proofs.Common.{sym, ap, subst, ◌∙◌, le-leb, arith}
use Rattle.std.proofs.lemmas.Bool.{lt-leb}
use Rattle.numbers.specs.Put.{Put}
use Rattle.numbers.specs.Laws.Put.{put_front}
use Rattle.tables.specs.declared.tables.Tables.{Tables}
use Rattle.theory_format.specs.Spelled.{spelled}
use Rattle.writing_file.specs.Write.{WriteReply, wrote, refusal, restored, write_reply, buffer_after, said_written, Writes}
use Rattle.writing_file.specs.Laws.Writing.{Fronted}
use Rattle.writing_file.specs.Laws.Restored.{unrestored_exactly}
use Rattle.writing_file.specs.declared.write.WriteRefusal.{WriteRefusal}
use Rattle.writing_file.specs.declared.write.WriteRefusal.TheVariants.{NotReadable, TooShort}
use Rattle.writing_file.specs.Laws.Promises.{sixteen_exactly}

module _ (T : Tables) (buffer : List ℕ) where
  abbrev reply_if : Bool → WriteReply
  reply_if b = write_reply b (spelled T) buffer

  -- reply and buffer are all there is to show
  promised : {r : Result ℕ WriteRefusal} {exit : List ℕ} → said_written r ≡ reply_if (restored T) → exit ≡ buffer_after (reply_if (restored T)) (spelled T) buffer
      → Writes T buffer r exit
  promised e f =
      record {
        reply = e;
        buffer = f;
        unread = (
          λ g. (unrestored_exactly T).0 ((sixteen_exactly (restored T) (spelled T) buffer).0 (sym e ∙ g)),
          λ h. e ∙ (sixteen_exactly (restored T) (spelled T) buffer).1 ((unrestored_exactly T).1 h),
        );
      }

  pub writes_unread : restored T ≡ false → Writes T buffer (Err NotReadable) buffer
  writes_unread e = promised (sym (ap reply_if e)) (sym (ap (λ b. buffer_after (reply_if b) (spelled T) buffer) e))

  abbrev fits_if : Bool → WriteReply
  fits_if b = cond b (wrote (length (spelled T))) (refusal 17 0)

  short_reply : restored T ≡ true → length buffer < length (spelled T) → reply_if (restored T) ≡ refusal 17 0
  short_reply e h = ap reply_if e ∙ ap fits_if (lt-leb (length (spelled T)) (length buffer) h)

  pub writes_short : {n : ℕ} {front : List ℕ} → Fronted T n front → restored T ≡ true → length buffer < n → Writes T buffer (Err TooShort) buffer
  writes_short f e h =
      let r = short_reply e (omega (arith, f.size)) in promised (sym r) (sym (ap (λ x. buffer_after x (spelled T) buffer) r))

  long_reply : restored T ≡ true → length (spelled T) ≤ length buffer → reply_if (restored T) ≡ wrote (length (spelled T))
  long_reply e h = ap reply_if e ∙ ap fits_if (le-leb (length (spelled T)) (length buffer) h)

  pub writes_whole : {n : ℕ} {front exit : List ℕ} {most r : ℕ} → Fronted T n front → restored T ≡ true → n ≤ length buffer
      → Put buffer 0 most front exit r → Writes T buffer (Ok r) exit
  writes_whole {front = front} {exit} {most} {r} f e h p =
      let l : length (spelled T) ≤ length buffer = omega (arith, f.size) in
      let w : Put buffer 0 most (spelled T) exit r = subst (λ u. Put buffer 0 most u exit r) f.is p in
      let x = long_reply e l in
      let n : r ≡ length (spelled T) = omega (arith, w.next) in
      promised (ap wrote n ∙ sym x) (put_front w l ∙ sym (ap (λ y. buffer_after y (spelled T) buffer) x))
