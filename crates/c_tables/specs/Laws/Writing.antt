-- What writing from flat bytes promises, in each case.
use Rattle.std.specs.Prelude.{ℕ, ◌*◌, ◌≤◌, ◌<◌, ◌≡◌, ◌↔◌, Bool, true, false, ◌&&◌, Result, Err, List, length, get_or, take, leb}
use Rattle.std.proofs.Math.Path.{refl}
use Rattle.std.proofs.Common.{sym, ap, subst, ◌∙◌, leb-true, le-leb, arith}
use Rattle.std.proofs.lemmas.Bool.{lt-leb}
use Rattle.tables.specs.Limits.{most_machines, most_controls, most_pool, most_bad}
use Rattle.tables.specs.Rows.{rows_length}
use Rattle.tables.specs.Pool.{pool_arcs}
use Rattle.tables.specs.declared.tables.Tables.{Tables}
use Rattle.theory_model.specs.Laws.Basics.{false_not_true}
use Rattle.theory_format.specs.Spelled.{spelled}
use Rattle.theory_format.specs.Readable.{Readable}
use Rattle.tables.specs.Head.{tables_of}
use Rattle.tables.specs.declared.head.Head.{Head}
use Rattle.writing_file.specs.Write.{restored, write_reply, buffer_after, said_written, Writes}
use Rattle.writing_file.specs.Laws.Writing.{unread_machines}
use Rattle.writing_file.specs.Laws.Restored.{restored_exactly}
use Rattle.writing_file.specs.Laws.Promises.{sixteen_exactly}
use Rattle.writing_file.proofs.Promises.{writes_unread}
use Rattle.writing_file.specs.declared.write.WriteRefusal.{WriteRefusal}
use Rattle.writing_file.specs.declared.write.WriteRefusal.TheVariants.{NotReadable}
use Rattle.c_tables.specs.Flat.{flat, tables_least}
use Rattle.c_tables.specs.Laws.Taken.{taken_readable, readable_taken}
use Rattle.c_tables.specs.Taken.{part, machines_place, rows_place, finals_place, arcs_place, roots_place, entries_place, head_at, tables_at}
use Rattle.c_tables.specs.Written.{restored_at, WritesFlat}

-- THE TEST fails exactly if the bytes begin with the flat tables of no file that is read
pub unrestored_at : (f : List ℕ) → (restored_at f ≡ false) ↔ ((T : Tables) → Readable T → take tables_least f ≡ flat T → ⊥)
unrestored_at f = (
  λ e T r g.
      let (h, s) = taken_readable f T r g in
      false_not_true (sym (ap (λ x. x && restored (tables_at f)) (le-leb tables_least (length f) h)) ∙ e) ((restored_exactly (tables_at f)).1 s),
  λ none. go none (leb tables_least (length f)) refl (restored (tables_at f)) refl,
)
  where
    go : ((T : Tables) → Readable T → take tables_least f ≡ flat T → ⊥) → (a : Bool) → leb tables_least (length f) ≡ a → (b : Bool)
        → restored (tables_at f) ≡ b → (a && b) ≡ false
    go none true e true g =
        let (T, (r, same)) = readable_taken f (leb-true tables_least (length f) e) ((restored_exactly (tables_at f)).0 g) in
        absurd (none T r same)
    go none true e false g = refl
    go none false e b g = refl

module _ (f buffer : List ℕ) where
  -- of the test alone, and of what is replied to it
  made : {b : Bool} {r : Result ℕ WriteRefusal} {exit : List ℕ} → b ≡ restored_at f → said_written r ≡ write_reply b (spelled (tables_at f)) buffer
      → exit ≡ buffer_after (write_reply b (spelled (tables_at f)) buffer) (spelled (tables_at f)) buffer → WritesFlat f buffer r exit
  made e reply buf =
      let same = reply ∙ ap (λ x. write_reply x (spelled (tables_at f)) buffer) e in
      record {
        reply = same;
        buffer = buf ∙ ap (λ x. buffer_after (write_reply x (spelled (tables_at f)) buffer) (spelled (tables_at f)) buffer) e;
        unread = (
          λ g. (unrestored_at f).0 ((sixteen_exactly (restored_at f) (spelled (tables_at f)) buffer).0 (sym same ∙ g)),
          λ h. same ∙ (sixteen_exactly (restored_at f) (spelled (tables_at f)) buffer).1 ((unrestored_at f).1 h),
        );
      }

  -- too few bytes
  pub flat_short : length f < tables_least → WritesFlat f buffer (Err NotReadable) buffer
  flat_short h = made {b = false} (sym (ap (λ x. x && restored (tables_at f)) (lt-leb tables_least (length f) h))) refl refl

  -- bytes enough: what writing their tables promises
  pub flat_writes : {T : Tables} {r : Result ℕ WriteRefusal} {exit : List ℕ} → tables_least ≤ length f → T ≡ tables_at f → Writes T buffer r exit
      → WritesFlat f buffer r exit
  flat_writes {r = r} {exit} h e w =
      let u : Writes (tables_at f) buffer r exit = subst (λ (x : Tables). Writes x buffer r exit) e w in
      made {b = restored (tables_at f)} (sym (ap (λ x. x && restored (tables_at f)) (le-leb tables_least (length f) h))) u.reply u.buffer

  count_is : (tables_at f).machines.count ≡ get_or f machines_place 0
  unfolding tables_at
  count_is = refl

  -- more machines than a file has
  pub flat_machines : tables_least ≤ length f → most_machines < get_or f machines_place 0 → WritesFlat f buffer (Err NotReadable) buffer
  flat_machines h g = flat_writes h refl (writes_unread (tables_at f) buffer (unread_machines (tables_at f) (omega (arith, count_is))))

  -- the parts that are lent are those of the tables
  pub flat_parts : {h : Head} {r : Result ℕ WriteRefusal} {exit : List ℕ} → tables_least ≤ length f → h ≡ head_at f
      → Writes (tables_of h (part rows_place rows_length f) (part finals_place most_pool f) (part arcs_place pool_arcs f) (part roots_place most_controls f) (part entries_place (most_bad * 2) f)) buffer r exit
      → WritesFlat f buffer r exit
  unfolding tables_at
  flat_parts l e w =
      flat_writes l
      (ap (λ (x : Head). tables_of x (part rows_place rows_length f) (part finals_place most_pool f) (part arcs_place pool_arcs f) (part roots_place most_controls f) (part entries_place (most_bad * 2) f)) e)
      w
