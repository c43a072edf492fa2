-- The question, by what reading the file answered and by the tables that it handed back.
use Rattle.std.specs.Prelude.{ℕ, ◌≤◌, ◌<◌, ◌≡◌, List, Result, Ok, Err, IsErrAnd, take}
use Rattle.std.proofs.Common.{sym, ap, arith}
use Rattle.std.proofs.Math.Option.{Option}
use Rattle.std.proofs.Math.Dec.{ltb}
use borrow.Author.Tests.{lt-ltb, le-ltb}
use Rattle.numbers.specs.Part.{Part, got, refused}
use Rattle.numbers.specs.Said.{number_of, place_of}
use Rattle.numbers.specs.declared.refusal.Refusal.{Refusal}
use Rattle.reading_file.specs.Said.{read, refusal as turned_away}
use Rattle.reading_file.specs.File.{read_file, read_reply_of, tables_read}
use Rattle.reading_file.specs.Valid.{Valid}
use Rattle.reading_file.specs.Laws.Valid.{valid}
use Rattle.tables.specs.declared.tables.Tables.{Tables}
use Rattle.theory_model.specs.Model.{controls}
use Rattle.theory_model.specs.Diagram.{how_far}
use Rattle.theory_tables.specs.Pool.{pool_of}
use Rattle.theory_files.specs.Tables.{session_of}
use Rattle.tables.specs.Lookup.{root_of}
use Rattle.membership.specs.Member.{refusal, judge, ask, member_of}
use Rattle.membership.specs.Said.{said_member}
use Rattle.membership.specs.declared.reply.Member.{Member}
use Rattle.membership.specs.declared.reply.MemberRefusal.{MemberRefusal}
use Rattle.membership.specs.declared.reply.MemberRefusal.TheVariants.{File}
use Rattle.theory_files.specs.Laws.Lookup.{controls_are}

module _ {T : Tables} (v : Valid T) (c : ℕ) (contents : List ℕ) where
  pub ask_unknown : T.machines.product ≤ c → ask (session_of T) c contents ≡ refusal 11 0
  unfolding ask
  ask_unknown h =
      let e : ltb c (controls (session_of T).model) ≡ _ = le-ltb c (controls (session_of T).model) (omega (arith, controls_are v.machines)) in
      rw (e, ask)

  pub ask_judged : {s : Option ℕ} → c < T.machines.product → s ≡ root_of T.map.roots c
      → ask (session_of T) c contents ≡ judge (take T.queues.count T.queues.messages) (pool_of T.pool) (how_far (pool_of T.pool) s contents) 0 0 s contents
  unfolding ask
  ask_judged h f =
      let e : ltb c (controls (session_of T).model) ≡ _ = lt-ltb c (controls (session_of T).model) (omega (arith, controls_are v.machines)) in
      rw (e, f, ask)

-- a refusal of the file that `?` hands on
pub said_handed_on : (r : Result Member MemberRefusal) (why : Refusal) → IsErrAnd r (λ e. e ≡ File why)
    → said_member r ≡ refusal (number_of why) (place_of why)
said_handed_on (Err e) why h = ap (λ x. said_member (Err x)) h
said_handed_on (Ok x) why h = absurd h

-- a reply of reading is of a file that was read, or refused
refused_is : (x : Part Tables) {k p : ℕ} → turned_away k p ≡ read_reply_of x → x ≡ refused k p
refused_is (got T next) e = let z : ◌≡◌ {A = ℕ} 0 1 = cc in absurd (omega arith)
refused_is (refused k p) e = cc

got_is : (x : Part Tables) {T : Tables} → read ≡ read_reply_of x → T ≡ tables_read x → (next : ℕ) × (x ≡ got T next)
got_is (got T next) e f = (next, ap (λ t. got t next) (sym f))
got_is (refused k p) e f = let z : ◌≡◌ {A = ℕ} 0 1 = cc in absurd (omega arith)

module _ (file : List ℕ) where
  pub read_valid : {T : Tables} → read ≡ read_reply_of (read_file file) → T ≡ tables_read (read_file file) → Valid T
  read_valid e f = valid file (got_is (read_file file) e f).1

  module _ (c : ℕ) (contents : List ℕ) where
    pub member_unread : {k p : ℕ} → read_file file ≡ refused k p → member_of file c contents ≡ refusal k p
    unfolding member_of
    member_unread e = rw (e, member_of)

    pub member_asked : {T : Tables} {next : ℕ} → read_file file ≡ got T next → member_of file c contents ≡ ask (session_of T) c contents
    unfolding member_of
    member_asked e = rw (e, member_of)

    pub reply_unread : {k p : ℕ} → turned_away k p ≡ read_reply_of (read_file file) → member_of file c contents ≡ refusal k p
    reply_unread e = member_unread (refused_is (read_file file) e)

    pub reply_asked : {T : Tables} → read ≡ read_reply_of (read_file file) → T ≡ tables_read (read_file file)
        → member_of file c contents ≡ ask (session_of T) c contents
    reply_asked e f = member_asked (got_is (read_file file) e f).1
