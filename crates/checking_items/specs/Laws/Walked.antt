-- What the walk's answer makes of the promise for one item, over tables that were read.
use Rattle.std.specs.Prelude.{ℕ, ◌+◌, ◌*◌, ◌≤◌, ◌<◌, ◌≡◌, refl, true, false, List, ◌++◌, length, get_or, drop}
use Rattle.std.proofs.Common.{sym, ap, subst, ◌∙◌, inr, arith, mul-le-mul, length-append, drop_at}
use Rattle.tables.specs.Valid.{RowValid}
use Rattle.reading_file.specs.Valid.{Valid}
use Rattle.tables.specs.declared.tables.Queues.{Queues}
use Rattle.tables.specs.declared.tables.Tables.{Tables}
use Rattle.theory_model.specs.Verdict.{Item, step, entry, Pair, most}
use Rattle.theory_model.specs.Judge as Model
use Rattle.theory_model.specs.Judge.{passes, fails}
use Rattle.theory_model.specs.Searched.{judge_by_search}
use Rattle.theory_model.specs.Laws.Items.{IsItem, is_item, at_place}
use Rattle.theory_model.proofs.Deciding.{judge_bound}
use Rattle.theory_files.specs.Tables.{session_of, transition_at}
use Rattle.tables.specs.Limits.{contents_least, most_pool}
use Rattle.theory_files.specs.Laws.Sessions.{well_formed}
use Rattle.checking_pairs.specs.Pairs.{most_codes, pair_of, NodeFits, after_side}
use Rattle.following.specs.Standing.{WordWithin}
use Rattle.checking_pairs.specs.Over.{Lent}
use Rattle.checking_walk.specs.Laws.Valid.{word_empty}
use Rattle.checking_walk.specs.Judged.{judged_over, ShownFits, WalkJudged, contents_shown, said_judged, shown_by}
use Rattle.tables.specs.Lookup.{RootAt}
use Rattle.tables.specs.Laws.Lookup.{arcs_small, state_below}
use Rattle.tables.specs.declared.kinds.DiagramState.{DiagramState}
use Rattle.tables.specs.declared.kinds.Reached.{Reached}
use Rattle.checking_pairs.specs.declared.pairs.Walk.{Walk}
use Rattle.checking_pairs.specs.declared.pairs.Node.{Node}
use Rattle.checking_walk.specs.declared.judge.Shown.{Shown}
use Rattle.std.specs.Prelude.{Result, Ok, Err}
use Rattle.checking_items.specs.Cut.{Cuts}
use Rattle.controls.specs.Controls.{Moved}
use Rattle.checking_items.specs.Judging.{pairs_of, Kept, Scratch, Judging, StepAsked, EntryAsked}
use Rattle.checking_items.specs.Laws.Judge.{judged_item, few_pairs}
use Rattle.checking_items.specs.Laws.Item.{step_nothing, step_judged, step_fits, entry_nothing, entry_judged, entry_fits}
use Rattle.checking_items.specs.declared.cut.Cut.{Cut}
use Rattle.tables.specs.Rows.{row_length, word_entry, length_at}

-- the front of the buffer is written, the rest is kept
kept_front : (u contents contents' : List ℕ) (n : ℕ) → n ≡ length u → contents' ≡ u ++ drop (length u) contents
    → length contents' ≡ length contents → Kept n contents contents'
kept_front u contents contents' n e is long =
    record {
      long = long;
      within = omega (arith, ap length is, length-append u (drop (length u) contents));
      rest =
          ap (drop n) is ∙ drop_at u (drop (length u) contents) n (sym e) ∙ ap (λ k. drop k contents) (sym e);
    }

-- no more are shown than fit
fitting : {arcs finals rows : List ℕ} {w : Walk} {x : Pair} {contents seen' queue' contents' : List ℕ} {r : Result ℕ Shown} → ShownFits arcs finals rows w x
    → WalkJudged arcs finals rows w x contents seen' queue' contents' r → shown_by r ≤ contents_least
fitting {arcs} {finals} {rows} {w} {x} s j = omega (arith, j.number, by_judged (judged_over arcs finals rows w x) refl)
  where
    by_judged : (o : Model.Judged) → judged_over arcs finals rows w x ≡ o → length (contents_shown o) ≤ contents_least
    by_judged (passes n) e = omega arith
    by_judged (fails u) e = s.most u e

-- so many pairs and no more
few_passed : (T : Tables) (p : Valid T) (i : Item) → IsItem (session_of T) i → (r : Result ℕ Shown) (contents : List ℕ)
    → said_judged r contents ≡ judge_by_search (session_of T) most_codes i → most (session_of T) i ≤ most_codes → pairs_of r ≤ most_codes
few_passed T v i item r contents e m = go r e
  where
    go : (r : Result ℕ Shown) → said_judged r contents ≡ judge_by_search (session_of T) most_codes i → pairs_of r ≤ most_codes
    go (Ok n) e = omega (arith, judge_bound (session_of T) (well_formed T v) i (is_item (session_of T) i item) n (judged_item T v i item ∙ sym e), m)
    go (Err n) e = omega arith

entry_few : (T : Tables) → Valid T → T.pool.count * T.pool.count ≤ most_codes
entry_few T v =
    let p : T.pool.count * T.pool.count ≤ most_pool * most_pool = mul-le-mul v.pool.most v.pool.most in
    omega arith

-- what is asked for a step says of each table
module _ {T : Tables} {c row : ℕ} (a : StepAsked T c row) where
  abbrev rows : List ℕ
  rows = T.transitions.rows

  pub asked_long : row + row_length ≤ length rows
  asked_long = omega (arith, a.place, a.within, a.valid.transitions.most, a.valid.transitions.long)

  pub asked_row : RowValid T.machines T.queues rows row
  asked_row =
      subst (λ n. RowValid T.machines T.queues rows n) (sym a.place) (a.valid.transitions.row a.number a.within)

  -- messages of its word
  pub asked_word : {n : ℕ} → n ≤ length_at rows row → WordWithin rows (word_entry row) n
  asked_word l =
      let valid = asked_row in
      let long = asked_long in
      let queues = a.valid.queues in
      record {
        within = omega arith;
        most = omega (arith, valid.action.word.most);
        messages = λ i h. omega (arith, valid.action.word.below i (omega arith), queues.sum_most);
      }

pub roots_small : {T : Tables} → Valid T → (i : ℕ) → get_or T.map.roots i 0 ≤ most_pool
roots_small v i = omega (arith, v.map.roots i, v.pool.most)

-- THE STEP: its walk and its first pair, as the code makes them
abbrev pub walk_of : Queues → ℕ → Cut → Walk
walk_of q row k = record { cut = k.cut; sum = q.sum; word = word_entry row; out = k.out; into = k.into; entry = false }

abbrev pub node_of : Cut → DiagramState → Reached → Node
node_of k source target = record { side = k.side; source = source; target = target }

-- where source and target stand, and how the action parts the contents
pub record Begins (T : Tables) (c row : ℕ) (source : DiagramState) (target : Reached) (k : Cut) : Type 0 where
  pub to : ℕ
  pub here : RootAt T.map.roots c source.0
  pub somewhere : source.0 ≡ most_pool → ⊥
  pub goes : Moved T.machines T.transitions.rows row c to
  pub there : RootAt T.map.roots to target.0
  pub cuts : Cuts T.queues T.transitions.rows row k

-- a state that is the root, and so is not nowhere
pub state_somewhere : {s r : ℕ} → s ≡ r → (r ≡ most_pool → ⊥) → s ≡ most_pool → ⊥
state_somewhere same e z = e (sym same ∙ z)

pub root_as : {roots : List ℕ} {c r s : ℕ} → RootAt roots c r → s ≡ r → RootAt roots c s
root_as {roots} {c} here e = subst (RootAt roots c) (sym e) here

-- nothing was visited or written
pub judged_none : {o : Model.Judged} → o ≡ passes 0 → {contents seen queue : List ℕ} → Scratch seen queue → Judging o contents (Ok 0) contents seen queue
judged_none e s =
    record {
      is = sym e;
      few = omega arith;
      most = omega arith;
      kept = record { long = refl; within = omega arith; rest = refl };
      scratch = s;
    }

module _ {T : Tables} {c row : ℕ} (a : StepAsked T c row) where
  abbrev over : Walk → Node → Model.Judged
  over w x = judged_over T.pool.arcs T.pool.finals T.transitions.rows w (pair_of x)

  abbrev judged : ℕ → Model.Judged
  judged t = judge_by_search (session_of T) most_codes (step c t (transition_at T.transitions.rows row))

  pub begins : {r : ℕ} {source : DiagramState} {target : Reached} {k : Cut} (to : ℕ)
      → RootAt T.map.roots c r → (r ≡ most_pool → ⊥) → source.0 ≡ r → Moved T.machines T.transitions.rows row c to
      → RootAt T.map.roots to target.0 → Cuts T.queues T.transitions.rows row k → Begins T c row source target k
  begins to here e same goes there cuts =
      record {
        to = to;
        here = root_as here same;
        somewhere = state_somewhere same e;
        goes = goes;
        there = there;
        cuts = cuts;
      }

  pub step_none : {source : ℕ} → RootAt T.map.roots c source → source ≡ most_pool → {contents seen queue : List ℕ} → Scratch seen queue
      → Judging (judged 0) contents (Ok 0) contents seen queue
  step_none {source} here e s = judged_none (step_nothing T a.valid c row source 0 here e) s

  module _ {source : DiagramState} {target : Reached} {k : Cut} (b : Begins T c row source target k) where
    step_is : (t : ℕ) → over (walk_of T.queues row k) (node_of k source target) ≡ judged t
    step_is t =
        step_judged T a.valid c row source target b.to k b.here b.goes b.there b.cuts t b.somewhere

    pub step_shown : ShownFits T.pool.arcs T.pool.finals T.transitions.rows (walk_of T.queues row k) (pair_of (node_of k source target))
    step_shown =
        step_fits T a.valid c row source target b.to k b.here b.goes b.there b.cuts a.number b.somewhere a.item
        (asked_row a).action.word.most

    pub node_fits : NodeFits (node_of k source target)
    node_fits =
        record { side = b.cuts.sides; source = state_below b.here.most b.somewhere; target = b.there.most }

    pub step_lent : Lent T.pool.arcs T.transitions.rows (walk_of T.queues row k)
    step_lent =
        record {
          small = arcs_small a.valid.pool;
          sum = a.valid.queues.sum_most;
          cut = b.cuts.small.0;
          out = asked_word a b.cuts.small.1;
          into = asked_word a b.cuts.small.2;
        }

    -- the walk's answer is the judgement of the step
    pub step_walked : {contents contents' seen' queue' : List ℕ} {r : Result ℕ Shown}
        → WalkJudged T.pool.arcs T.pool.finals T.transitions.rows (walk_of T.queues row k) (pair_of (node_of k source target)) contents seen' queue' contents' r
        → length seen' ≡ most_codes → length queue' ≡ most_codes → length contents' ≡ length contents
        → Judging (judged 0) contents r contents' seen' queue'
    step_walked {contents} {contents'} {seen'} {queue'} {r} j ls lq lc =
        record {
          is = j.reply ∙ step_is 0;
          few =
              few_passed T a.valid (step c a.number (transition_at T.transitions.rows row)) a.item r contents'
              (j.reply ∙ step_is a.number) (few_pairs T a.valid);
          most = fitting step_shown j;
          kept =
              kept_front (contents_shown (over (walk_of T.queues row k) (node_of k source target))) contents contents' (shown_by r) j.number j.shown lc;
          scratch = record { seen_long = ls; queue_long = lq; blank = j.blank };
        }

-- A BAD ENTRY: its walk and its first pair, as the code makes them
abbrev pub entry_walk_of : Queues → Walk
entry_walk_of q = record { cut = 0; sum = q.sum; word = 0; out = 0; into = 0; entry = true }

abbrev pub entry_node_of : DiagramState → Reached → Node
entry_node_of source target = record { side = after_side; source = source; target = target }

module _ {T : Tables} {control root : ℕ} (a : EntryAsked T control root) where
  pub entry_root : root < most_pool
  entry_root = omega (arith, (well_formed T a.valid).entries control root (at_place (session_of T).bad a.number a.item), a.valid.pool.most)

  abbrev entry_over : DiagramState → Reached → Model.Judged
  entry_over source target = judged_over T.pool.arcs T.pool.finals T.transitions.rows (entry_walk_of T.queues) (pair_of (entry_node_of source target))

  abbrev entry_judgement : ℕ → Model.Judged
  entry_judgement b = judge_by_search (session_of T) most_codes (entry b (control, root))

  pub entry_none : {source : ℕ} → RootAt T.map.roots control source → source ≡ most_pool → {contents seen queue : List ℕ} → Scratch seen queue
      → Judging (entry_judgement 0) contents (Ok 0) contents seen queue
  entry_none {source} here e s = judged_none (entry_nothing T a.valid control root source 0 here e) s

  -- its source stands at the root of the control state, its target at the entry's root
  module _ {source : DiagramState} {target : Reached} (here : RootAt T.map.roots control source.0) (e : source.0 ≡ most_pool → ⊥)
      (same : target.0 ≡ root) where
    entry_is : (b : ℕ) → entry_over source target ≡ entry_judgement b
    entry_is b = entry_judged T a.valid control root source target same here b e entry_root

    pub entry_shown : ShownFits T.pool.arcs T.pool.finals T.transitions.rows (entry_walk_of T.queues) (pair_of (entry_node_of source target))
    entry_shown = entry_fits T a.valid control root source target same here a.number e entry_root a.item

    pub entry_node : NodeFits (entry_node_of source target)
    entry_node = record { side = inr refl; source = state_below here.most e; target = omega (arith, same, entry_root) }

    pub entry_lent : Lent T.pool.arcs T.transitions.rows (entry_walk_of T.queues)
    entry_lent =
        record {
          small = arcs_small a.valid.pool;
          sum = a.valid.queues.sum_most;
          cut = omega arith;
          out = word_empty (omega (arith, a.valid.transitions.long));
          into = word_empty (omega (arith, a.valid.transitions.long));
        }

    pub entry_walked : {contents contents' seen' queue' : List ℕ} {r : Result ℕ Shown}
        → WalkJudged T.pool.arcs T.pool.finals T.transitions.rows (entry_walk_of T.queues) (pair_of (entry_node_of source target)) contents seen' queue' contents' r
        → length seen' ≡ most_codes → length queue' ≡ most_codes → length contents' ≡ length contents
        → Judging (entry_judgement 0) contents r contents' seen' queue'
    entry_walked {contents} {contents'} {seen'} {queue'} {r} j ls lq lc =
        record {
          is = j.reply ∙ entry_is 0;
          few =
              few_passed T a.valid (entry a.number (control, root)) a.item r contents' (j.reply ∙ entry_is a.number)
              (entry_few T a.valid);
          most = fitting entry_shown j;
          kept = kept_front (contents_shown (entry_over source target)) contents contents' (shown_by r) j.number j.shown lc;
          scratch = record { seen_long = ls; queue_long = lq; blank = j.blank };
        }
