-- How far the contents after a step are followed: what is asked of the contents before it, and that what is found is the model's number.
use Prim.Native.Nat.{ℕ}
use Rattle.std.specs.Prelude.{◌≡◌, length, take, drop}
use Rattle.std.proofs.Common.{sym, ap, ◌∙◌, arith, lt-ltb, take-append-drop, length-drop, length-take-le}
use Rattle.std.proofs.Math.Path.{ap₂, subst}
use mathlib.Core.List.{List}
use Rattle.tables.specs.Limits.{most_messages}
use Rattle.tables.specs.Kinds.{reached_of}
use Rattle.tables.specs.Lookup.{root_of, RootAt}
use Rattle.tables.specs.Rows.{word_entry}
use Rattle.tables.specs.declared.tables.Tables.{Tables}
use Rattle.reading_file.specs.Valid.{Valid}
use Rattle.theory_tables.specs.Pool.{arc_of}
use Rattle.theory_tables.specs.Laws.Queues.{messages_are}
use Rattle.theory_model.specs.Model.{Action, Transition, Between, moved}
use Rattle.theory_model.specs.Diagram.{how_far, front_of, rest_of}
use Rattle.theory_model.specs.Session.{Session}
use Rattle.theory_model.specs.Verdict.{step, Fails}
use Rattle.theory_model.specs.Judge.{cut, out, into, exchanged, far_after, fails}
use Rattle.theory_model.specs.Searched.{judge_by_search}
use Rattle.theory_model.specs.Laws.Queues.{between_wide, between_append, between_front, between_back, word_between}
use Rattle.theory_model.specs.Laws.Items.{IsItem}
use Rattle.theory_model.specs.Laws.Judging.{JudgedMeans}
use Rattle.theory_model.proofs.Verdicts.{judge_means}
use Rattle.theory_files.specs.Tables.{session_of, transition_at}
use Rattle.theory_files.specs.Laws.Sessions.{well_formed}
use Rattle.controls.specs.Controls.{Moved}
use Rattle.following.specs.Follow.{far_arcs}
use Rattle.following.specs.Standing.{word_over, WordWithin}
use Rattle.following.specs.Laws.Words.{word_small}
use Rattle.following.specs.Laws.Far.{far_is_arcs}
use Rattle.following.specs.After.{ContentsAt}
use Rattle.following.specs.Laws.Front.{front_taken, front_dropped}
use Rattle.checking_pairs.specs.Pairs.{most_codes}
use Rattle.checking_items.specs.Cut.{action_at, Cuts}
use Rattle.checking_items.specs.Judging.{StepAsked}
use Rattle.checking_items.specs.Far.{FarFound}
use Rattle.checking_items.specs.Laws.Judge.{judged_item}
use Rattle.checking_items.specs.Laws.Item.{cut_is}
use Rattle.checking_items.specs.Laws.Walked.{asked_word}
use Rattle.checking_items.specs.declared.cut.Cut.{Cut}

-- messages stay small where contents are parted and exchanged
front_between : {top : ℕ} (cut : ℕ) (u : List ℕ) → Between 0 top u → Between 0 top (front_of cut u)
front_between {top} cut u b =
    subst (Between 0 top) (front_taken cut u)
    (between_front (take n u) (drop n u) (subst (Between 0 top) (sym (take-append-drop n u)) b))
  where
    n : ℕ
    n = length (front_of cut u)

drop_between : {top : ℕ} (n : ℕ) (u : List ℕ) → Between 0 top u → Between 0 top (drop n u)
drop_between {top} n u b = between_back (take n u) (drop n u) (subst (Between 0 top) (sym (take-append-drop n u)) b)

rest_between : {top : ℕ} (cut : ℕ) (u : List ℕ) → Between 0 top u → Between 0 top (rest_of cut u)
rest_between {top} cut u b = subst (Between 0 top) (front_dropped cut u) (drop_between (length (front_of cut u)) u b)

exchanged_between : {top : ℕ} (cut out : ℕ) (w u : List ℕ) → Between 0 top w → Between 0 top u → Between 0 top (exchanged cut out w u)
exchanged_between cut out w u a b =
    between_append (front_between cut u b) (between_append a (drop_between out (rest_of cut u) (rest_between cut u b)))

-- a word has as many messages as it says
word_length_lem : {rows : List ℕ} {at n : ℕ} → WordWithin rows at n → length (word_over rows at n) ≡ n
word_length_lem {rows} {at} {n} w = length-take-le n (drop at rows) (omega (arith, length-drop at rows, w.within, w.most))

module _ (T : Tables) (v : Valid T) where
  abbrev S : Session
  S = session_of T

  abbrev rows : List ℕ
  rows = T.transitions.rows

  -- THE NUMBER: what is followed in the tables is followed in the model
  module _ (c row target to : ℕ) (k : Cut) (goes : Moved T.machines rows row c to) (there : RootAt T.map.roots to target)
      (cuts : Cuts T.queues rows row k) (taken : WordWithin rows (word_entry row) k.out) (put : WordWithin rows (word_entry row) k.into) where
    pub far_found : (u : List ℕ) → Between 0 most_messages u
        → far_arcs T.pool.arcs (reached_of target) (exchanged k.cut k.out (word_over rows (word_entry row) k.into) u)
        ≡ far_after S c (transition_at rows row) u
    unfolding far_after
    far_found u b =
        far_is_arcs S.pool T.pool.arcs (λ s m h. rw (lt-ltb m most_messages h, arc_of)) (reached_of target) parts
        (exchanged_between k.cut k.out (word_over rows (word_entry row) k.into) u (word_small rows (word_entry row) k.into put) b)
        ∙ ap₂ (how_far S.pool) target_is parts_are
      where
        put_in : List ℕ
        put_in = word_over rows (word_entry row) k.into

        parts : List ℕ
        parts = exchanged k.cut k.out put_in u

        a : Action
        a = action_at rows row

        target_is : reached_of target ≡ S.root (moved S.model c (transition_at rows row))
        target_is = there.is ∙ ap (root_of T.map.roots) goes

        parts_are : parts ≡ exchanged (cut S a) (length (out a)) (into a) u
        parts_are =
            ap (λ x. exchanged x k.out put_in u) (cuts.cut ∙ cut_is S a)
            ∙ ap (λ n. exchanged (cut S a) n put_in u) (sym (word_length_lem taken) ∙ ap length cuts.out)
            ∙ ap (λ l. exchanged (cut S a) (length (out a)) l u) cuts.into

  -- WHAT IS ASKED of the contents shown: they are those of a configuration
  pub shown_between : (c t : ℕ) (τ : Transition) (w : List ℕ) → IsItem S (step c t τ) → judge_by_search S most_codes (step c 0 τ) ≡ fails w → Between 0 most_messages w
  unfolding judge_by_search
  shown_between c t τ w item e =
      let F : Fails S (step c t τ) w = subst (JudgedMeans S (step c t τ)) (judged_item T v (step c t τ) item ∙ e) (judge_means S (well_formed T v) (step c t τ) item) in
      subst (Between 0 most_messages) F.contents
      (between_wide (omega arith) (omega (arith, messages_are v.queues, v.queues.sum_most)) (word_between F.against.contents))

-- of a step that is an item
pub step_far : {T : Tables} {c row : ℕ} → StepAsked T c row → {to target shown far : ℕ} {k : Cut} {contents : List ℕ} → Moved T.machines T.transitions.rows row c to
    → RootAt T.map.roots to target → Cuts T.queues T.transitions.rows row k → ContentsAt contents shown
    → far ≡ far_arcs T.pool.arcs (reached_of target) (exchanged k.cut k.out (word_over T.transitions.rows (word_entry row) k.into) (take shown contents))
    → FarFound T c row contents shown far
step_far {T} {c} {row} a {to} {target} {shown} {far} {k} {contents} goes there cuts A e =
    record {
      is =
          e ∙ far_found T a.valid c row target to k goes there cuts (asked_word a cuts.small.1) (asked_word a cuts.small.2) (take shown contents) A.messages;
    }
