-- Where a message and a word lead, as the code finds it in the tables.
use Rattle.std.specs.Prelude.{◌≡◌, refl, Bool, true, false, List, ℕ, ◌<◌}
use Rattle.std.proofs.Common.{sym, ap, ap₂, ◌∙◌, lt-ltb}
use Rattle.std.proofs.Math.Option.{Option, none, some}
use Rattle.tables.specs.Pool.{arc_at}
use Rattle.tables.specs.Limits.{most_pool, most_messages}
use Rattle.tables.specs.Lookup.{along_arc, AlongTo}
use Rattle.theory_tables.specs.Pool.{arc_of}
use Rattle.theory_model.specs.Diagram.{along, follow}
use Rattle.theory_model.specs.Verdict.{Pair, after}
use Rattle.theory_model.specs.Judge.{pair}
use Rattle.following.specs.Follow.{FollowsTo}
use Rattle.following.specs.Standing.{word_over, WordWithin}
use Rattle.following.specs.Laws.Follow.{follow_is}
use Rattle.following.specs.Laws.Words.{word_small}
use Rattle.checking_pairs.specs.declared.pairs.Node.{Node}
use Rattle.checking_pairs.specs.declared.pairs.Walk.{Walk}
use Rattle.std.specs.Prelude as Code
use Rattle.tables.specs.Kinds.{reached_of}
use Rattle.checking_pairs.specs.Pairs.{nowhere, after_side, side_of, pair_of, Coded}
use Rattle.tables.specs.Laws.Lookup.{reached_nowhere, reached_state, reached_small}
use Rattle.checking_pairs.specs.Over.{pool_over, read_over, jump_over, Lent, MessageRead}
use Rattle.checking_pairs.specs.Leads.{LeadsTo}

pub arc_is : (arcs : List ℕ) (s m : ℕ) → m < most_messages → arc_of arcs s m ≡ arc_at arcs s m
arc_is arcs s m h = rw (lt-ltb m most_messages h, arc_of)

-- A MESSAGE: the lookup of the code is the model's
along_is : (arcs : List ℕ) (o : Option ℕ) {m : ℕ} → m < most_messages → along (pool_over arcs) o m ≡ along_arc arcs o m
along_is arcs none h = refl
along_is arcs (some s) {m} h = arc_is arcs s m h

pub reads_along : {arcs : List ℕ} {t m k r : ℕ} → m ≡ k → k < most_messages → AlongTo arcs t m r → MessageRead arcs t k r
reads_along {arcs} {t} e h a =
    record { is = a.is ∙ ap (along_arc arcs (reached_of t)) e ∙ sym (along_is arcs (reached_of t) h); most = a.most }

-- A WORD: what is found in the tables is the model's
found_is : {arcs rows : List ℕ} {at n t r : ℕ} → WordWithin rows at n → FollowsTo arcs t (word_over rows at n) r
    → reached_of r ≡ follow (pool_over arcs) (reached_of t) (word_over rows at n)
found_is {arcs} {rows} {at} {n} {t} w f =
    f.is ∙ follow_is (pool_over arcs) arcs (arc_is arcs) (reached_of t) (word_over rows at n) (word_small rows at n w)

-- A PAIR
pub pair_dropped : {entry : Bool} (y : Node) → entry ≡ true → y.target.0 ≡ nowhere
    → pair entry (side_of y.side) (some y.source.0) (reached_of y.target.0) ≡ none
pair_dropped y e n = ap₂ (λ b o. pair b (side_of y.side) (some y.source.0) o) e (reached_nowhere n)

step_pair : (side : ℕ → Option ℕ → Pair) (s : ℕ) (o : Option ℕ) → pair false side (some s) o ≡ some (side s o)
step_pair side s none = refl
step_pair side s (some t) = refl

-- for a step a target that is nowhere is kept
pub pair_step : {entry : Bool} (y : Node) → entry ≡ false → some (pair_of y) ≡ pair entry (side_of y.side) (some y.source.0) (reached_of y.target.0)
pair_step y e =
    sym (ap (λ b. pair b (side_of y.side) (some y.source.0) (reached_of y.target.0)) e ∙ step_pair (side_of y.side) y.source.0 (reached_of y.target.0))

pub pair_state : (entry : Bool) (y : Node) → (y.target.0 ≡ nowhere → ⊥)
    → some (pair_of y) ≡ pair entry (side_of y.side) (some y.source.0) (reached_of y.target.0)
pair_state entry y n =
    ap (λ o. some (side_of y.side y.source.0 o)) (reached_state n) ∙ sym (ap (pair entry (side_of y.side) (some y.source.0)) (reached_state n))

-- what the code answers then
pub leads_nowhere : {o : Option Pair} → o ≡ none → LeadsTo Code.None o
leads_nowhere e = record { is = sym e; small = tt }

pub leads_pair : {y : Node} {c : ℕ} {o : Option Pair} → Coded y c → some (pair_of y) ≡ o → LeadsTo (Code.Some c) o
leads_pair k e = record { is = ap some k.is ∙ e; small = k.small }

pub leads_as : {r : Code.Option ℕ} {o o' : Option Pair} → o ≡ o' → LeadsTo r o → LeadsTo r o'
leads_as e l = record { is = l.is ∙ e; small = l.small }

-- where both read a message
pub read_missing : (arcs : List ℕ) (entry : Bool) (k s : ℕ) (t : Option ℕ) (m : ℕ) → m < most_messages → arc_at arcs s m ≡ none → read_over arcs entry k s t m ≡ none
read_missing arcs entry k s t m h e = ap (λ o. pair entry (side_of k) o (along (pool_over arcs) t m)) (arc_is arcs s m h ∙ e)

pub read_is : {arcs : List ℕ} (entry : Bool) (k s m : ℕ) {t s' t' : ℕ} → m < most_messages → arc_at arcs s m ≡ some s' → MessageRead arcs t m t'
    → pair entry (side_of k) (some s') (reached_of t') ≡ read_over arcs entry k s (reached_of t) m
read_is {arcs} entry k s m h e z = ap₂ (pair entry (side_of k)) (sym (arc_is arcs s m h ∙ e)) z.is

-- where both make the step
module _ {arcs rows : List ℕ} (w : Walk) (lent : Lent arcs rows w) {s k s' : ℕ} (small : s < most_pool) (e : k ≡ s)
    (f : FollowsTo arcs k (word_over rows w.word w.out) s') where
  source_is : reached_of s' ≡ follow (pool_over arcs) (some s) (word_over rows w.word w.out)
  source_is =
      found_is lent.out f
      ∙ ap (λ o. follow (pool_over arcs) o (word_over rows w.word w.out)) (ap reached_of e ∙ reached_small small)

  pub jump_missing : (t : Option ℕ) → s' ≡ nowhere → jump_over arcs rows w s t ≡ none
  jump_missing t z =
      ap (λ o. pair w.entry after o (follow (pool_over arcs) t (word_over rows w.word w.into))) (sym source_is ∙ reached_nowhere z)

  pub jump_is : {l t t' : ℕ} → (s' ≡ nowhere → ⊥) → l ≡ s' → FollowsTo arcs t (word_over rows w.word w.into) t'
      → pair w.entry (side_of after_side) (some l) (reached_of t') ≡ jump_over arcs rows w s (reached_of t)
  jump_is n z g = ap₂ (pair w.entry after) (ap some z ∙ sym (reached_state n) ∙ source_is) (found_is lent.into g)
