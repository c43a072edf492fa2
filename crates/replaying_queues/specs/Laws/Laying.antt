-- Starting contents laid into rings, queue by queue.
use Rattle.std.specs.Prelude.{ℕ, ◌+◌, ◌*◌, ◌≤◌, ◌<◌, ◌≡◌, refl, List, [], ◌∷◌, ◌++◌, take, drop}
use Rattle.std.proofs.Common.{sym, ap, subst, ◌∙◌, arith, add-one, length-drop, length-take-le, drop-drop}
use Rattle.std.proofs.Math.Path.{ap₂}
use Rattle.std.proofs.Math.ListN.{length, get_or}
use Rattle.numbers.specs.Laws.Written.{zeros_hold}
use Rattle.theory_replay.specs.Rules.{room}
use Rattle.tables.specs.Limits.{most_queues, most_starting}
use Rattle.tables.specs.Starting.{each, starting_at}
use Rattle.tables.specs.Laws.Each.{each_same, each_snoc}
use Rattle.tables.specs.declared.tables.Queues.{Queues}
use Rattle.following.specs.Standing.{standing}
use Rattle.replaying_queues.specs.Ring.{waiting, ring_at, rings, put_round}
use Rattle.replaying_queues.specs.Laying.{Layable, fronts, Lays}
use Rattle.replaying_queues.specs.Laws.Waiting.{push_word, put_other, put_past, put_length}

-- nothing is laid yet
pub lay_begin : (lengths contents mem : List ℕ) → Lays lengths contents 0 mem mem
lay_begin lengths contents mem = record { queues = refl; past = refl; long = refl }

pub lay_end : {lengths contents mem mem' : List ℕ} {q k : ℕ} → Lays lengths contents q mem mem' → q ≡ k → Lays lengths contents k mem mem'
lay_end {lengths} {contents} {mem} {mem'} l e = subst (λ k. Lays lengths contents k mem mem') e l

-- ONE QUEUE MORE: its word is put into its ring, which is empty
module _ {t : Queues} {mem₀ mem : List ℕ} (a : Layable t mem₀) {q : ℕ} (h : q < t.count) (l : Lays t.lengths t.contents q mem₀ mem) where
  abbrev lengths : List ℕ
  lengths = t.lengths

  abbrev starts : List ℕ
  starts = starting_at lengths t.contents q

  abbrev after : List ℕ
  after = put_round mem (q * room) 0 starts

  -- what is asked to put it
  pub lay_room : q * room + room ≤ length mem
  lay_room = omega (arith, a.enough, l.long)

  pub lay_word : {n : ℕ} → n ≡ get_or lengths q 0 → q * most_starting + n ≤ length t.contents
  lay_word e = omega (arith, (a.queues.starting.words q h).most, a.queues.most, a.queues.starting.contents_long)

  starts_long_lem : length starts ≡ get_or lengths q 0
  starts_long_lem =
      length-take-le (get_or lengths q 0) (drop (q * most_starting) t.contents)
      (omega (arith, lay_word refl, length-drop (q * most_starting) t.contents))

  -- its ring, the rings before it, and what lies past it
  own : ring_at after fronts lengths q ≡ starts
  unfolding standing
  own =
      ap₂ (waiting after (q * room)) (zeros_hold most_queues q) (let z : get_or lengths q 0 ≡ 0 + length starts = omega (arith, starts_long_lem) in z)
      ∙ push_word mem (q * room) 0 0 starts (omega (arith, starts_long_lem, (a.queues.starting.words q h).most)) lay_room

  others : rings after fronts lengths q ≡ rings mem fronts lengths q
  others =
      each_same (ring_at mem fronts lengths) (ring_at after fronts lengths) q 0
      (λ j _ g. put_other mem (q * room) 0 starts q j (get_or fronts j 0) (get_or lengths j 0) refl (λ e. omega arith))

  past : drop ((q + 1) * room) mem ≡ drop ((q + 1) * room) mem₀
  past = further mem ∙ ap (drop room) l.past ∙ sym (further mem₀)
    where
      further : (m : List ℕ) → drop ((q + 1) * room) m ≡ drop room (drop (q * room) m)
      further m = ap (λ k. drop k m) (let z : (q + 1) * room ≡ q * room + room = omega arith in z) ∙ sym (drop-drop room (q * room) m)

  laid : Lays lengths t.contents (q + 1) mem₀ after
  laid =
      record {
        queues =
            one_more_lem (ring_at after fronts lengths)
            ∙ ap₂ (λ qs x. qs ++ (x ∷ [])) (others ∙ l.queues) own
            ∙ sym (one_more_lem (starting_at lengths t.contents));
        past = put_past mem (q * room) 0 starts ((q + 1) * room) (omega arith) ∙ past;
        long = put_length mem (q * room) 0 starts ∙ l.long;
      }
    where
      one_more_lem : (f : ℕ → List ℕ) → each f (q + 1) 0 ≡ each f q 0 ++ (f q ∷ [])
      one_more_lem f =
          ap (λ k. each f k 0) (add-one q)
          ∙ each_snoc f q 0
          ∙ ap (λ k. each f q 0 ++ (f k ∷ [])) (let z : 0 + q ≡ q = omega arith in z)

  pub lay_next : {mem' : List ℕ} {n : ℕ} → mem' ≡ put_round mem (q * room) 0 (take n (drop (q * most_starting) t.contents)) → n ≡ get_or lengths q 0
      → Lays lengths t.contents (q + 1) mem₀ mem'
  lay_next e same =
      subst (Lays lengths t.contents (q + 1) mem₀)
      (sym (e ∙ ap (λ k. put_round mem (q * room) 0 (take k (drop (q * most_starting) t.contents))) same)) laid
