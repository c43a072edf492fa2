-- The meaning determines the reply: two replies with the meaning of one list of items are the same reply.
use Rattle.std.specs.Prelude.{◌≡◌, refl, ◌⊎◌, ℕ}
use Rattle.std.proofs.Common.{sym, ap, ap₂, subst, ◌∙◌, inl, inr, arith}
use mathlib.Core.List.Memᴰ
use mathlib.Core.List.{List, [], ◌∷◌, ◌++◌, head-eq_of_cons-eq, tail-eq_of_cons-eq}
use Rattle.theory_exploration.specs.Mem.{Mem, here, there}
use Rattle.theory_exploration.specs.Laws.Size.{size_unique}
use Rattle.theory_exploration.specs.Order.{AtMost}
use Rattle.theory_exploration.specs.Laws.Order.{at_most_antisymmetric}
use Rattle.theory_model.specs.Diagram.{word}
use Rattle.theory_model.specs.Session.{Session, WellFormed}
use Rattle.theory_model.specs.Verdict.{Item, start, step, entry, Passes, Fails, Sum, First, Means, Reply, closed, outside, leaves, bad}
use Rattle.theory_model.specs.Judge.{reply}
use Rattle.theory_model.specs.Laws.Items.{IsItem}
use Rattle.theory_model.specs.Laws.After.{far_after_lem}

module _ (S : Session) where
  pub sum_unique : (is : List Item) (m n : ℕ) → Sum S is m → Sum S is n → m ≡ n
  sum_unique [] m n a b = omega arith
  sum_unique (i ∷ is) m n (j, k, s, r, e) (j', k', s', r', e') =
      let one = size_unique s s' in
      let rest = sum_unique is k k' r r' in
      omega arith

  -- what fails does not pass
  pub fails_not_passes : (i : Item) (w : List ℕ) → Fails S i w → Passes S i → ⊥
  fails_not_passes i w f p = p f.shown f.against

  pub first_is_member : (is : List Item) (i : Item) (w : List ℕ) → First S is i w → Mem i is
  first_is_member is i w F = subst (Mem i) (sym F.place) (Memᴰ.append_right F.earlier (here refl))

  -- of two lists that are one, the first that fails stands at one place
  same_first : (a b a' b' : List Item) (i i' : Item) → a ++ (i ∷ b) ≡ a' ++ (i' ∷ b')
      → ((j : Item) → Mem j a → Passes S j) → (Passes S i → ⊥) → ((j : Item) → Mem j a' → Passes S j) → (Passes S i' → ⊥) → i ≡ i'
  same_first [] b [] b' i i' e p f p' f' = head-eq_of_cons-eq e
  same_first [] b (x' ∷ a') b' i i' e p f p' f' = absurd (f (p' i (here (head-eq_of_cons-eq e))))
  same_first (x ∷ a) b [] b' i i' e p f p' f' = absurd (f' (p i' (here (sym (head-eq_of_cons-eq e)))))
  same_first (x ∷ a) b (x' ∷ a') b' i i' e p f p' f' = same_first a b a' b' i i' (tail-eq_of_cons-eq e) (λ j m. p j (there m)) f (λ j m. p' j (there m)) f'

  same_least : (i : Item) (w w' : List ℕ) → Fails S i w → Fails S i w' → w ≡ w'
  same_least i w w' F F' =
      at_most_antisymmetric w w'
      (subst (AtMost w) F'.contents (F.least F'.shown F'.against))
      (subst (AtMost w') F.contents (F'.least F.shown F.against))

  -- a reply that is not closed: the first item that fails, with its least contents
  pub record Failing (is : List Item) (r : Reply) : Type 0 where
    pub item : Item
    pub shown : List ℕ
    pub first : First S is item shown
    pub replied : r ≡ reply S item shown

  pub failing_not_passing : (is : List Item) (r : Reply) → Failing is r → ((i : Item) → Mem i is → Passes S i) → ⊥
  failing_not_passing is r F p = fails_not_passes F.item F.shown F.first.fails (p F.item (first_is_member is F.item F.shown F.first))

  abbrev pub Closing : List Item → Reply → Type 0
  Closing is r = (n : ℕ) × (r ≡ closed n) × Means S is (closed n)

  same_failing : (is : List Item) (r r' : Reply) → Failing is r → Failing is r' → r ≡ r'
  same_failing is r r' F F' =
      let G = F.first in
      let G' = F'.first in
      let not-passed = fails_not_passes F.item F.shown G.fails in
      let not-passed' = fails_not_passes F'.item F'.shown G'.fails in
      let parts : G.earlier ++ (F.item ∷ G.later) ≡ G'.earlier ++ (F'.item ∷ G'.later) = sym G.place ∙ G'.place in
      let same : F.item ≡ F'.item = same_first G.earlier G.later G'.earlier G'.later F.item F'.item parts G.each not-passed G'.each not-passed' in
      let least : F.shown ≡ F'.shown = same_least F'.item F.shown F'.shown (subst (λ i. Fails S i F.shown) same G.fails) G'.fails in
      F.replied ∙ ap₂ (reply S) same least ∙ sym F'.replied

-- of items of the session
module _ (S : Session) (wf : WellFormed S) (is : List Item) (each : (i : Item) → Mem i is → IsItem S i) where
  pub means_cases : (r : Reply) → Means S is r → Closing S is r ⊎ Failing S is r
  means_cases (closed n) m = inl (n, refl, m)
  means_cases outside F = inr (record { item = start; shown = word S.model.starting; first = F; replied = refl })
  means_cases (leaves c t w f) (τ, F, e) =
      let item = each (step c t τ) (first_is_member S is (step c t τ) w F) in
      let far = far_after_lem S wf c t τ item F.fails.shown F.fails.against F.fails.contents in
      inr (record { item = step c t τ; shown = w; first = F; replied = ap (leaves c t w) (e ∙ far) })
  means_cases (bad b w) (e, F) = inr (record { item = entry b e; shown = w; first = F; replied = refl })

  pub one_reply : (r r' : Reply) → Means S is r → Means S is r' → r ≡ r'
  one_reply r r' m m' = both (means_cases r m) (means_cases r' m')
    where
      both : Closing S is r ⊎ Failing S is r → Closing S is r' ⊎ Failing S is r' → r ≡ r'
      both (inl (n, e, c)) (inl (n', e', c')) = e ∙ ap closed (sum_unique S is n n' c.1 c'.1) ∙ sym e'
      both (inl (n, e, c)) (inr F') = absurd (failing_not_passing S is r' F' c.0)
      both (inr F) (inl (n', e', c')) = absurd (failing_not_passing S is r F c'.0)
      both (inr F) (inr F') = same_failing S is r r' F F'
