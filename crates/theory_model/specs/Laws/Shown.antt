-- The contents that a word of letters stands for, and that the order of these words is the order of the contents shown.
use Rattle.std.specs.Prelude.{◌≡◌, refl, List, [], ◌∷◌, ◌++◌, ℕ, ◌+◌, ◌≤◌, ◌<◌, length}
use Rattle.std.proofs.Common.{ap, ◌∙◌, inl, inr, arith, length-append, eq-eqb, ne_eqb}
use Rattle.theory_exploration.specs.Order.{Lower, Shortlex}
use Rattle.theory_model.specs.Model.{messages, Between, nothing, message}
use Rattle.theory_model.specs.Session.{Session}
use Rattle.theory_model.specs.Judge.{Walk, contents}
use Rattle.theory_model.specs.Laws.Queues.{between_append}

module _ (S : Session) (W : Walk) where
  abbrev N : ℕ
  N = messages S.model

  contents_message : (m : ℕ) (z : List ℕ) → m < N → contents S W (m ∷ z) ≡ m ∷ contents S W z
  contents_message m z h = rw (ne_eqb m N (omega arith), contents)

  contents_step : (z : List ℕ) → contents S W (N ∷ z) ≡ W.out ++ contents S W z
  contents_step z = rw (eq-eqb N N refl, contents)

  -- messages stand for themselves
  pub contents_plain : {lo : ℕ} {z : List ℕ} → Between lo N z → contents S W z ≡ z
  contents_plain nothing = refl
  contents_plain (message {m = m} {u = z} l h b) = contents_message m z h ∙ ap {B = List ℕ} (λ y. m ∷ y) (contents_plain b)

  pub contents_across : {lo lo' : ℕ} {u v : List ℕ} → Between lo N u → Between lo' N v → contents S W (u ++ (N ∷ v)) ≡ u ++ (W.out ++ v)
  contents_across {v = v} nothing c = contents_step v ∙ ap (λ y. W.out ++ y) (contents_plain c)
  contents_across {v = v} (message {m = m} {u = u} l h b) c = contents_message m (u ++ (N ∷ v)) h ∙ ap {B = List ℕ} (λ y. m ∷ y) (contents_across b c)

-- THE ORDER
lower_prefix : (x u v : List ℕ) → Lower u v → Lower (x ++ u) (x ++ v)
lower_prefix [] u v l = l
lower_prefix (m ∷ x) u v l = inr (refl, lower_prefix x u v l)

-- a message below the cut comes before all that stands from the cut on
below_all : {cut top : ℕ} (m : ℕ) (y x : List ℕ) → m < cut → Between cut top x → length (m ∷ y) ≡ length x → Lower (m ∷ y) x
below_all m y [] h b e = absurd (omega arith)
below_all m y (n ∷ x) h (message l r b) e = inl (omega arith)

-- the step letter n is above all messages; everything from the cut on is above a message below it, so the step may stand anywhere
module _ (n cut : ℕ) (out : List ℕ) (among : cut ≤ n) (own : Between cut n out) where
  same_lower : (u v u' v' : List ℕ) → Between 0 cut u → Between cut n v → Between 0 cut u' → Between cut n v'
      → length (u ++ (out ++ v)) ≡ length (u' ++ (out ++ v')) → Lower (u ++ (n ∷ v)) (u' ++ (n ∷ v')) → Lower (u ++ (out ++ v)) (u' ++ (out ++ v'))
  same_lower [] v [] v' a b a' b' e (inl h) = absurd (omega arith)
  same_lower [] v [] v' a b a' b' e (inr (p, l)) = lower_prefix out v v' l
  same_lower [] v (m' ∷ u') v' a b (message l h r) b' e (inl h') = absurd (omega arith)
  same_lower [] v (m' ∷ u') v' a b (message l h r) b' e (inr (p, l')) = absurd (omega arith)
  same_lower (m ∷ u) v [] v' (message l h r) b a' b' e w = below_all m (u ++ (out ++ v)) (out ++ v') h (between_append own b') e
  same_lower (m ∷ u) v (m' ∷ u') v' (message l h r) b (message l' h' r') b' e (inl w) = inl w
  same_lower (m ∷ u) v (m' ∷ u') v' (message l h r) b (message l' h' r') b' e (inr (p, w)) = inr (p, same_lower u v u' v' r b r' b' (omega arith) w)

  pub length_across : (u v : List ℕ) → length (u ++ (out ++ v)) + 1 ≡ length (u ++ (n ∷ v)) + length out
  length_across u v = simp length-append (omega arith)

  pub same_order : (u v u' v' : List ℕ) → Between 0 cut u → Between cut n v → Between 0 cut u' → Between cut n v'
      → Shortlex (u ++ (n ∷ v)) (u' ++ (n ∷ v')) → Shortlex (u ++ (out ++ v)) (u' ++ (out ++ v'))
  same_order u v u' v' a b a' b' (inl h) = inl (omega (arith, length_across u v, length_across u' v'))
  same_order u v u' v' a b a' b' (inr (e, l)) =
      let e' : length (u ++ (out ++ v)) ≡ length (u' ++ (out ++ v')) = omega (arith, length_across u v, length_across u' v') in
      inr (e', same_lower u v u' v' a b a' b' e' l)
