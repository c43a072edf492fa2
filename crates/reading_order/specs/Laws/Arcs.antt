-- OUT OF ORDER, AS ARCS: some word accepted from a root is out of order exactly if some state has an arc in for a message of some queue
-- and an arc out for a message of an earlier queue, asked only of arcs that follow each other on a word accepted from a root.
use Rattle.std.specs.Prelude.{ℕ, ◌<◌, ◌≡◌, refl, ◌↔◌, true, List, [], ◌∷◌, ◌++◌, take, ltb}
use Rattle.std.proofs.Common.{sym, ap, ◌∙◌, append_assoc, ltb-true, ltb-false, arith}
use Rattle.std.proofs.Math.Option.{Option, none, some}
use Rattle.tables.specs.declared.tables.Queues.{Queues}
use Rattle.tables.specs.declared.tables.Pool as Declared
use Rattle.tables.specs.declared.tables.SetTables.{SetTables}
use Rattle.theory_model.specs.Model.{queue_of}
use Rattle.theory_model.specs.Diagram.{Pool, follow, is_final, accepts, OutOfOrder}
use Rattle.theory_model.specs.Laws.Basics.{by_test, false_not_true}
use Rattle.theory_model.specs.Laws.Walks.{follow_append, follow_front}
use Rattle.reading_order.specs.Order.{Root, Disordered}
use Rattle.theory_tables.specs.Pool.{arc_of, pool_of}

-- an arc into a state and an arc out of it in the wrong order, where the first begins at a state that is reached from a root, and from
-- where the second ends a final state is reached
pub record WrongArcs (q : Queues) (P : Declared.Pool) (D : SetTables) : Type 0 where
  pub root : ℕ
  pub listed : Root D root
  pub before : List ℕ
  pub from : ℕ
  pub reached : follow (pool_of P) (some root) before ≡ some from
  -- the message of the arc in, and the state
  pub into : ℕ
  pub at : ℕ
  pub arc_in : arc_of P.arcs from into ≡ some at
  -- the message of the arc out
  pub out_of : ℕ
  pub to : ℕ
  pub arc_out : arc_of P.arcs at out_of ≡ some to
  pub after : List ℕ
  pub live : accepts (pool_of P) (some to) after ≡ true
  pub back : queue_of (take q.count q.messages) out_of < queue_of (take q.count q.messages) into

-- NEIGHBOURS: of a later message and an earlier one somewhere after it, two messages next to each other are in the wrong order too,
-- as the queues cannot go down over what is between without going down at some place
abbrev Neighbours : List ℕ → List ℕ → Type 0
Neighbours ns u = (a : List ℕ) × (b : List ℕ) × (m : ℕ) × (n : ℕ) × (u ≡ a ++ (m ∷ (n ∷ b))) × (queue_of ns n < queue_of ns m)

next_to : (ns : List ℕ) (later : ℕ) (between : List ℕ) (earlier : ℕ) (after : List ℕ) → queue_of ns earlier < queue_of ns later
    → Neighbours ns (later ∷ (between ++ (earlier ∷ after)))
next_to ns later [] earlier after h = ([], after, later, earlier, refl, h)
next_to ns later (k ∷ between) earlier after h =
    by_test (ltb (queue_of ns k) (queue_of ns later))
    (λ t. ([], between ++ (earlier ∷ after), later, k, refl, ltb-true (queue_of ns k) (queue_of ns later) t))
    (λ f.
    let l = ltb-false (queue_of ns k) (queue_of ns later) f in
    let (a, b, m, n, e, g) = next_to ns k between earlier after (omega arith) in
    (later ∷ a, b, m, n, ap {B = List ℕ} (λ y. later ∷ y) e, g))

neighbours : (ns u : List ℕ) → OutOfOrder ns u → Neighbours ns u
neighbours ns u o =
    let (a, b, m, n, e, g) = next_to ns o.later o.between o.earlier o.after o.back in
    (o.before ++ a, b, m, n, o.is ∙ ap (λ y. o.before ++ y) e ∙ sym (append_assoc o.before a (m ∷ (n ∷ b))), g)

-- A WORD THAT IS ACCEPTED is accepted on from each state on its way
module _ (P : Pool) where
  accepts_front : (s : ℕ) (u v : List ℕ) → accepts P (some s) (u ++ v) ≡ true
      → (r : ℕ) × (follow P (some s) u ≡ some r) × (accepts P (some r) v ≡ true)
  accepts_front s u v e = by_end (follow P (some s) (u ++ v)) refl e
    where
      by_end : (o : Option ℕ) → follow P (some s) (u ++ v) ≡ o → is_final P o ≡ true
          → (r : ℕ) × (follow P (some s) u ≡ some r) × (accepts P (some r) v ≡ true)
      by_end none f g = false_not_true refl g
      by_end (some t) f g = let (r, x, y) = follow_front P (some s) u v f in (r, x, ap (is_final P) y ∙ g)

  accepts_back : (s r : ℕ) (u v : List ℕ) → follow P (some s) u ≡ some r → accepts P (some r) v ≡ true
      → accepts P (some s) (u ++ v) ≡ true
  accepts_back s r u v e f = ap (is_final P) (follow_append P (some s) u v ∙ ap (λ o. follow P o v) e) ∙ f

module _ (q : Queues) (P : Declared.Pool) (D : SetTables) where
  abbrev ns : List ℕ
  ns = take q.count q.messages

  -- the neighbours' arcs meet at a state
  word_arcs : Disordered q P D → WrongArcs q P D
  word_arcs d =
      let (a, b, m, n, e, g) = neighbours ns d.word d.back in
      let (r, x, f) = accepts_front (pool_of P) d.root a (m ∷ (n ∷ b)) (ap (accepts (pool_of P) (some d.root)) (sym e) ∙ d.accepted) in
      let (s, y, h) = accepts_front (pool_of P) r (m ∷ []) (n ∷ b) f in
      let (t, z, k) = accepts_front (pool_of P) s (n ∷ []) b h in
      record {
        root = d.root;
        listed = d.listed;
        before = a;
        from = r;
        reached = x;
        into = m;
        at = s;
        arc_in = y;
        out_of = n;
        to = t;
        arc_out = z;
        after = b;
        live = k;
        back = g;
      }

  -- and the arcs are on a word, with nothing between their messages
  arcs_word : WrongArcs q P D → Disordered q P D
  arcs_word w =
      let out = accepts_back (pool_of P) w.at w.to (w.out_of ∷ []) w.after w.arc_out w.live in
      let both = accepts_back (pool_of P) w.from w.at (w.into ∷ []) (w.out_of ∷ w.after) w.arc_in out in
      record {
        root = w.root;
        listed = w.listed;
        word = w.before ++ (w.into ∷ (w.out_of ∷ w.after));
        accepted = accepts_back (pool_of P) w.root w.from w.before (w.into ∷ (w.out_of ∷ w.after)) w.reached both;
        back =
            record {
              before = w.before;
              later = w.into;
              between = [];
              earlier = w.out_of;
              after = w.after;
              is = refl;
              back = w.back;
            };
      }

  pub disordered_arcs : Disordered q P D ↔ WrongArcs q P D
  disordered_arcs = (word_arcs, arcs_word)
