-- How each kind of action parts the contents.
use Rattle.std.specs.Prelude.{ℕ, suc, ◌-◌, ◌≤◌, ◌<◌, ◌≡◌, refl, List, take}
use Rattle.std.proofs.Common.{sym, ap, ◌∙◌, inl, inr, arith}
use Rattle.tables.specs.Queues as Table
use Rattle.tables.specs.Valid.{QueuesValid}
use Rattle.tables.specs.Laws.Queues.{first_ascends}
use Rattle.tables.specs.declared.tables.Queues.{Queues}
use Rattle.theory_model.specs.Model.{Action}
use Rattle.theory_model.specs.Judge.{out, into, root_pair}
use Rattle.theory_files.specs.Tables.{action_of}
use Rattle.theory_tables.specs.Laws.Queues.{first_is}
use Rattle.checking_pairs.specs.Pairs.{after_side}
use Rattle.following.specs.Standing.{word_over}
use Rattle.checking_items.specs.Cut.{cut_of, Cuts}
use Rattle.tables.specs.Rows.{word_entry, kind_at, queue_at, length_at, word_at}

module _ (q : Queues) (rows : List ℕ) (row : ℕ) where
  abbrev ns : List ℕ
  ns = take q.count q.messages

  abbrev queue : ℕ
  queue = queue_at rows row

  abbrev of : ℕ → Action
  of k = action_of k queue (word_at rows row)

  -- a local step reads all after it
  pub cuts_local : kind_at rows row ≡ 0 → Cuts q rows row (record { side = after_side; cut = 0; out = 0; into = 0 })
  cuts_local e =
      record {
        cut = sym (ap (λ k. cut_of ns (of k)) e);
        out = sym (ap (λ k. out (of k)) e);
        into = sym (ap (λ k. into (of k)) e);
        side = λ s t. sym (ap (λ k. root_pair (of k) s t) e);
        sides = inr refl;
        small = (omega arith, omega arith, omega arith);
      }

  module _ (v : QueuesValid q) (h : queue < q.count) (length : ℕ) (l : length ≡ length_at rows row) where
    -- the ends of the queue lie within the sum
    pub queue_within : Table.first_message q.messages (suc queue) ≤ q.sum
    queue_within = omega (arith, first_ascends q.messages (suc queue) q.count h, v.sum)

    pub first_within : Table.first_message q.messages queue ≤ q.sum
    first_within = omega (arith, first_ascends q.messages queue q.count (omega arith), v.sum)

    word : word_over rows (word_entry row) length ≡ word_at rows row
    word = ap (word_over rows (word_entry row)) l

    -- a send puts its word in after the messages of its queue
    pub cuts_send : kind_at rows row ≡ 1 → (cut : ℕ) → cut ≡ Table.first_message q.messages (suc queue)
        → Cuts q rows row (record { side = 0; cut = cut; out = 0; into = length })
    cuts_send e cut c =
        record {
          cut = c ∙ sym (first_is q.messages q.count (suc queue) h) ∙ sym (ap (λ k. cut_of ns (of k)) e);
          out = sym (ap (λ k. out (of k)) e);
          into = word ∙ sym (ap (λ k. into (of k)) e);
          side = λ s t. sym (ap (λ k. root_pair (of k) s t) e);
          sides = inl refl;
          small = (omega (arith, queue_within), omega arith, omega arith);
        }

    -- a receive takes its word out before the messages of its queue
    pub cuts_receive : (kind_at rows row ≡ 0 → ⊥) → (kind_at rows row ≡ 1 → ⊥) → (cut : ℕ)
        → cut ≡ Table.first_message q.messages queue → Cuts q rows row (record { side = 0; cut = cut; out = length; into = 0 })
    cuts_receive x y cut c =
        record {
          cut = c ∙ sym (first_is q.messages q.count queue (omega arith)) ∙ sym (ap (λ k. cut_of ns (of k)) e);
          out = word ∙ sym (ap (λ k. out (of k)) e);
          into = sym (ap (λ k. into (of k)) e);
          side = λ s t. sym (ap (λ k. root_pair (of k) s t) e);
          sides = inl refl;
          small = (omega (arith, first_within), omega arith, omega arith);
        }
      where
        e : kind_at rows row ≡ suc (suc (kind_at rows row - 2))
        e = omega arith
