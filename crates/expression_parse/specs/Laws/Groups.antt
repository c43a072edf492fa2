-- Items, groups and the whole text.
use Rattle.std.specs.Prelude.{◌≡◌, refl, true, false, List, [], ◌∷◌, ℕ, ◌+◌, ◌-◌, ◌*◌, ◌≤◌, ◌<◌, ltb, leb, eqb, length, get_or, drop}
use Rattle.std.proofs.Common.{ap, ◌∙◌, ltb-true, ltb-false, ne_eqb, arith, zero-add}
use Rattle.std.proofs.lemmas.Bool.{eqb-false}
use Rattle.theory_model.specs.Laws.Basics.{by_test}
use Rattle.theory_grammar.specs.Tree.{Tree}
use Rattle.theory_grammar.specs.Parse.{is_digit, sign, fresh, item, Frame, frame, state, step, parsed, stuck, parse}
use Rattle.expression_scan.specs.Runs.{leading}
use Rattle.expression_parse.specs.Steps.{is_space, stands_at, run_at, Ready, ItemReady, NumberReady, Went, Halts, FactorReads, AlternativesReads, Parses}
use Rattle.expression_parse.specs.Laws.Machine.{run_on, run_off, run_end, run_skips, run_begins_none}
use Rattle.expression_parse.specs.Laws.Factors.{stands_there, stands_not, Past, past}
use Rattle.expression_parse.specs.Laws.Cycle.{goes_on, no_end}
use Rattle.expression_parse.specs.declared.parts.Part.{Part}

module _ {s : List ℕ} {at k : ℕ} (I : ItemReady s at k) where
  pub item_here : at < length s
  item_here = goes_on s at I.going

  pub number_ready : is_digit (get_or s at 0) ≡ true → NumberReady s at k
  number_ready d = record { within = item_here; counted = I.ready.counted; digit = d }

  -- no item begins there
  pub item_none : is_digit (get_or s at 0) ≡ false → (get_or s at 0 ≡ 40 → ⊥) → Halts s at at
  item_none d o =
      let ends = no_end (leb (length s) at) (eqb (get_or s at 0) 41) (eqb (get_or s at 0) 124) I.going in
      record {
        within = I.ready.within;
        halts = λ fs ds is. run_begins_none fs ds is s at item_here d I.ready.clear (ne_eqb (get_or s at 0) 40 o) ends.0 ends.1;
      }

  -- A GROUP
  module _ (o : get_or s at 0 ≡ 40) {from : ℕ} (n : from ≡ at + 1 + leading is_space (drop (at + 1) s)) where
    behind : Past s (at + 1) from
    behind = past s (at + 1) (omega (arith, item_here)) n

    pub group_ready : Ready s from k
    group_ready = record { within = behind.within; counted = omega (arith, I.ready.counted, behind.on); clear = behind.clear }

    pub group_falls : 3 * (length s - from) + 2 < 3 * (length s - at)
    group_falls = omega (arith, item_here, behind.on, behind.within)

    opened : (fs : List Frame) (ds is : List Tree) → run_at s at (state fs ds is fresh) ≡ run_at s from (state (frame ds is ∷ fs) [] [] fresh)
    opened fs ds is =
        run_on s at (state fs ds is fresh) item_here (ap (λ b. step (sign b) (state fs ds is fresh)) o)
        ∙ run_skips s (at + 1) (state (frame ds is ∷ fs) [] [] fresh) refl n

    pub group_halts : {place : ℕ} → Halts s from place → Halts s at place
    group_halts h =
        record { within = h.within; halts = λ fs ds is. opened fs ds is ∙ h.halts (frame ds is ∷ fs) [] [] }

    module _ {L F L' F' : List ℕ} {p : Part} (w : Went s from k L F L' F' (AlternativesReads s from) p.next p) where
      over : stands_at s p.next 41 ≡ false → length s ≤ p.next
      over z =
          by_test (ltb p.next (length s))
          (λ t.
          let h : p.next < length s = omega (arith, ltb-true) in
          absurd (eqb-false (get_or s p.next 0) 41 (stands_not s p.next 41 z h) (w.reads.ends h)))
          (λ t. omega (arith, ltb-false))

      -- the text ends in it
      pub group_open : stands_at s p.next 41 ≡ false → Halts s at p.next
      group_open z =
          let left : 0 ≡ length s - p.next = omega (arith, over z) in
          record {
            within = w.within;
            halts = λ fs ds is.
                let all = w.reads.goes (frame ds is ∷ fs) [] in
                opened fs ds is
                ∙ all.same
                ∙ run_end s p.next (state (frame ds is ∷ fs) all.done all.items fresh) (over z)
                ∙ ap stuck left;
          }

      pub group_closed : stands_at s p.next 41 ≡ true → Went s at k L F L' F' (FactorReads s at) (p.next + 1) p
      group_closed z =
          let bracket = stands_there s p.next 41 z in
          record {
            tree = w.tree;
            on = omega (arith, behind.on, w.on);
            within = omega (arith, bracket.0);
            counted = omega (arith, w.counted);
            part = w.part;
            label = w.label;
            follow = w.follow;
            reads =
                record {
                  on = omega (arith, behind.on, w.on);
                  same = λ fs ds is.
                      let all = w.reads.goes (frame ds is ∷ fs) [] in
                      let σ = state (frame ds is ∷ fs) all.done all.items fresh in
                      opened fs ds is
                      ∙ all.same
                      ∙ run_on s p.next σ bracket.0 (ap (λ b. step (sign b) σ) bracket.1)
                      ∙ ap (λ x. run_at s (p.next + 1) (state fs ds is (item x))) all.tree;
                };
          }

-- THE WHOLE TEXT
module _ (s : List ℕ) {from : ℕ} (n : from ≡ 0 + leading is_space (drop 0 s)) where
  beginning : Past s 0 from
  beginning = past s 0 (omega arith) n

  pub text_ready : Ready s from 0
  text_ready = record { within = beginning.within; counted = omega arith; clear = beginning.clear }

  skipped : parse s ≡ run_at s from (state [] [] [] fresh)
  skipped = run_skips s 0 (state [] [] [] fresh) refl n

  pub text_halts : {place : ℕ} → Halts s from place → parse s ≡ stuck (length s - place)
  text_halts h = skipped ∙ h.halts [] [] []

  module _ {L F L' F' : List ℕ} {p : Part} (w : Went s from 0 L F L' F' (AlternativesReads s from) p.next p) where
    -- a bracket closes nothing
    pub text_closed : p.next < length s → parse s ≡ stuck (length s - p.next)
    text_closed h =
        let all = w.reads.goes [] [] in
        let σ = state [] all.done all.items fresh in
        skipped ∙ all.same ∙ run_off s p.next σ h (ap (λ b. step (sign b) σ) (w.reads.ends h))

    pub text_parses : length s ≤ p.next → Parses s L F L' F' p
    text_parses h =
        let all = w.reads.goes [] [] in
        record {
          tree = w.tree;
          is = skipped ∙ all.same ∙ run_end s p.next (state [] all.done all.items fresh) h ∙ ap parsed all.tree;
          counts = w.part.counts ∙ zero-add _;
          begins = w.part.begins;
          ends = w.part.ends;
          skipped = w.part.skipped;
          label = w.label;
          follow = w.follow;
        }
