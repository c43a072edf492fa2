-- The cycle of the grammar: what each function makes of what those that it calls have read.
use Rattle.std.specs.Prelude.{◌≡◌, refl, Bool, true, false, ◌||◌, List, [], ◌∷◌, ℕ, ◌+◌, ◌-◌, ◌*◌, ◌<◌, leb, eqb, length, get_or, drop, Result, Ok, Err}
use Rattle.std.proofs.Common.{sym, ap, subst, ◌∙◌, leb-false, eqb-true, arith, add-zero, add_assoc}
use Rattle.std.proofs.lemmas.Bool.{lt-leb}
use Rattle.theory_model.specs.Laws.Basics.{false_not_true}
use Rattle.theory_grammar.specs.Tree.{Tree, empty, sequence, either}
use Rattle.theory_grammar.specs.Parse.{sign, fresh, Frame, state, chain, choice, step}
use Rattle.expression_scan.specs.Runs.{leading}
use Rattle.expression_parse.specs.Steps.{is_space, stands_at, ends_at, run_at, Ready, ItemReady, Went, Halts, Reading, went, stops, ItemReads, AlternativeReads, AlternativesReads, Sequenced, Eithered}
use Rattle.expression_parse.specs.Laws.Machine.{run_on, run_skips}
use Rattle.expression_parse.specs.Laws.Factors.{stands_there, stands_not, Past, past}
use Rattle.expression_parse.specs.declared.parts.Part.{Part}
use Rattle.expression_parse.specs.declared.parts.Stuck.{Stuck}

-- WHAT WAS ANSWERED
module _ {s : List ℕ} {at k : ℕ} {L F L' F' : List ℕ} {Reads : ℕ → Tree → Type 0} where
  read_went : {p : Part} → Reading s at k L F L' F' Reads (Ok p) → Went s at k L F L' F' Reads p.next p
  read_went (went w) = w

  stuck_halts : {e : Stuck} → Reading s at k L F L' F' Reads (Err e) → Halts s at e.0
  stuck_halts (stops h) = h

  pub did : {r : Result Part Stuck} {p : Part} → Reading s at k L F L' F' Reads r → r ≡ Ok p → Went s at k L F L' F' Reads p.next p
  did g e = read_went (subst (Reading s at k L F L' F' Reads) e g)

  pub halted : {r : Result Part Stuck} {e : Stuck} → Reading s at k L F L' F' Reads r → r ≡ Err e → Halts s at e.0
  halted g e = stuck_halts (subst (Reading s at k L F L' F' Reads) e g)

-- THE END OF AN ALTERNATIVE
pub goes_on : (s : List ℕ) (at : ℕ) → ends_at s at ≡ false → at < length s
goes_on s at e = by (leb (length s) at) refl e
  where
    by : (t : Bool) → leb (length s) at ≡ t → (t || (eqb (get_or s at 0) 41 || eqb (get_or s at 0) 124)) ≡ false → at < length s
    by true l z = false_not_true z refl
    by false l z = leb-false (length s) at l

pub no_end : (l c b : Bool) → (l || (c || b)) ≡ false → (c ≡ false) × (b ≡ false)
no_end true c b e = false_not_true e refl
no_end false true b e = false_not_true e refl
no_end false false b e = (refl, e)

closes : (s : List ℕ) (at : ℕ) → ends_at s at ≡ true → stands_at s at 124 ≡ false → at < length s → get_or s at 0 ≡ 41
closes s at e z h =
    by (leb (length s) at) (eqb (get_or s at 0) 41) (eqb (get_or s at 0) 124) e (lt-leb (length s) at h) (stands_not s at 124 z h) refl
  where
    by : (l c b : Bool) → (l || (c || b)) ≡ true → l ≡ false → b ≡ false → eqb (get_or s at 0) 41 ≡ c → get_or s at 0 ≡ 41
    by true c b e l z c' = false_not_true l refl
    by false true b e l z c' = eqb-true (get_or s at 0) 41 c'
    by false false b e l z c' = false_not_true z e

module _ {s : List ℕ} {at k : ℕ} (R : Ready s at k) where
  pub item_ready : ends_at s at ≡ false → ItemReady s at k
  item_ready e = record { ready = R; going = e }

  pub alternative_none : {L F : List ℕ} → ends_at s at ≡ true
      → Went s at k L F L F (AlternativeReads s at) at (record { next = at; count = k; first = 0; last = 0; skips = true })
  alternative_none e =
      record {
        tree = empty;
        on = omega arith;
        within = R.within;
        counted = R.counted;
        part = record { counts = sym (add-zero k); begins = refl; ends = refl; skipped = refl };
        label = refl;
        follow = refl;
        reads = record { ends = e; goes = λ fs ds is. record { items = is; same = refl; tree = refl } };
      }

-- AN ITEM, and the items behind it
module _ {s : List ℕ} {at k : ℕ} {L F L' F' : List ℕ} {p : Part} (w : Went s at k L F L' F' (ItemReads s at) p.next p) where
  pub after_item : Ready s p.next p.count
  after_item = record { within = w.within; counted = w.counted; clear = w.reads.clear }

  pub item_then_halts : {place : ℕ} → Halts s p.next place → Halts s at place
  item_then_halts h =
      record { within = h.within; halts = λ fs ds is. w.reads.same fs ds is ∙ h.halts fs ds (w.tree ∷ is) }

  pub item_then_items : {L'' F'' G : List ℕ} {q r : Part} → Went s p.next p.count L' F' L'' F'' (AlternativeReads s p.next) q.next q
      → Sequenced p q F'' G r → Went s at k L F L'' G (AlternativeReads s at) r.next r
  item_then_items {L''} {G = G} {q} {r} v j =
      subst (λ n. Went s at k L F L'' G (AlternativeReads s at) n r) (sym j.next)
      (record {
        tree = sequence w.tree v.tree;
        on = omega (arith, w.on, v.on);
        within = v.within;
        counted = omega (arith, j.count, v.counted);
        part =
            record {
              counts = j.count ∙ v.part.counts ∙ rw (w.part.counts, add_assoc);
              begins = j.begins ∙ rw (w.part.begins, w.part.skipped, v.part.begins, w.part.counts);
              ends = j.ends ∙ rw (v.part.ends, v.part.skipped, w.part.ends, w.part.counts);
              skipped = j.skipped ∙ rw (w.part.skipped, v.part.skipped);
            };
        label = v.label ∙ rw (w.part.counts, w.label);
        follow = j.linked ∙ rw (w.part.ends, v.part.begins, v.follow, w.part.counts, w.follow);
        reads =
            record {
              ends = v.reads.ends;
              goes = λ fs ds is.
                  let more = v.reads.goes fs ds (w.tree ∷ is) in
                  record { items = more.items; same = w.reads.same fs ds is ∙ more.same; tree = more.tree };
            };
      })

-- AN ALTERNATIVE, and the alternatives behind its |
module _ {s : List ℕ} {at k : ℕ} {L F L' F' : List ℕ} {p : Part} (w : Went s at k L F L' F' (AlternativeReads s at) p.next p) where
  pub alternative_last : stands_at s p.next 124 ≡ false → Went s at k L F L' F' (AlternativesReads s at) p.next p
  alternative_last z =
      record {
        tree = w.tree;
        on = w.on;
        within = w.within;
        counted = w.counted;
        part = w.part;
        label = w.label;
        follow = w.follow;
        reads =
            record {
              ends = closes s p.next w.reads.ends z;
              goes = λ fs ds.
                  let one = w.reads.goes fs ds [] in
                  record { done = ds; items = one.items; same = one.same; tree = ap (choice ds) one.tree };
            };
      }

  module _ (z : stands_at s p.next 124 ≡ true) {from : ℕ} (n : from ≡ p.next + 1 + leading is_space (drop (p.next + 1) s)) where
    behind : Past s (p.next + 1) from
    behind = past s (p.next + 1) (omega (arith, (stands_there s p.next 124 z).0)) n

    pub after_bar : Ready s from p.count
    after_bar = record { within = behind.within; counted = omega (arith, w.counted, behind.on); clear = behind.clear }

    pub bar_falls : 3 * (length s - from) + 2 < 3 * (length s - at) + 2
    bar_falls = omega (arith, w.on, behind.on, behind.within)

    passed : (fs : List Frame) (ds is : List Tree)
        → run_at s at (state fs ds is fresh) ≡ run_at s from (state fs (chain (w.reads.goes fs ds is).items empty ∷ ds) [] fresh)
    passed fs ds is =
        let one = w.reads.goes fs ds is in
        let bar = stands_there s p.next 124 z in
        one.same
        ∙ run_on s p.next (state fs ds one.items fresh) bar.0 (ap (λ b. step (sign b) (state fs ds one.items fresh)) bar.1)
        ∙ run_skips s (p.next + 1) (state fs (chain one.items empty ∷ ds) [] fresh) refl n

    pub bar_then_halts : {place : ℕ} → Halts s from place → Halts s at place
    bar_then_halts h =
        record {
          within = h.within;
          halts = λ fs ds is. passed fs ds is ∙ h.halts fs (chain (w.reads.goes fs ds is).items empty ∷ ds) [];
        }

    pub bar_then_alternatives : {L'' F'' : List ℕ} {q r : Part} → Went s from p.count L' F' L'' F'' (AlternativesReads s from) q.next q
        → Eithered p q r → Went s at k L F L'' F'' (AlternativesReads s at) r.next r
    bar_then_alternatives {L''} {F''} {q} {r} v j =
        subst (λ n. Went s at k L F L'' F'' (AlternativesReads s at) n r) (sym j.next)
        (record {
          tree = either w.tree v.tree;
          on = omega (arith, w.on, behind.on, v.on);
          within = v.within;
          counted = omega (arith, j.count, v.counted);
          part =
              record {
                counts = j.count ∙ v.part.counts ∙ rw (w.part.counts, add_assoc);
                begins = j.begins ∙ rw (w.part.begins, v.part.begins, w.part.counts);
                ends = j.ends ∙ rw (w.part.ends, v.part.ends, w.part.counts);
                skipped = j.skipped ∙ rw (w.part.skipped, v.part.skipped);
              };
          label = v.label ∙ rw (w.part.counts, w.label);
          follow = v.follow ∙ rw (w.part.counts, w.follow);
          reads =
              record {
                ends = v.reads.ends;
                goes = λ fs ds.
                    let one = w.reads.goes fs ds [] in
                    let more = v.reads.goes fs (chain one.items empty ∷ ds) in
                    record {
                      done = more.done;
                      items = more.items;
                      same = passed fs ds [] ∙ more.same;
                      tree = more.tree ∙ ap (λ a. choice ds (either a v.tree)) one.tree;
                    };
              };
        })
