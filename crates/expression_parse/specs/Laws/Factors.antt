-- Numbers and groups: a number that was read, and the star that may stand behind either.
use Rattle.std.specs.Prelude.{◌≡◌, refl, true, false, ◌&&◌, List, ◌∷◌, ℕ, ◌+◌, ◌-◌, ◌≤◌, ◌<◌, ltb, eqb, length, get_or, take, drop}
use Rattle.std.proofs.Common.{sym, ap, subst, ◌∙◌, drop-drop, ltb-true, ltb-false, lt-ltb, eqb-true, arith, zero-add}
use Rattle.theory_model.specs.Laws.Basics.{by_test, and_is}
use Rattle.theory_grammar.specs.Tree.{Tree, letter, star}
use Rattle.theory_grammar.specs.Parse.{is_digit, sign, fresh, digits, item, Frame, state, step}
use Rattle.theory_grammar.specs.Offends.{value_from}
use Rattle.theory_occurrences.specs.Sets.{only, put, link}
use Rattle.theory_occurrences.specs.Positions.{clip}
use Rattle.expression_scan.specs.Runs.{leading, Runs}
use Rattle.expression_scan.specs.declared.digits.Run.{Run}
use Rattle.expression_scan.specs.Laws.Runs.{rest_is, leading_on, leading_none, leading_within, leading_ends, leading_some}
use Rattle.expression_scan.specs.Laws.Values.{value_on, digit_range}
use Rattle.expression_parse.specs.Steps.{is_space, stands_at, run_at, NumberReady, Went, Halts, FactorReads, Starred}
use Rattle.expression_parse.specs.Laws.Machine.{run_on, run_off, run_skips, run_settled, run_ended, sign_digit, digits_run}
use Rattle.expression_parse.specs.declared.parts.Part.{Part}

-- A BYTE THAT STANDS THERE, or does not
module _ (s : List ℕ) (at b : ℕ) where
  pub stands_there : stands_at s at b ≡ true → (at < length s) × (get_or s at 0 ≡ b)
  stands_there e =
      let both = and_is (ltb at (length s)) (eqb (get_or s at 0) b) e in
      (ltb-true at (length s) both.0, eqb-true (get_or s at 0) b both.1)

  pub stands_not : stands_at s at b ≡ false → at < length s → eqb (get_or s at 0) b ≡ false
  stands_not e h = sym (ap (λ t. t && eqb (get_or s at 0) b) (lt-ltb at (length s) h)) ∙ e

-- BEHIND THE SPACES
pub record Past (s : List ℕ) (at next : ℕ) : Type 0 where
  pub on : at ≤ next
  pub within : next ≤ length s
  pub clear : is_space (get_or s next 0) ≡ false

pub spaces_most : (s : List ℕ) (at : ℕ) → leading is_space (drop at s) ≤ length s - at
spaces_most s at =
    by_test (ltb at (length s))
    (λ t. let h : at < length s = ltb-true at (length s) t in omega (arith, h, leading_within is_space s at (omega (arith, h))))
    (λ t. let h : length s ≤ at = ltb-false at (length s) t in omega (arith, leading_none is_space s at (λ l. absurd (omega (arith, h, l)))))

pub past : (s : List ℕ) (at : ℕ) {next : ℕ} → at ≤ length s → next ≡ at + leading is_space (drop at s) → Past s at next
past s at {next} h e =
    record {
      on = omega arith;
      within = omega (arith, leading_within is_space s at h);
      clear = subst (λ n. is_space (get_or s n 0) ≡ false) (sym e) (leading_ends is_space s at refl);
    }

-- THE STAR
module _ {s : List ℕ} {p : Part} {end next : ℕ} (n : next ≡ end + leading is_space (drop end s)) where
  -- there is none
  pub star_none : {F : List ℕ} → stands_at s next 42 ≡ false
      → Starred s p end F F (record { next = next; count = p.count; first = p.first; last = p.last; skips = p.skips })
  star_none z =
      record {
        becomes = λ at k L F₀ L' w.
            let after = past s end w.within n in
            record {
              tree = w.tree;
              on = omega (arith, w.on, after.on);
              within = after.within;
              counted = omega (arith, w.counted, after.on);
              part = record { counts = w.part.counts; begins = w.part.begins; ends = w.part.ends; skipped = w.part.skipped };
              label = w.label;
              follow = w.follow;
              reads =
                  record {
                    on = omega (arith, w.reads.on, after.on);
                    clear = after.clear;
                    same = λ fs ds is.
                        w.reads.same fs ds is
                        ∙ run_skips s end (state fs ds is (item w.tree)) refl n
                        ∙ run_settled fs ds is s next w.tree after.clear (stands_not s next 42 z);
                  };
            };
      }

  pub star_there : {F F' : List ℕ} {behind : ℕ} → stands_at s next 42 ≡ true → behind ≡ next + 1 + leading is_space (drop (next + 1) s)
      → F' ≡ link p.last p.first F
      → Starred s p end F F' (record { next = behind; count = p.count; first = p.first; last = p.last; skips = true })
  star_there {F} {F'} {behind} z m f =
      let here = stands_there s next 42 z in
      let after = past s (next + 1) (omega (arith, here.0)) m in
      record {
        becomes = λ at k L F₀ L' w.
            let before = past s end w.within n in
            record {
              tree = star w.tree;
              on = omega (arith, w.on, before.on, after.on);
              within = after.within;
              counted = omega (arith, w.counted, before.on, after.on);
              part = record { counts = w.part.counts; begins = w.part.begins; ends = w.part.ends; skipped = refl };
              label = w.label;
              follow = f ∙ rw (w.part.ends, w.part.begins, w.follow);
              reads =
                  record {
                    on = omega (arith, w.reads.on, before.on, after.on);
                    clear = after.clear;
                    same = λ fs ds is.
                        w.reads.same fs ds is
                        ∙ run_skips s end (state fs ds is (item w.tree)) refl n
                        ∙ run_on s next (state fs ds is (item w.tree)) here.0 (ap (λ b. step (sign b) (state fs ds is (item w.tree))) here.1)
                        ∙ run_skips s (next + 1) (state fs ds (star w.tree ∷ is) fresh) refl m;
                  };
            };
      }

-- A NUMBER, whose digits were looked for at the front of the rest of the text
module _ (s : List ℕ) (at : ℕ) {r : Run} (D : Runs (take (length s - at) (drop at s)) r) where
  there : Runs (drop at s) r
  there = subst (λ u. Runs u r) (rest_is s at) D

  pub run_value : r.value ≡ clip (value_from 0 (drop at s))
  run_value = there.number

  pub run_behind : at + r.len ≡ at + leading is_digit (drop at s)
  run_behind = ap (λ n. at + n) there.long

  pub run_within : at ≤ length s → at + r.len ≤ length s
  run_within h = omega (arith, there.long, leading_within is_digit s at h)

module _ {s : List ℕ} {at k : ℕ} (R : NumberReady s at k) {next : ℕ} (e : next ≡ at + leading is_digit (drop at s)) where
  more : next ≡ at + 1 + leading is_digit (drop (at + 1) s)
  more = omega (arith, leading_on is_digit s at R.within R.digit)

  begun : (fs : List Frame) (ds is : List Tree) → run_at s at (state fs ds is fresh) ≡ run_at s (at + 1) (state fs ds is (digits (get_or s at 0 - 48)))
  begun fs ds is =
      run_on s at (state fs ds is fresh) R.within
      (ap (λ σ. step σ (state fs ds is fresh)) (sign_digit (get_or s at 0) R.digit))

  -- a digit after a 0
  pub number_stops : get_or s at 0 ≡ 48 → at + 1 < next → Halts s at (at + 1)
  number_stops z l =
      let there = leading_some is_digit s (at + 1) (omega (arith, more)) in
      record {
        within = omega (arith, there.0);
        halts = λ fs ds is.
            begun fs ds is
            ∙ rw z
            (run_off s (at + 1) (state fs ds is (digits 0)) there.0
            (ap (λ σ. step σ (state fs ds is (digits 0))) (sign_digit (get_or s (at + 1) 0) there.1)));
      }

  alone : (get_or s at 0 ≡ 48 → next ≤ at + 1) → get_or s at 0 - 48 ≡ 0 → leading is_digit (drop (at + 1) s) ≡ 0
  alone z d =
      let range = digit_range (get_or s at 0) R.digit in
      omega (arith, more, z (omega (arith, range.0)))

  number_value : value_from 0 (drop at s) ≡ value_from (get_or s at 0 - 48) (drop (at + 1) s)
  number_value = value_on s 0 R.within R.digit ∙ ap (λ n. value_from n (drop (at + 1) s)) (zero-add (get_or s at 0 - 48))

  pub number_reads : (get_or s at 0 ≡ 48 → next ≤ at + 1) → FactorReads s at next (letter (value_from 0 (drop at s)))
  number_reads z =
      record {
        on = omega (arith, more);
        same = λ fs ds is.
            begun fs ds is
            ∙ digits_run fs ds is (get_or s at 0 - 48) (drop (at + 1) s) (alone z)
            ∙ rw (drop-drop, ← more, ← number_value)
            (run_ended fs ds is s next (value_from 0 (drop at s)) (subst (λ i. is_digit (get_or s i 0) ≡ false) (sym e) (leading_ends is_digit s at refl)));
      }

  pub number_went : {L L' F F' : List ℕ} {v set : ℕ} → (get_or s at 0 ≡ 48 → next ≤ at + 1) → v ≡ clip (value_from 0 (drop at s)) → set ≡ only k
      → L' ≡ put k v L → F' ≡ F
      → Went s at k L F L' F' (FactorReads s at) next (record { next = next; count = k + 1; first = set; last = set; skips = false })
  number_went z v' o l f =
      let reads = number_reads z in
      record {
        tree = letter (value_from 0 (drop at s));
        on = omega (arith, reads.on);
        within = omega (arith, e, leading_within is_digit s at (omega (arith, R.within)));
        counted = omega (arith, reads.on, R.counted);
        part = record { counts = refl; begins = o; ends = o; skipped = refl };
        label = l ∙ rw v';
        follow = f;
        reads = reads;
      }
