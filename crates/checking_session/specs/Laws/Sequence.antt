-- Items one after the other: where the first ones passed judging goes on, and where one failed it has failed.
use Rattle.std.specs.Prelude.{ℕ, ◌≤◌, ◌≡◌, refl, Result, Ok, Err, List, length}
use Rattle.std.proofs.Common.{sym, ap, subst, ◌∙◌, arith}
use Rattle.theory_model.specs.Verdict.{Reply, closed}
use Rattle.theory_model.specs.Laws.Deciding.{unless_failed}
use Rattle.tables.specs.Limits.{contents_least}
use Rattle.checking_items.specs.Judging.{Kept, Scratch}
use Rattle.checking_items.specs.Promises.{Ready, SameLent}
use Rattle.checking_items.specs.declared.scratch.Scratch.{Scratch as Lent}
use Rattle.checking_session.specs.Judges.{Judges}
use Rattle.verdicts.specs.Said.{said_failing, messages_in, shown_items}
use Rattle.verdicts.specs.declared.verdict.Failing.{Failing}
use Rattle.verdicts.specs.declared.verdict.Failing.TheVariants.{Outside, Leaves, Bad}

-- nothing was written
pub kept_all : {contents : List ℕ} → Kept 0 contents contents
kept_all = record { long = refl; within = omega arith; rest = refl }

-- THE ITEMS SO FAR PASSED: the reply from here is the reply from the start
pub record Going (most : ℕ) (start here : Reply) (contents₀ : List ℕ) (sum : ℕ) (contents seen queue : List ℕ) : Type 0 where
  pub same : here ≡ start
  pub few : sum ≤ most
  pub kept : contents ≡ contents₀
  pub scratch : Scratch seen queue

pub begins : {most : ℕ} {start : Reply} {contents seen queue : List ℕ} {sum : ℕ} → sum ≤ most → Scratch seen queue
    → Going most start start contents sum contents seen queue
begins l s = record { same = refl; few = l; kept = refl; scratch = s }

-- the memory is ready for the next item
pub still_ready : {most : ℕ} {start here : Reply} {contents₀ : List ℕ} {sum : ℕ} {contents seen queue : List ℕ}
    → Going most start here contents₀ sum contents seen queue → contents_least ≤ length contents₀
    → Ready (record { contents = contents; seen = seen; queue = queue })
still_ready g l = record { scratch = g.scratch; room = subst (λ (l : List ℕ). contents_least ≤ length l) (sym g.kept) l }

-- and it is still that which was lent
pub same_on : {m₀ m₁ m₂ : Lent} → SameLent m₁ m₂ → SameLent m₀ m₁ → SameLent m₀ m₂
same_on f e = record { seen = f.seen ∙ e.seen; queue = f.queue ∙ e.queue; contents = f.contents ∙ e.contents }

-- the same sum, under another bound
pub goes_within : {most top : ℕ} {start here : Reply} {contents₀ : List ℕ} {sum : ℕ} {contents seen queue : List ℕ} → most ≤ top
    → Going most start here contents₀ sum contents seen queue → Going top start here contents₀ sum contents seen queue
goes_within l g = record { same = g.same; few = omega (arith, g.few); kept = g.kept; scratch = g.scratch }

-- an item that fails is the reply, whatever comes after it
fails_whatever : (f : Failing) (contents : List ℕ) (next : ℕ → Reply) → unless_failed (said_failing f contents) next ≡ said_failing f contents
fails_whatever Outside contents next = refl
fails_whatever (Leaves c t n far) contents next = refl
fails_whatever (Bad b n) contents next = refl

module _ {most : ℕ} {o : Reply} {contents contents₁ seen₁ queue₁ : List ℕ} (next : ℕ → Reply) {start here : Reply}
    (link : here ≡ unless_failed o next) where
  -- these passed too
  pub goes_on : (r : Result ℕ Failing) (more : ℕ) → r ≡ Ok more → Judges most o contents r contents₁ seen₁ queue₁
      → {bound sum : ℕ} {contents₀ seen queue : List ℕ} → Going bound start here contents₀ sum contents seen queue
      → Going most start (next more) contents₀ more contents₁ seen₁ queue₁
  goes_on r more z j g =
      let k = subst (λ p. Judges most o contents p contents₁ seen₁ queue₁) z j in
      record {
        same = ap (λ x. unless_failed x next) k.is ∙ sym link ∙ g.same;
        few = k.few;
        kept = k.kept.rest ∙ g.kept;
        scratch = k.scratch;
      }

  -- one of these failed
  pub stops : (r : Result ℕ Failing) (f : Failing) → r ≡ Err f → Judges most o contents r contents₁ seen₁ queue₁
      → {bound sum : ℕ} {contents₀ seen queue : List ℕ} → Going bound start here contents₀ sum contents seen queue → (top : ℕ)
      → Judges top start contents₀ (Err f) contents₁ seen₁ queue₁
  stops r f z j g top =
      let k = subst (λ p. Judges most o contents p contents₁ seen₁ queue₁) z j in
      record {
        is = sym (fails_whatever f contents₁ next) ∙ ap (λ x. unless_failed x next) k.is ∙ sym link ∙ g.same;
        few = omega arith;
        kept = subst (λ l. Kept (messages_in f) l contents₁) g.kept k.kept;
        scratch = k.scratch;
      }

-- no item is left
pub ends : {most sum : ℕ} {start here : Reply} {contents₀ contents seen queue : List ℕ} → here ≡ closed sum
    → Going most start here contents₀ sum contents seen queue → (top : ℕ) → most ≤ top
    → Judges top start contents₀ (Ok sum) contents seen queue
ends {contents₀ = contents₀} e g top h =
    record {
      is = sym e ∙ g.same;
      few = omega (arith, g.few);
      kept = subst (λ l. Kept 0 contents₀ l) (sym g.kept) kept_all;
      scratch = g.scratch;
    }

-- what is judged last gives the reply
pub joins : {most top sum : ℕ} {start here : Reply} {contents₀ contents contents₁ seen queue seen₁ queue₁ : List ℕ} {r : Result ℕ Failing}
    → Going most start here contents₀ sum contents seen queue → Judges top here contents r contents₁ seen₁ queue₁
    → Judges top start contents₀ r contents₁ seen₁ queue₁
joins {contents₁ = contents₁} {r = r} g j =
    record {
      is = j.is ∙ g.same;
      few = j.few;
      kept = subst (λ l. Kept (shown_items r) l contents₁) g.kept j.kept;
      scratch = j.scratch;
    }
