-- Laws of the call about an expression.
use Rattle.std.specs.Prelude.{ℕ, ◌≤◌, ◌<◌, ◌≡◌, false, List, length, leb, Result}
use Rattle.std.proofs.Common.{ap, ◌∙◌, le-leb}
use Rattle.std.proofs.lemmas.Bool.{lt-leb}
use Rattle.theory_model.specs.Laws.Basics.{is_and}
use Rattle.c_replies.specs.Told.{NO_QUEUE_ROOM, reply_least, reply_after, Tells}
use Rattle.c_replies.specs.declared.told.Told.{Told}
use Rattle.expression.specs.Expression.{Drawn, expression}
use Rattle.expression.specs.Said.{said_drawing}
use Rattle.expression.specs.declared.draw.Drawing.{Drawing}
use Rattle.expression.specs.declared.draw.ExpressionRefusal.{ExpressionRefusal}
use Rattle.c_expression.specs.Drawn.{told_drawn, pool_least, pool_after}
use Rattle.capi.specs.Calls.{reply_fits, drawn_told, drawn_fits, ExpressionCall}
use Rattle.capi.specs.Laws.{kind_none, changed, kept, tells_kind, tells_reply, first_none, second_none}

module _ (text pool reply : List ℕ) where
  abbrev filled : List ℕ
  filled = pool_after (expression text).reply (expression text).pool pool

  expression_none : drawn_fits pool reply ≡ false → ExpressionCall text pool reply NO_QUEUE_ROOM pool reply
  expression_none e =
      record {
        kind = kind_none (drawn_fits pool reply) (drawn_told text) e;
        pool = kept (drawn_fits pool reply) pool filled e;
        reply = kept (drawn_fits pool reply) reply (reply_after (drawn_told text) reply) e;
      }

  pub expression_short : length pool < pool_least → ExpressionCall text pool reply NO_QUEUE_ROOM pool reply
  expression_short h = expression_none (first_none (leb pool_least (length pool)) (reply_fits reply) (lt-leb pool_least (length pool) h))

  pub expression_unheard : length reply < reply_least → ExpressionCall text pool reply NO_QUEUE_ROOM pool reply
  expression_unheard h = expression_none (second_none (leb pool_least (length pool)) (reply_fits reply) (lt-leb reply_least (length reply) h))

  pub expression_told : {pool₁ reply₁ : List ℕ} {r : ℕ} {t : Told} → pool_least ≤ length pool → reply_least ≤ length reply → (d : Result Drawing ExpressionRefusal)
      → said_drawing d ≡ expression text → pool₁ ≡ pool_after (said_drawing d).reply (said_drawing d).pool pool
      → t ≡ told_drawn (said_drawing d).reply (said_drawing d).pool.count → Tells t reply reply₁ r → ExpressionCall text pool reply r pool₁ reply₁
  expression_told {pool₁} {t = t} h l d draws put told tells =
      let roomy = is_and (leb pool_least (length pool)) (reply_fits reply) (le-leb pool_least (length pool) h) (le-leb reply_least (length reply) l) in
      let same : t ≡ drawn_told text = told ∙ ap (λ (D : Drawn). told_drawn D.reply D.pool.count) draws in
      let out : pool₁ ≡ filled = put ∙ ap (λ (D : Drawn). pool_after D.reply D.pool pool) draws in
      record {
        kind = tells_kind (drawn_fits pool reply) roomy same tells;
        pool = out ∙ changed (drawn_fits pool reply) pool filled roomy;
        reply = tells_reply (drawn_fits pool reply) roomy same tells;
      }
