-- The session file: how bytes become tables or a refusal (document 01, "The session file"), field after field.
use Rattle.std.specs.Prelude.{ℕ, ◌*◌, ◌≡◌, List, Result, Ok, Err, length, replicate, leb}
use Rattle.numbers.specs.Limits.{most_bytes}
use Rattle.numbers.specs.Refusals.{too_long}
use Rattle.tables.specs.Limits.{most_controls, most_pool, most_bad}
use Rattle.numbers.specs.Part.{Part, got, refused, provided, and_then}
use Rattle.reading_file.specs.Said.{ReadReply, said_answer, read, refusal}
use Rattle.reading_model.specs.Model.{read_model}
use Rattle.tables.specs.Pool.{pool_arcs}
use Rattle.tables.specs.Empty.{empty_model}
use Rattle.reading_pool.specs.Pool.{read_pool}
use Rattle.reading_file.specs.Ends.{read_ends}
use Rattle.tables.specs.declared.tables.ModelTables.{ModelTables}
use Rattle.tables.specs.declared.tables.Pool.{Pool}
use Rattle.tables.specs.declared.tables.SetTables.{SetTables}
use Rattle.tables.specs.declared.tables.Tables.{Tables}
use Rattle.numbers.specs.declared.refusal.Refusal.{Refusal}

-- the tables of a model, a pool and sets over it
abbrev pub joined : ModelTables → Pool → SetTables → Tables
joined M P D =
    record {
      machines = M.machines;
      queues = M.queues;
      transitions = M.transitions;
      pool = P;
      map = D.map;
      bad = D.bad;
    }

-- and back
abbrev pub model_tables : Tables → ModelTables
model_tables T = record { machines = T.machines; queues = T.queues; transitions = T.transitions }

abbrev pub set_tables : Tables → SetTables
set_tables T = record { map = T.map; bad = T.bad }

-- READING, where field 4 is read so: the tables, or the refusal. Fields 1 to 3; field 4; the ends
unfoldable pub read_with : (List ℕ → ℕ → ℕ → Part Pool) → List ℕ → Part Tables
read_with field4 s =
    provided (leb (length s) most_bytes) too_long most_bytes
    (and_then (read_model s 0) (λ M p₁.
    and_then (field4 s p₁ M.queues.sum) (λ P p₂.
    and_then (read_ends s p₂ M.machines.product M.queues P) (λ D p₃.
    got (joined M P D) p₃))))

-- A SESSION FILE
unfoldable pub read_file : List ℕ → Part Tables
read_file s = read_with read_pool s

-- the tables of no file: all entries 0
abbrev pub empty : Tables
empty =
    joined empty_model
    (record { count = 0; finals = replicate most_pool 0; arcs = replicate pool_arcs 0 })
    (record { map = record { roots = replicate most_controls 0 }; bad = record { count = 0; rows = replicate (most_bad * 2) 0 } })

abbrev pub read_reply_of : Part Tables → ReadReply
read_reply_of (got T next) = read
read_reply_of (refused k p) = refusal k p

-- the tables handed back: all entries 0 after a refusal
abbrev pub tables_read : Part Tables → Tables
tables_read (got T next) = T
tables_read (refused k p) = empty

-- the tables that a result hands back; after a refusal it has none, which stands for those of no file
abbrev pub handed : Result Tables Refusal → Tables
handed (Ok T) = T
handed (Err why) = empty

-- WHAT READING PROMISES of part x of a file: the reply and the whole tables
pub record Reads (x : Part Tables) (r : Result Tables Refusal) : Type 0 where
  pub reply : said_answer r ≡ read_reply_of x
  pub tables : handed r ≡ tables_read x
