use Rattle.std.proofs.Common.{◌≡◌, ◌-◌, length}
use Rattle.reading_model.specs.Words.{read_word}
use Rattle.reading_model.proofs.words.read_word.Given as goal

abbrev pub invariant-loop-j : goal.invariant-loop-j
invariant-loop-j l =
    record {
      rest : read_word l.r.bytes.now l.r.place l.sum l.own.lo l.own.hi (l.end - l.j) l.j l.table ≡ read_word l.fn.r.bytes.now l.fn.r.place l.sum l.own.lo l.own.hi (l.end - l.start) l.start l.initial.table;
      bytes : l.r.bytes ≡ l.fn.r.bytes;
      long : length l.table ≡ length l.initial.table;
    }
