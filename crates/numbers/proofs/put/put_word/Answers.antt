use Rattle.std.proofs.Common.{◌∙◌, arith, refl}
use Rattle.std.proofs.Math.Seq.{take-length}
use Rattle.std.proofs.lemmas.List.Edits.{sets-eq}
use Rattle.std.proofs.lemmas.Slice.{put_mid-paste}
use Rattle.numbers.proofs.put.put_word.Goals as goal

pub returns : goal.returns
returns c =
    record {
      buffer =
          put_mid-paste c.args.at _ c.args.s.now _ c.args.word.now _ c.copy_from_slice.ensures.after (omega arith) refl
          ∙ rw (take-length c.args.word.now, sets-eq c.args.word.now c.args.s.now c.args.at c.requires);
      next = refl;
      within = omega arith;
    }
