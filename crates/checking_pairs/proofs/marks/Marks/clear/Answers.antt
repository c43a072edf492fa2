use Rattle.checking_pairs.specs.Laws.Clearing.{tail_within, front_long, unmark_begin, unmark_end, emptied}
use Rattle.checking_pairs.proofs.marks.Marks.clear.Goals as goal

pub slice_bounds-code-items-end : goal.slice_bounds-code-items-end
slice_bounds-code-items-end c = tail_within c.requires

pub slice_bounds-code-items-end-2 : goal.slice_bounds-code-items-end-2
slice_bounds-code-items-end-2 c = front_long c.requires

pub loop-code-init : goal.loop-code-init
loop-code-init c = unmark_begin c.requires

pub slice_bounds-fill-end : goal.slice_bounds-fill-end
slice_bounds-fill-end c = tail_within c.requires

pub slice_bounds-fill-end-2 : goal.slice_bounds-fill-end-2
slice_bounds-fill-end-2 c = front_long c.requires

pub returns : goal.returns
returns c =
    record {
      seen_blank = unmark_end c.loop-code.invariant c.loop-code-test.false;
      queue_blank = emptied c.requires (c.fill.ensures.after (λ y e. e));
    }
