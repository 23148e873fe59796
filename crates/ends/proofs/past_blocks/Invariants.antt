use Rattle.std.proofs.Common.{◌≡◌, ◌+◌, ◌≤◌, length, drop}
use Rattle.std.specs.Slice.Iter.{chunks_exact_rest, chunks_exact_size}
use Rattle.ends.specs.Ends.{line_length}
use Rattle.ends.proofs.past_blocks.Given as goal

abbrev pub invariant-loop-block : goal.invariant-loop-block
invariant-loop-block l =
    record {
      behind : l.at ≤ l.i;
      within : l.i ≤ length l.text;
      left : chunks_exact_rest l.block-iterator ≡ drop l.i l.text;
      size : chunks_exact_size l.block-iterator ≡ 8;
      line : l.at + line_length (drop l.at l.text) ≡ l.i + line_length (drop l.i l.text);
    }
