use Rattle.std.proofs.Common.{◌≡◌, ◌++◌, length, drop, sym, ◌∙◌, arith}
use Rattle.std.specs.Slice.Iter.{chunks_exact_rest}
use Rattle.ends.proofs.Laws as laws
use Rattle.ends.proofs.past_blocks.Goals as goal

pub loop-block-preserved : goal.loop-block-preserved
loop-block-preserved c =
    let here = c.loop-block.invariant in
    let step = c.in-Some.ensures.steps in
    let e : drop c.loop-block.i c.args.text.now ≡ c.in-Some.block.now ++ chunks_exact_rest c.next.new.self = sym here.left ∙ step.1.0 in
    let n : length c.in-Some.block.now ≡ 8 = step.1.1 ∙ here.size in
    record {
      behind = omega arith;
      within = laws.block_within c.args.text.now _ _ _ e n;
      left = laws.block_behind c.args.text.now _ _ c.loop-block.i e n;
      size = step.0 ∙ here.size;
      line = laws.block_passed c.args.text.now _ _ c.loop-block.i e n _ _ c.ends_within.ensures c.if-ends_within.false here.line;
    }
