use Rattle.firstpass.proofs.Laws as laws
use Rattle.firstpass.proofs.side_by_side.Goals as goal

pub loop-b-preserved : goal.loop-b-preserved
loop-b-preserved c = laws.one_more _ _ _ _ _ c.loop-b-test.true c.loop-b.invariant

pub returns : goal.returns
returns c = laws.all_so_far _ _ _ _ _ c.loop-b-test.false c.loop-b.invariant
