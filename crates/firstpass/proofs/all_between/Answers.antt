use Rattle.std.proofs.Common.{arith}
use Rattle.firstpass.proofs.Laws as laws
use Rattle.firstpass.proofs.all_between.Goals as goal

pub returns-then-not-side_by_side : goal.returns-then-not-side_by_side
returns-then-not-side_by_side c = laws.block_fails _ _ _ _ c.loop-i.invariant.1 c.if-not-side_by_side.ensures

pub loop-i-preserved : goal.loop-i-preserved
loop-i-preserved c = (omega (arith, c.loop-i-test.true), laws.block_passes _ _ _ _ c.loop-i.invariant.1 c.if-not-side_by_side.ensures)

pub returns : goal.returns
returns c = laws.rest_done _ _ _ _ c.loop-i.invariant.1 _ c.side_by_side-2.ensures
