use Rattle.std.proofs.Common.{arith, refl}
use Rattle.sweeps.proofs.Laws as laws
use Rattle.sweeps.proofs.sweep.Goals as goal

pub loop-i-init : goal.loop-i-init
loop-i-init c = (laws.sweep_none _ _ c.requires _ refl, laws.swept_none _ _ _ refl)

pub loop-i-preserved : goal.loop-i-preserved
loop-i-preserved c =
    laws.swept_back _ _ _ c.requires _ _ _ c.loop-i-test.true (omega arith) c.loop-i.invariant.0 c.loop-i.invariant.1 c.carried-v.ensures

pub returns : goal.returns
returns c = laws.swept_all _ _ _ _ c.loop-i-test.false c.loop-i.invariant.1
