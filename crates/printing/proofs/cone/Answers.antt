use Rattle.printing.proofs.PrintLaws as laws
use Rattle.printing.proofs.cone.Goals as goal

pub returns-then-r-ne0 : goal.returns-then-r-ne0
returns-then-r-ne0 c = laws.cone_refused _ _ _ _ _ _ c.cone-r.ensures c.if-r-ne0.true c.put_refusal.ensures

pub returns : goal.returns
returns c = laws.cone-printed _ _ _ _ _ _ c.cone-r.ensures c.if-r-ne0.false c.put_cone.ensures
