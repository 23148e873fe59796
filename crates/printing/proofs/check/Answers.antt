use Rattle.printing.proofs.PrintLaws as laws
use Rattle.printing.proofs.check.Goals as goal

pub returns : goal.returns
returns c = laws.verdict-printed _ _ _ _ _ _ c.check-r.ensures c.put_refusal.ensures
