use Rattle.printing.proofs.PrintLaws as laws
use Rattle.printing.proofs.put_refusal.Goals as goal

pub returns-then-out-lt15 : goal.returns-then-out-lt15
returns-then-out-lt15 c = laws.no_refusal _ _ _ _ c.if-out-lt15.true

pub returns : goal.returns
returns c = laws.refusal_put _ _ _ _ c.if-out-lt15.false _ c.put_byte.ensures _ c.put_number.ensures _ c.put_number-2.ensures _ c.put_number-3.ensures _ c.put_end.ensures
