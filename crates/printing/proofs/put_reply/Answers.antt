use Rattle.printing.proofs.PrintLaws as laws
use Rattle.printing.proofs.put_reply.Goals as goal

pub returns-then-r-eq0 : goal.returns-then-r-eq0
returns-then-r-eq0 c = laws.reply_stands _ _ _ c.if-r-eq0.true

pub returns : goal.returns
returns c = laws.reply_refused _ _ _ _ _ c.if-r-eq0.false c.put_refusal.ensures
