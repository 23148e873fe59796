use Rattle.printing.proofs.PrintLaws as laws
use Rattle.printing.proofs.pieces.Goals as goal

pub returns : goal.returns
returns g c = laws.pieces-printed _ _ _ _ _ _ (c.reduce-r.ensures.reply, c.reduce-r.ensures.buffer) c.put_reply.ensures
