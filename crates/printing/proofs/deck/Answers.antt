use Rattle.printing.proofs.PrintLaws as laws
use Rattle.printing.proofs.deck.Goals as goal

pub returns : goal.returns
returns g c = laws.deck-printed _ _ _ _ _ _ (c.write-r.ensures.reply, c.write-r.ensures.buffer) c.put_reply.ensures
