use borrow.Author.Rules.{rules}
use Rattle.texts.proofs.Laws as laws
use Rattle.texts.proofs.put_tail.Goals as goal

pub returns : goal.returns
returns c = search (rules, laws.tail_frames)
