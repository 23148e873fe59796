use borrow.Author.Rules.{rules}
use Rattle.texts.proofs.Laws as laws
use Rattle.texts.proofs.frames_size.Goals as goal

pub returns : goal.returns
returns c = λ qs e l. search (rules, laws.frames_size, c.equations_size-n.ensures.1)
