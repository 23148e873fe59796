use Rattle.lines.proofs.Laws as laws
use borrow.Author.Rules.{rules}
use Rattle.lines.proofs.zeros.Goals as goal

pub returns : goal.returns
returns c = search (rules, laws.zeros_are)
