use borrow.Author.Rules.{rules}
use Rattle.equations.proofs.Laws as laws
use Rattle.equations.proofs.count_of.Goals as goal

pub returns : goal.returns
returns c = search (rules, laws.counted)
