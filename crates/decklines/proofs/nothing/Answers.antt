use Rattle.decklines.proofs.Laws as laws
use borrow.Author.Rules.{rules}
use Rattle.decklines.proofs.nothing.Goals as goal

pub returns : goal.returns
returns c = search (rules, laws.nothing_held)
