use borrow.Author.Rules.{rules}
use Rattle.exports.proofs.Laws as laws
use Rattle.exports.proofs.export.Goals as goal

pub returns : goal.returns
returns c = search (rules, laws.two_filled)
