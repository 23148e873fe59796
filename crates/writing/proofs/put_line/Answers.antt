use borrow.Author.Rules.{rules}
use Rattle.writing.proofs.Laws as laws
use Rattle.writing.proofs.put_line.Goals as goal

pub returns : goal.returns
returns c = search (rules, laws.nodes_line)
