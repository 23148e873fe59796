use borrow.Author.Rules.{rules}
use Rattle.writing.proofs.Laws as laws
use Rattle.writing.proofs.code_of.Goals as goal

pub returns-then-node-lt256 : goal.returns-then-node-lt256
returns-then-node-lt256 c = search (rules, laws.code_low)

pub returns-else-node-lt256 : goal.returns-else-node-lt256
returns-else-node-lt256 c = search (rules, laws.code_high)
