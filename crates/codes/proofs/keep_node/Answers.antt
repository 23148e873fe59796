use Rattle.codes.proofs.Steps as steps
use borrow.Author.Rules.{rules}
use Rattle.codes.proofs.keep_node.Goals as goal

pub returns-else-i-nodes : goal.returns-else-i-nodes
returns-else-i-nodes c = search (rules, steps.set_none)
