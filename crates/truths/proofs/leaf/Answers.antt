use Rattle.std.proofs.Common.{rules}
use Rattle.truths.proofs.Laws as laws
use Rattle.truths.proofs.leaf.Goals as goal

pub returns-in-256 : goal.returns-in-256
returns-in-256 c = search (rules, laws.leaf_zero)

pub returns-in-257 : goal.returns-in-257
returns-in-257 c = search (rules, laws.leaf_one)

pub returns-in_default : goal.returns-in_default
returns-in_default c = search (rules, laws.leaf_variable)
