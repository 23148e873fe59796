use Rattle.codes.proofs.Steps as steps
use borrow.Author.Rules.{rules}
use Rattle.codes.proofs.leaf_vars.Goals as goal

pub returns-then-b-lt-CONSTANTS : goal.returns-then-b-lt-CONSTANTS
returns-then-b-lt-CONSTANTS c = search (rules, steps.vars-variable)

pub returns-else-b-lt-CONSTANTS : goal.returns-else-b-lt-CONSTANTS
returns-else-b-lt-CONSTANTS c = search (rules, steps.vars_none)
