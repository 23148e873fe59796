use borrow.Author.Rules.{rules}
use Rattle.terms.proofs.Levels as laws
use Rattle.terms.proofs.+reach_of.Goals as goal

pub returns-then-nodes-at : goal.returns-then-nodes-at
returns-then-nodes-at t c = search (rules, laws.reach_off)

pub returns-then-operands-eq0 : goal.returns-then-operands-eq0
returns-then-operands-eq0 t c = search (rules, laws.reach_leaf)

pub returns-then-operands-eq1 : goal.returns-then-operands-eq1
returns-then-operands-eq1 t c = search (rules, laws.reach_one)

pub returns : goal.returns
returns t c = search (rules, laws.reach_two)
