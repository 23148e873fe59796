use Rattle.conjuncts.proofs.States as laws
use borrow.Author.Rules.{rules}
use Rattle.conjuncts.proofs.add_state.Goals as goal

pub returns-then-stands_in : goal.returns-then-stands_in
returns-then-stands_in c = search (rules, laws.state_again)

pub returns : goal.returns
returns c = search (rules, laws.state_new)
