use Rattle.steps.proofs.Equations as laws
use borrow.Author.Rules.{rules}
use Rattle.steps.proofs.mark_equation.Goals as goal

pub returns : goal.returns
returns c = search (rules, laws.popped, laws.equation_marked)
