use borrow.Author.Rules.{rules}
use Rattle.equations.proofs.Laws as laws
use Rattle.equations.proofs.put_equation.Goals as goal

pub returns : goal.returns
returns c = search (rules, laws.equation_frame_lem)
