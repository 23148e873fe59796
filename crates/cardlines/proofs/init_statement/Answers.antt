use Rattle.std.proofs.Common.{rules, arith}
use Rattle.cardlines.proofs.Laws as laws
use Rattle.cardlines.proofs.init_statement.Goals as goal

pub returns-in_err-state-clause-came : goal.returns-in_err-state-clause-came
returns-in_err-state-clause-came c = λ s H. search (rules, laws.init_number)

pub returns-then-h-ge-INITIALS-clause-came : goal.returns-then-h-ge-INITIALS-clause-came
returns-then-h-ge-INITIALS-clause-came c = λ s H. search (rules, laws.init_many)

pub returns-clause-came : goal.returns-clause-came
returns-clause-came c = λ s H. laws.init_fine _ _ _ _ _ s H _ (search rules) (omega arith) _ c.keep.ensures
