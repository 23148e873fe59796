use Rattle.std.proofs.Common.{rules}
use Rattle.cardlines.proofs.Laws as laws
use Rattle.cardlines.proofs.end_statement.Goals as goal

pub returns-in_err-at : goal.returns-in_err-at
returns-in_err-at c = search (rules, laws.end_word)

pub returns-then-is_some : goal.returns-then-is_some
returns-then-is_some c = search (rules, laws.end_wrong)

pub returns : goal.returns
returns c = search (rules, laws.end_fine)
