use Rattle.lines.proofs.Laws as laws
use borrow.Author.Rules.{rules}
use Rattle.lines.proofs.pair.Goals as goal

pub returns-in_err-digit_of : goal.returns-in_err-digit_of
returns-in_err-digit_of c = search (rules, laws.pair_wrong_high)

pub returns-in_err-digit_of-2 : goal.returns-in_err-digit_of-2
returns-in_err-digit_of-2 c = search (rules, laws.pair_wrong_low)

pub returns : goal.returns
returns c = search (rules, laws.pair_whole)
