use borrow.Author.Rules.{rules}
use Rattle.writing.proofs.Laws as laws
use Rattle.writing.proofs.digit.Goals as goal

pub returns-then-n-lt10 : goal.returns-then-n-lt10
returns-then-n-lt10 c = search (rules, laws.digit_low)

pub returns-else-n-lt10 : goal.returns-else-n-lt10
returns-else-n-lt10 c = search (rules, laws.digit_high)
