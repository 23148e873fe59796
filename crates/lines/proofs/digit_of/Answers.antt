use Rattle.lines.proofs.Laws as laws
use borrow.Author.Rules.{rules}
use Rattle.lines.proofs.digit_of.Goals as goal

pub returns-in-48-to-57 : goal.returns-in-48-to-57
returns-in-48-to-57 c = search (rules, laws.digit-decimal)

pub returns-in-65-to-70 : goal.returns-in-65-to-70
returns-in-65-to-70 c = search (rules, laws.digit_letter)

pub returns-in_default : goal.returns-in_default
returns-in_default c = search (rules, laws.digit_low, laws.digit-between, laws.digit_high)

pub returns-in_default-2 : goal.returns-in_default-2
returns-in_default-2 c = search (rules, laws.digit_low, laws.digit-between, laws.digit_high)

pub returns-in_default-3 : goal.returns-in_default-3
returns-in_default-3 c = search (rules, laws.digit_low, laws.digit-between, laws.digit_high)
