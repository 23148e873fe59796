use Rattle.std.proofs.Common.{rules}
use Rattle.truths.proofs.Laws as laws
use Rattle.truths.proofs.apply_two.Goals as goal

pub returns-in-259 : goal.returns-in-259
returns-in-259 c = search (rules, laws.applied_and)

pub returns-in-260 : goal.returns-in-260
returns-in-260 c = search (rules, laws.applied_or)

pub returns-in-264 : goal.returns-in-264
returns-in-264 c = search (rules, laws.applied_until)

pub returns-in_default : goal.returns-in_default
returns-in_default c = search (rules, laws.applied_weak)
