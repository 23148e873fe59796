use Rattle.std.proofs.Common.{rules}
use Rattle.truths.proofs.Laws as laws
use Rattle.truths.proofs.apply_one.Goals as goal

pub returns-in-258 : goal.returns-in-258
returns-in-258 c = search (rules, laws.applied_not)

pub returns-in-261 : goal.returns-in-261
returns-in-261 c = search (rules, laws.applied_next)

pub returns-in-262 : goal.returns-in-262
returns-in-262 c = search (rules, laws.applied_future)

pub returns-in_default : goal.returns-in_default
returns-in_default c = search (rules, laws.applied_always)
