use Rattle.std.proofs.Common.{rules}
use Rattle.phrases.proofs.Operators as laws
use Rattle.phrases.proofs.joining.Goals as goal

pub returns-in_default : goal.returns-in_default
returns-in_default c = search (rules, laws.joins_end)

pub returns-in-Some-joint_of : goal.returns-in-Some-joint_of
returns-in-Some-joint_of c = search (rules, laws.joins_some)

pub returns-in-None : goal.returns-in-None
returns-in-None c = search (rules, laws.joins_none)
