use Rattle.std.proofs.Common.{rules}
use Rattle.phrases.proofs.Expressions as laws
use Rattle.phrases.proofs.variable.Goals as goal

pub returns : goal.returns
returns c = search (rules, laws.variable_read)
