use Rattle.std.proofs.Common.{rules}
use Rattle.evaluator.specs.Pending.{variable_word}
use Rattle.evaluator.proofs.Laws.{all_made}
use Rattle.evaluator.proofs.push_variable.Goals as goal

pub returns : goal.returns
unfolding variable_word
returns c = all_made _ _ _ _ c.each.ensures (search rules)
