use Rattle.std.proofs.Common.{rules}
use Rattle.evaluator.proofs.Laws.{all_made}
use Rattle.evaluator.proofs.lift.Goals as goal

pub returns : goal.returns
returns c = all_made _ _ _ _ c.each.ensures (search rules)
