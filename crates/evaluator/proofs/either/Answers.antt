use Rattle.std.proofs.Common.{rules}
use Rattle.evaluator.proofs.Laws.{all_made, either_lowest}
use Rattle.evaluator.proofs.either.Goals as goal

pub returns : goal.returns
returns c = all_made _ _ _ _ c.each.ensures (search (rules, either_lowest))
