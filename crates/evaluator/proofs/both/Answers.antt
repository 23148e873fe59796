use Rattle.std.proofs.Common.{rules}
use Rattle.evaluator.proofs.Laws.{all_made, both_lowest}
use Rattle.evaluator.proofs.both.Goals as goal

pub returns : goal.returns
returns c = all_made _ _ _ _ c.each.ensures (search (rules, both_lowest))
