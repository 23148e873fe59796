use Rattle.std.proofs.Common.{rules}
use Rattle.evaluator.proofs.Laws.{both_lowest, either_lowest}
use Rattle.sweeps.proofs.carried.Goals as goal

pub returns : goal.returns
returns c = search (rules, both_lowest, either_lowest)
