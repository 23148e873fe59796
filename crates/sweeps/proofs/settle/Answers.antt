use Rattle.std.proofs.Common.{rules}
use Rattle.sweeps.proofs.Laws.{fold_settled}
use Rattle.sweeps.proofs.settle.Goals as goal

pub returns : goal.returns
returns c = fold_settled c.args.words.now c.args.z c.requires.1 c.args.p c.fold.result c.requires.0 (search rules)
