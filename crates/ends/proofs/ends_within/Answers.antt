use Rattle.ends.proofs.Laws as laws
use borrow.Author.Rules.{rules}
use Rattle.ends.proofs.ends_within.Goals as goal

pub loop-b-preserved : goal.loop-b-preserved
loop-b-preserved c = search (rules, laws.within_next)
