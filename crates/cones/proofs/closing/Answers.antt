use Rattle.cones.proofs.Reaching as laws
use borrow.Author.Rules.{rules}
use Rattle.cones.proofs.closing.Goals as goal

pub bounds-deps-v : goal.bounds-deps-v
bounds-deps-v c = search (rules, laws.next_within)

pub loop-visited-smaller : goal.loop-visited-smaller
loop-visited-smaller c = search (rules, laws.reaching_less)

pub loop-visited-preserved : goal.loop-visited-preserved
loop-visited-preserved c = search (rules, laws.reaching_next)

pub returns : goal.returns
returns c = search (rules, laws.reaching_ends)
