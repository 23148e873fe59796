use Rattle.std.proofs.Common.{length}
use Rattle.statements.proofs.Laws as laws
use Rattle.statements.proofs.whole_statement.Given as goal

abbrev pub invariant-loop-card : goal.invariant-loop-card
invariant-loop-card l = laws.Taking l.first l.stmt l.left

abbrev pub decreases-loop-card : goal.decreases-loop-card
decreases-loop-card l = length l.left.text.now
