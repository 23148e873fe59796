use lib.ListN.{length}
use Rattle.conjuncts.proofs.+split_row.Given as goal

abbrev pub decreases-split_row : goal.decreases-split_row
decreases-split_row l = length l.code.now
