use Rattle.spelling.proofs.close.Given as goal

abbrev pub decreases-loop-sign : goal.decreases-loop-sign
decreases-loop-sign l = l.open.count
