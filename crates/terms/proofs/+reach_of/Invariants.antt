use Rattle.std.proofs.Common.{◌-◌, length}
use Rattle.terms.proofs.+reach_of.Given as goal

abbrev pub decreases-reach_of : goal.decreases-reach_of
decreases-reach_of l = length l.nodes.now - l.at
