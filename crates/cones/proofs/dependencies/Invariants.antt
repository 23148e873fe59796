use Rattle.std.proofs.Common.{length}
use Rattle.cones.proofs.Table as laws
use Rattle.cones.proofs.dependencies.Given as goal

abbrev pub invariant-loop-left : goal.invariant-loop-left
invariant-loop-left l = laws.Filling l.equations.lefts.now l.equations.ends.now l.equations.nodes.now l.equations.count l.deps (length l.yielded) l.at
