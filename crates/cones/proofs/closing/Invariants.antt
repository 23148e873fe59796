use Prim.Native.Nat.{◌-◌, ◌^◌, ◌<◌}
use Rattle.sets.specs.Sets.{size, width}
use Rattle.cones.proofs.Reaching as laws
use Rattle.cones.proofs.closing.Given as goal

abbrev pub invariant-loop-visited : goal.invariant-loop-visited
invariant-loop-visited l = (l.reached < 2 ^ width) × (l.visited < 2 ^ width) × laws.Reaching l.deps l.s l.reached l.visited

abbrev pub decreases-loop-visited : goal.decreases-loop-visited
decreases-loop-visited l = width - size l.visited
