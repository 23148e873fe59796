use Rattle.std.proofs.Common.{◌≡◌, drop}
use Rattle.sets.specs.Sets.{union}
use Rattle.terms.specs.Nodes.{variables_of}
use Rattle.terms.proofs.written_in.Given as goal

abbrev pub invariant-loop-node : goal.invariant-loop-node
invariant-loop-node l = variables_of l.node-items ≡ union l.set (variables_of (drop l.node-index l.node-items))
