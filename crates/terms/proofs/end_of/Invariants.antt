use Rattle.std.proofs.Common.{◌≡◌, ◌+◌, ◌≤◌, drop}
use Rattle.terms.specs.Nodes.{spans}
use Rattle.terms.proofs.end_of.Given as goal

abbrev pub invariant-loop-i : goal.invariant-loop-i
invariant-loop-i l = record { few : l.pending + l.at ≤ l.i + 1; rest : l.at + spans 1 (drop l.at l.nodes) ≡ l.i + spans l.pending (drop l.i l.nodes) }
