use mathlib.Core.Path.{◌≡◌}
use lib.ListN.{length}
use Prim.Native.Nat.{◌*◌}
use Rattle.writing.proofs.Laws as laws
use Rattle.writing.proofs.put_nodes.Given as goal

abbrev pub invariant-loop-i : goal.invariant-loop-i
invariant-loop-i l = (length l.out ≡ length l.initial.out) × laws.EachTo laws.node_pair l.nodes l.i (2 * l.i) l.initial.out l.out
