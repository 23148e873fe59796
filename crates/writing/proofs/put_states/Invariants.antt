use mathlib.Core.Path.{◌≡◌}
use lib.ListN.{length}
use Prim.Native.Nat.{◌*◌}
use Rattle.writing.proofs.Laws as laws
use Rattle.writing.proofs.put_states.Given as goal

abbrev pub invariant-loop-i : goal.invariant-loop-i
invariant-loop-i l = (length l.out ≡ length l.initial.out) × laws.EachTo (laws.state_frame l.kind) l.states l.i (19 * l.i) l.initial.out l.out
