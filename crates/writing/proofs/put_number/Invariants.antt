use mathlib.Core.Path.{◌≡◌}
use lib.ListN.{length}
use Prim.Native.Nat.{◌*◌}
use Rattle.frames.specs.Hex.{pair}
use Rattle.writing.proofs.Laws as laws
use Rattle.writing.proofs.put_number.Given as goal

abbrev pub invariant-loop-i : goal.invariant-loop-i
invariant-loop-i l = (length l.out ≡ length l.initial.out) × laws.EachTo pair l.b-items l.i (2 * l.i) l.initial.out l.out
