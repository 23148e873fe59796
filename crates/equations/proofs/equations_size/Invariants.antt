use Prim.Native.Nat.{◌*◌, ◌≤◌}
use Rattle.decks.specs.Lent.{in_rows}
use Rattle.equations.proofs.Laws as laws
use Rattle.equations.proofs.equations_size.Given as goal

abbrev pub invariant-loop-i : goal.invariant-loop-i
invariant-loop-i l = (l.n ≤ 131075 * l.i) × laws.SizeTo l.vars (in_rows l.equations) l.i l.n
