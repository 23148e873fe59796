use mathlib.Core.Path.{◌≡◌}
use lib.ListN.{length}
use Rattle.decks.specs.Lent.{in_rows}
use Rattle.equations.proofs.Laws as laws
use Rattle.equations.proofs.put_equations.Given as goal

abbrev pub invariant-loop-i : goal.invariant-loop-i
invariant-loop-i l = (length l.out ≡ length l.initial.out) × laws.EquationsTo l.vars (in_rows l.equations) l.i l.used l.initial.out l.out
