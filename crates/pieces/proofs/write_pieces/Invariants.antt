use mathlib.Core.Path.{◌≡◌}
use lib.ListN.{length}
use Rattle.pieces.proofs.All as laws
use Rattle.pieces.proofs.write_pieces.Given as goal

abbrev pub invariant-loop-span : goal.invariant-loop-span
invariant-loop-span l = (length l.out ≡ length l.initial.out) × laws.Filling l.deck l.deps l.spans l.initial.out l.span-index l.used l.out
