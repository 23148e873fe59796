use mathlib.Core.Path.{◌≡◌}
use lib.ListN.{length}
use Rattle.std.specs.Slice.Iter.{chunks_exact_rest, chunks_exact_size}
use Rattle.codes.proofs.Steps as steps
use Rattle.codes.proofs.expression.Given as goal

abbrev pub invariant-loop-two : goal.invariant-loop-two
invariant-loop-two l =
    (chunks_exact_size l.two-iterator ≡ 2) × (length l.out ≡ length l.initial.out) × steps.Going l.line l.at l.left l.used l.initial.out l.out (chunks_exact_rest l.two-iterator) l.l l.pending l.nodes l.vars l.temporal
