use Rattle.std.proofs.Common.{◌≡◌, length}
use Rattle.std.specs.Slice.Iter.{chunks_exact_rest, chunks_exact_size}
use Rattle.lines.proofs.Laws as laws
use Rattle.lines.proofs.number_at.Given as goal

abbrev pub invariant-loop-digits : goal.invariant-loop-digits
invariant-loop-digits l = laws.Left l.line l.at l.k l.digits 0

abbrev pub decreases-loop-digits : goal.decreases-loop-digits
decreases-loop-digits l = length l.digits

abbrev pub invariant-loop-two : goal.invariant-loop-two
invariant-loop-two l = (chunks_exact_size l.two-iterator ≡ 2) × laws.Left l.line l.at l.k (chunks_exact_rest l.two-iterator) l.value
