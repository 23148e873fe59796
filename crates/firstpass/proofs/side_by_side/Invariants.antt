use Rattle.firstpass.proofs.Laws as laws
use Rattle.firstpass.proofs.side_by_side.Given as goal

abbrev pub invariant-loop-b : goal.invariant-loop-b
invariant-loop-b l = laws.SoFar l.part l.low l.high l.b-index l.all
