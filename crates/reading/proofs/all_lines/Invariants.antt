use lib.ListN.{length}
use Prim.Native.Nat.{◌+◌, ◌-◌, ◌≤◌}
use Rattle.reading.proofs.Laws as laws
use Rattle.reading.proofs.all_lines.Given as goal

abbrev pub invariant-loop-at : goal.invariant-loop-at
invariant-loop-at l = (l.at ≤ length l.text) × (1 ≤ l.n) × (l.n ≤ l.at + 1) × (length l.text ≤ 64800) × laws.Reached l.text l.deck l.held l.at l.n

abbrev pub decreases-loop-at : goal.decreases-loop-at
decreases-loop-at l = length l.text - l.at
