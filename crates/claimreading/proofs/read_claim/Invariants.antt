use lib.ListN.{length}
use Prim.Native.Nat.{◌+◌, ◌-◌, ◌≤◌}
use mathlib.Core.Path.{◌≡◌}
use Rattle.claimreading.proofs.Laws as laws
use Rattle.claimreading.specs.Held.{RoomFor}
use Rattle.claimreading.proofs.read_claim.Given as goal

abbrev pub invariant-loop-at : goal.invariant-loop-at
invariant-loop-at l = (l.at ≤ length l.text) × (1 ≤ l.n) × (l.n ≤ l.at + 1) × (length l.text ≤ 64800) × (length l.states ≡ length l.initial.states) × RoomFor (length l.text) l.states × laws.Reached l.text l.vars l.states l.held l.at l.n

abbrev pub decreases-loop-at : goal.decreases-loop-at
decreases-loop-at l = length l.text - l.at
