use Rattle.std.proofs.Common.{◌≡◌, ◌-◌, ◌≤◌, length, drop}
use Rattle.cards.specs.Card.{every}
use Rattle.firstpass.specs.Passed.{between}
use Rattle.firstpass.proofs.all_between.Given as goal

abbrev pub invariant-loop-i : goal.invariant-loop-i
invariant-loop-i l = (l.i ≤ length l.part) × (every (between l.low l.high) l.part ≡ every (between l.low l.high) (drop l.i l.part))

abbrev pub decreases-loop-i : goal.decreases-loop-i
decreases-loop-i l = length l.part - l.i
