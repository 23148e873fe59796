use Rattle.std.proofs.Common.{◌≡◌, length}
use Rattle.bundle.proofs.Source.text.Given as goal

abbrev pub invariant-loop : goal.invariant-loop
invariant-loop g l = length l.text.room.now ≡ length l.initial.text.room.now
