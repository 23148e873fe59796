use Rattle.std.proofs.Common.{◌≡◌, ltb}
use Rattle.ends.specs.Ends.{line_length}
use Rattle.ends.proofs.ends_within.Given as goal

abbrev pub invariant-loop-b : goal.invariant-loop-b
invariant-loop-b l = l.found ≡ ltb (line_length l.block) l.b-index
