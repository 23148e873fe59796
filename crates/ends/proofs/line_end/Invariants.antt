use Rattle.std.proofs.Common.{◌≡◌, ◌+◌, ◌≤◌, drop}
use Rattle.ends.specs.Ends.{line_length}
use Rattle.ends.proofs.line_end.Given as goal

abbrev pub invariant-loop-i : goal.invariant-loop-i
invariant-loop-i l = record { behind : l.at ≤ l.i; line : l.at + line_length (drop l.at l.text) ≡ l.i + line_length (drop l.i l.text) }
