use Rattle.std.proofs.Common.{◌≤◌}
use Rattle.wording.proofs.page.Page.bytes.Given as goal

abbrev pub invariant-loop-b : goal.invariant-loop-b
invariant-loop-b l = l.initial.self.end ≤ l.self.end
