use Rattle.std.proofs.Common.{◌≡◌, ◌≤◌, take}
use Rattle.logic.specs.Pieces.{projected}
use Rattle.conjuncts.proofs.project.Given as goal

abbrev pub invariant-loop-s : goal.invariant-loop-s
invariant-loop-s l = record { few : l.n ≤ l.s-index; seen : take l.n l.row ≡ projected l.set (take l.s-index l.inits) }
