use Rattle.std.proofs.Common.{◌≡◌, ◌-◌, length}
use Rattle.evaluator.specs.Pending.{tops}
use Rattle.sweeps.specs.Swept.{seconds, Swept, sweep, swept_word}
use Rattle.sweeps.proofs.sweep.Given as goal

abbrev pub invariant-loop-i : goal.invariant-loop-i
invariant-loop-i l =
    (l.v ≡ sweep (seconds l.initial.words) (tops l.initial.words) l.start (length l.initial.words - l.i) l.i)
    × Swept (swept_word l.start l.initial.words) l.i l.initial.words l.words
