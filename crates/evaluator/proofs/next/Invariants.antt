use Rattle.evaluator.specs.Pending.{Done, next_word}
use Rattle.evaluator.proofs.next.Given as goal

abbrev pub invariant-loop-i : goal.invariant-loop-i
invariant-loop-i l = Done (next_word l.p l.initial.words) l.i l.initial.words l.words
