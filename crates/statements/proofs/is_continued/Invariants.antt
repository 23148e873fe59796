use Rattle.std.proofs.Common.{◌≡◌, length}
use Rattle.cards.specs.Card.{cards_of}
use Rattle.statements.specs.Hold.{continued}
use Rattle.statements.proofs.is_continued.Given as goal

abbrev pub invariant-loop-left : goal.invariant-loop-left
invariant-loop-left l = continued (cards_of l.cards.text.now) ≡ continued (cards_of l.left.text.now)

abbrev pub decreases-loop-left : goal.decreases-loop-left
decreases-loop-left l = length l.left.text.now
