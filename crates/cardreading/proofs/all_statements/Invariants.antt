use Rattle.std.proofs.Common.{length}
use Rattle.cards.specs.Card.{cards_of}
use Rattle.statements.specs.Hold.{Formed}
use Rattle.cardlines.specs.Held.{Small}
use Rattle.cardreading.proofs.WalkLaws as laws
use Rattle.cardreading.proofs.all_statements.Given as goal

abbrev pub invariant-loop-opener : goal.invariant-loop-opener
invariant-loop-opener l = record {
  formed : Formed l.left.n (cards_of l.left.text.now);
  small : Small l.held l.deck;
  walked : laws.Walked l.text l.left l.held l.deck;
}

abbrev pub decreases-loop-opener : goal.decreases-loop-opener
decreases-loop-opener l = length l.left.text.now
