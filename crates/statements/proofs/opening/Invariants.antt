use Rattle.std.proofs.Common.{◌≡◌, ◌≤◌, length}
use Rattle.cards.specs.Card.{cards_of}
use Rattle.statements.specs.Hold.{Formed, following}
use Rattle.statements.proofs.opening.Given as goal

abbrev pub invariant-loop-card : goal.invariant-loop-card
invariant-loop-card l = record {
  same : following l.cards ≡ following l.left;
  formed : Formed l.left.n (cards_of l.left.text.now);
  onward : length l.left.text.now ≤ length l.cards.text.now;
}

abbrev pub decreases-loop-card : goal.decreases-loop-card
decreases-loop-card l = length l.left.text.now
