use Rattle.std.proofs.Common.{◌≡◌, length}
use Rattle.decks.specs.Readings.{walk}
use Rattle.cards.specs.Card.{cards_of, card_in_form, in_form}
use Rattle.firstpass.specs.Passed.{open_of}
use Rattle.firstpass.proofs.first_pass.Given as goal

abbrev pub invariant-loop-card : goal.invariant-loop-card
invariant-loop-card l = in_form (cards_of l.text) ≡ walk card_in_form l.cards.n (cards_of l.cards.text.now) (open_of l.hand)

abbrev pub decreases-loop-card : goal.decreases-loop-card
decreases-loop-card l = length l.cards.text.now
