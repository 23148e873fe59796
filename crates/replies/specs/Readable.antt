-- What the operations may rely on where a deck was read: it is accepted.
use Rattle.logic.specs.Decks.{Deck, Accepted, base}
use Rattle.decks.specs.Answers.{Outcome, Got, Refused}

abbrev pub Readable : Outcome Deck → Type 0
Readable (Got d) = Accepted base d
Readable (Refused a) = Unit
