-- What the operations may rely on of both forms of texts: a deck that is read is accepted.
use Rattle.std.specs.Prelude.{◌≡◌, List, ℕ}
use mathlib.Core.Path.{refl}
use Rattle.logic.specs.Decks.{Deck, Accepted, base}
use Rattle.decks.specs.Answers.{Outcome, Got, Refused}
use Rattle.frames.specs.Read.{read_deck}
use Rattle.frames.proofs.DeckTheorems.{deck_read_accepted}
use Rattle.cards.specs.Read.{read_cards}
use Rattle.cards.proofs.NothingDropped.{cards_accepted}
use Rattle.replies.specs.Readable.{Readable}

readable : (o : Outcome Deck) → ((d : Deck) → o ≡ Got d → Accepted base d) → Readable o
readable (Got d) f = f d refl
readable (Refused a) f = tt

pub cards_readable : (text : List ℕ) → Readable (read_cards text)
cards_readable text = readable (read_cards text) (cards_accepted text)

pub frames_readable : (text : List ℕ) → Readable (read_deck text)
frames_readable text = readable (read_deck text) (deck_read_accepted text)
