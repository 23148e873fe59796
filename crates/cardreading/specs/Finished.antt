-- What is held where the last statement is read.
use Rattle.std.specs.Prelude.{◌≡◌}
use Rattle.decks.specs.declared.Deck.{Deck}
use Rattle.cards.specs.Read.{Sofar, DueNone}
use Rattle.cards.proofs.StatementLaws.{Stated}
use Rattle.cardlines.specs.declared.Held.{Held}
use Rattle.cardlines.specs.Held.{Holds}

-- `END` is read: what is held, and the deck, stand for what was typed.
pub record Ready (s : Sofar) (h : Held) (deck : Deck) : Type 0 where
  pub holds : Holds s h deck
  pub ended : s.due ≡ DueNone
  pub stated : Stated s.typed
