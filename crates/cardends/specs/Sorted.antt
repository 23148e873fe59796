-- What is held behind `END`, once the equations are sorted.
use Rattle.std.specs.Prelude.{◌≡◌, length}
use Rattle.lists.specs.Lists.{padded, firsts}
use Rattle.logic.specs.Decks.{base}
use Rattle.decks.specs.declared.Deck.{Deck}
use Rattle.decks.specs.Lent.{Hold}
use Rattle.cards.specs.Typed.{deck_of}
use Rattle.cards.specs.Read.{Sofar, DueNone}
use Rattle.cards.proofs.StatementLaws.{Stated}
use Rattle.cardlines.specs.declared.Held.{Held}
use Rattle.cardlines.specs.Held.{held_of, PropertyHeld}

-- `END` is read: what is held, and the deck, stand for what was typed, with the equations by rising variable.
pub record Sorted (s : Sofar) (h : Held) (deck : Deck) : Type 0 where
  pub held_is : h ≡ held_of s
  pub inits_are : deck.inits ≡ padded base.initials (firsts s.typed.inits)
  pub initials_are : deck.initials ≡ length (firsts s.typed.inits)
  pub equations_are : Hold (deck_of s.typed).equations deck.equations
  pub property_is : PropertyHeld DueNone s.typed.property deck.size deck.property
  pub stated : Stated s.typed
