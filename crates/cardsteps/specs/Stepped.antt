-- One statement of the text read.
use Rattle.std.specs.Prelude.{◌≡◌, List, ◌∷◌, ◌≤◌, length, Result, Ok, Err}
use Rattle.decks.specs.declared.Refusal.{Refusal}
use Rattle.decks.specs.declared.Deck.{Deck}
use Rattle.decks.specs.Answers.{Refused}
use Rattle.cards.specs.Card.{cards_of}
use Rattle.cards.specs.Statement.{Statement, inked}
use Rattle.cards.specs.Read.{Sofar, due_statement}
use Rattle.firstpass.specs.declared.Cards.{Cards}
use Rattle.statements.specs.declared.Opener.{Opener}
use Rattle.statements.specs.Hold.{Formed, following, from_opener}
use Rattle.cardlines.specs.declared.Held.{Held}
use Rattle.cardlines.specs.Held.{Small, Holds, Came}

-- The first of the statements from a card on is read: what it came to, and the cards behind it, from where all is in form.
pub record Onward (o : Opener) (held : Held) (deck : Deck) (next : Held) (left : Cards) (deck' : Deck) : Type 0 where
  pub its : Statement
  pub first : from_opener o ≡ its ∷ following left
  pub came : (s : Sofar) → Holds s held deck → Came (due_statement s.due its.card (inked its.field) s.typed) (Ok next) deck'
  pub onward : length left.text.now ≤ length o.behind.text.now
  pub formed : Formed left.n (cards_of left.text.now)
  pub small : Small next deck'

-- The first of the statements from a card on is refused.
pub record Stopped (o : Opener) (held : Held) (deck : Deck) (a : Refusal) : Type 0 where
  pub its : Statement
  pub further : List Statement
  pub first : from_opener o ≡ its ∷ further
  pub came : (s : Sofar) → Holds s held deck → due_statement s.due its.card (inked its.field) s.typed ≡ Refused a

-- The one or the other.
abbrev pub Stepped : Opener → Held → Deck → Result (Held × Cards) Refusal → Deck → Type 0
Stepped o held deck (Ok p) deck' = Onward o held deck p.0 p.1 deck'
Stepped o held deck (Err a) deck' = Stopped o held deck a
