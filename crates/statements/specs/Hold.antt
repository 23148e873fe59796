-- The statement in hand as memory holds it, a card folded into it, and what the walk from statement to statement takes.
use Rattle.std.specs.Prelude.{◌≡◌, Bool, true, false, List, [], ◌∷◌, ◌++◌, ℕ, ◌+◌, ◌-◌, ◌<◌, ◌≤◌, length, set, replicate, Option, Some, None}
use Rattle.lists.specs.Lists.{padded, splice}
use Rattle.decks.specs.Answers.{Got}
use Rattle.decks.specs.Readings.{walk}
use Rattle.cards.specs.Card.{cards_of, blank, field_columns, Kind, Comment, Empty, Opening, Continuing, is_comment, kind_of, Open, card_in_form}
use Rattle.cards.specs.Statement.{Statement, Nothing, gathered}
use Rattle.firstpass.specs.declared.Cards.{Cards}
use Rattle.statements.specs.declared.Stmt.{Stmt}
use Rattle.statements.specs.declared.Opener.{Opener}

-- The characters and the cards that a statement may have.
abbrev pub characters : ℕ
characters = 1320

abbrev pub statement_cards : ℕ
statement_cards = 20

-- Cards by their numbers and the characters of their fields, filled up with zeros.
abbrev pub held : List ℕ → List ℕ → Stmt
held cards field = record { chars = padded characters field; used = length field; cards = padded statement_cards cards; count = length cards }

abbrev pub stmt_of : Statement → Stmt
stmt_of s = held (s.card ∷ s.further) s.field

-- One more card finds room.
abbrev pub Room : Stmt → Type 0
Room s = (s.used + field_columns ≤ characters) × (s.count < statement_cards)

-- A field as it stands on the card, filled with blanks to its 66 columns.
abbrev pub filled : List ℕ → List ℕ
filled field = field ++ replicate (field_columns - length field) blank

-- The field of card n behind those in hand.
abbrev pub with_card : Stmt → ℕ → List ℕ → Stmt
with_card s n field = record { chars = splice s.used (filled field) s.chars; used = s.used + field_columns; cards = set s.cards s.count n; count = s.count + 1 }

-- The cards that open a statement.
abbrev pub opens : Kind → Bool
opens Comment = false
opens Empty = false
opens Opening = true
opens Continuing = false

-- The cards that continue a statement.
abbrev pub continues : Kind → Bool
continues Comment = false
continues Empty = false
continues Opening = false
continues Continuing = true

-- The cards before which a statement ends.
abbrev pub ends : Kind → Bool
ends Comment = false
ends Empty = true
ends Opening = true
ends Continuing = false

-- Whether the first of the cards that follow continues a statement.
abbrev pub first_continues : List (List ℕ) → Bool
first_continues [] = false
first_continues (c ∷ cs) = continues (kind_of c)

-- Whether the first of the cards that follow and are no comments continues the statement before it.
abbrev pub continued : List (List ℕ) → Bool
continued [] = false
continued (c ∷ cs) = elim (is_comment c) [ true ↦ continued cs | false ↦ continues (kind_of c) ]

-- The cards from number n on are in form, behind some open statement or none.
pub record Formed (n : ℕ) (cards : List (List ℕ)) : Type 0 where
  pub before : Open
  pub behind : Open
  pub walked : walk card_in_form n cards before ≡ Got behind

-- The statements of cards, from one of them on.
abbrev pub following : Cards → List Statement
following c = gathered c.n (cards_of c.text.now) Nothing

-- Those from a card on that opens one.
abbrev pub from_opener : Opener → List Statement
from_opener o = gathered o.n (o.card.now ∷ cards_of o.behind.text.now) Nothing

-- The card opens a statement, and from it on all cards are in form.
pub record Placed (o : Opener) : Type 0 where
  pub opener : kind_of o.card.now ≡ Opening
  pub next : o.behind.n ≡ o.n + 1
  pub formed : Formed o.n (o.card.now ∷ cards_of o.behind.text.now)

-- The next card that opens a statement: the same statements follow; or there is none.
abbrev pub AtOpener : Cards → Option Opener → Type 0
AtOpener cards None = following cards ≡ []
AtOpener cards (Some o) = (following cards ≡ from_opener o) × (length o.behind.text.now < length cards.text.now) × Placed o

-- The statement that a card opens is in hand, and the cards behind it are left, from where all is in form.
pub record Takes (o : Opener) (stmt : Stmt) (left : Cards) : Type 0 where
  pub its : Statement
  pub stmt_is : stmt ≡ stmt_of its
  pub first : from_opener o ≡ its ∷ following left
  pub onward : length left.text.now ≤ length o.behind.text.now
  pub formed : Formed left.n (cards_of left.text.now)

-- The next statement is in hand, and the cards behind it are left, from where all is in form.
pub record NextTaken (cards : Cards) (stmt : Stmt) (left : Cards) : Type 0 where
  pub its : Statement
  pub stmt_is : stmt ≡ stmt_of its
  pub first : following cards ≡ its ∷ following left
  pub onward : length left.text.now < length cards.text.now
  pub formed : Formed left.n (cards_of left.text.now)

-- Of these cards the next statement is taken; or there is none.
abbrev pub TakesNext : Cards → Option (Stmt × Cards) → Type 0
TakesNext cards None = following cards ≡ []
TakesNext cards (Some t) = NextTaken cards t.0 t.1
