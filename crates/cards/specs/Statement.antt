-- Statements: the statement fields of an opening card and the cards that continue it, one after the other, comments between them left out (RULES 2.4).
use Rattle.std.specs.Prelude.{not, List, [], ◌∷◌, ◌++◌, ℕ, suc}
use Rattle.lists.specs.Lists.{keep}
use Rattle.cards.specs.Card.{columns, field_start, field_end, is_blank, Comment, Empty, Opening, Continuing, kind_of}

-- A statement: the numbers of its cards, the first in front, and their fields, each filled with blanks to its 66 columns.
pub record Statement : Type 0 where
  pub card : ℕ
  pub further : List ℕ
  pub field : List ℕ

-- The statement field, columns 7 to 72.
abbrev pub field_of : List ℕ → List ℕ
field_of card = columns field_start field_end card

-- Blanks mean nothing: the characters that are none.
abbrev pub inked : List ℕ → List ℕ
inked cs = keep (λ c. not (is_blank c)) cs

-- The statement in hand, if one is open.
pub data Hand : Type 0 where
  Nothing : Hand
  Held : Statement → Hand

-- Laid down, it goes before those that follow.
abbrev pub laid : Hand → List Statement → List Statement
laid Nothing ss = ss
laid (Held s) ss = s ∷ ss

-- A continuation card, number n, folded into the statement in hand.
abbrev pub folded : ℕ → List ℕ → Hand → Hand
folded n card Nothing = Nothing
folded n card (Held s) = Held (record { card = s.card; further = s.further ++ (n ∷ []); field = s.field ++ field_of card })

-- The statements of the cards from number n on. A comment changes nothing; the one in hand is laid down before a blank card, before the next that opens, and at the end.
unfoldable pub gathered : ℕ → List (List ℕ) → Hand → List Statement
gathered n [] h = laid h []
gathered n (c ∷ cs) h =
    elim (kind_of c) [
      | Comment ↦ gathered (suc n) cs h
      | Empty ↦ laid h (gathered (suc n) cs Nothing)
      | Opening ↦ laid h (gathered (suc n) cs (Held (record { card = n; further = []; field = field_of c })))
      | Continuing ↦ gathered (suc n) cs (folded n c h)
    ]

abbrev pub statements_of : List (List ℕ) → List Statement
statements_of cards = gathered 1 cards Nothing
