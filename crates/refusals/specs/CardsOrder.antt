-- The conditions of a text of cards in the order of RULES 7.3.
use Rattle.std.specs.Prelude.{◌≡◌, List, [], ℕ, ◌<◌, length}
use Rattle.lists.specs.Lists.{Some}
use Rattle.logic.specs.Decks.{Equation, Deck, base}
use Rattle.decks.specs.declared.Refusal.TheVariants.{TooLong, NotDue, NoEquation}
use Rattle.cards.specs.Card.{cards_of}
use Rattle.cards.specs.Statement.{Statement, statements_of}
use Rattle.cards.specs.Typed.{deck_of}
use Rattle.cards.specs.Read.{DueNone}
use Rattle.refusals.specs.Order.{Conditions, Try, followed, one_by_one, backwards, rising}
use Rattle.refusals.specs.CardFaults.{card_faults}
use Rattle.refusals.specs.StatementFaults.{Behind, statement_faults}

-- 8 at place 0: behind the last statement another is due.
abbrev pub Missing : List Statement → Type 0
Missing back = Behind back (λ so. so.due ≡ DueNone → ⊥)

-- 15: Vv is a variable and has no equation.
abbrev pub Lacking : List Statement → ℕ → Type 0
Lacking back v = Behind back (λ so. (v < so.typed.count) × (Some (λ (q : Equation). q.left ≡ v) so.typed.equations → ⊥))

-- 1; card by card 2 to 7; statement by statement 8 to 14; 8 for a missing statement; 15, the lowest variable first.
abbrev pub cards_order : List ℕ → Conditions
cards_order text =
    Try (base.text < length text) (TooLong 1)
    (followed (one_by_one card_faults 1 [] (cards_of text))
    (followed (one_by_one statement_faults 1 [] (statements_of (cards_of text)))
    (Try (Missing (backwards [] (statements_of (cards_of text)))) (NotDue 0) (rising (Lacking (backwards [] (statements_of (cards_of text)))) NoEquation base.variables 0))))

-- What is typed with all its statements gives this deck.
abbrev pub Gives : List ℕ → Deck → Type 0
Gives text d = Behind (backwards [] (statements_of (cards_of text))) (λ so. d ≡ deck_of so.typed)
