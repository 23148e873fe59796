-- What the functions over cards answer, in the words of the card form.
use Rattle.std.specs.Prelude.{Bool, true, false, ◌&&◌, ℕ, leb, Option, Some, None, Result, Ok, Err}
use Rattle.decks.specs.declared.Refusal.{Refusal}
use Rattle.decks.specs.Answers.{Outcome, Got, Refused}
use Rattle.cards.specs.Card.{Kind, Comment, Empty, Opening, Continuing, Open, Shut, Continued}
use Rattle.firstpass.specs.declared.CardKind.{CardKind}
use Rattle.firstpass.specs.declared.CardKind.TheVariants.{Comment as CommentCard, Empty as EmptyCard, Opening as OpeningCard, Continuing as ContinuingCard}

-- A byte from low to high.
abbrev pub between : ℕ → ℕ → ℕ → Bool
between low high c = leb low c && leb c high

-- The kind that an answer names.
abbrev pub kind_is : CardKind → Kind
kind_is CommentCard = Comment
kind_is EmptyCard = Empty
kind_is OpeningCard = Opening
kind_is ContinuingCard = Continuing

-- The kinds of card that 4 and 5 pass over: comments.
abbrev pub free : Kind → Bool
free Comment = true
free Empty = false
free Opening = false
free Continuing = false

-- The open statement: none, or one that so many cards continue.
abbrev pub open_of : Option ℕ → Open
open_of None = Shut
open_of (Some k) = Continued k

-- What a card came to.
abbrev pub outcome_of : Result (Option ℕ) Refusal → Outcome Open
outcome_of (Ok o) = Got (open_of o)
outcome_of (Err a) = Refused a
