-- Cards: the cards of a text, their columns and kinds (RULES 2.1 to 2.3), and the faults 2 to 7, card by card.
use Rattle.std.specs.Prelude.{Bool, true, false, not, ◌&&◌, ◌||◌, List, [], ◌∷◌, ◌++◌, ℕ, suc, ◌+◌, ◌-◌, ltb, leb, eqb, length, take, drop, get_or, replicate}
use Prim.Native.Char.{code as character}
use Rattle.lists.specs.Lists.{ended, unended}
use Rattle.decks.specs.declared.Refusal.TheVariants.{BadByte, TooWide, BadStart, BadNumber, NoneOpen, TooManyCards}
use Rattle.decks.specs.Answers.{Outcome, Got, Refused, refuse}
use Rattle.decks.specs.Readings.{walk}

-- A card is a line ended by byte 10; the last may lack it.
abbrev pub last_card : List ℕ → List (List ℕ)
last_card [] = []
last_card (b ∷ bs) = (b ∷ bs) ∷ []

abbrev pub cards_of : List ℕ → List (List ℕ)
cards_of text = ended text ++ last_card (unended text)

abbrev pub blank : ℕ
blank = character " "

-- The columns of a card, the statement field among them, and the continuations a statement may have.
abbrev pub card_columns : ℕ
card_columns = 80

abbrev pub field_end : ℕ
field_end = 72

abbrev pub field_start : ℕ
field_start = 7

abbrev pub field_columns : ℕ
field_columns = 66

abbrev pub continuations : ℕ
continuations = 19

-- Column c of a card, from 1 on; short cards count as filled with blanks.
abbrev pub column : ℕ → List ℕ → ℕ
column c card = get_or card (c - 1) blank

-- Columns a to b, filled with blanks.
unfoldable pub columns : ℕ → ℕ → List ℕ → List ℕ
columns a b card = take (suc b - a) (drop (a - 1) card ++ replicate (suc b - a) blank)

-- Every character of the list passes the test.
unfoldable pub every : (ℕ → Bool) → List ℕ → Bool
every t [] = true
every t (c ∷ cs) = elim (t c) [ true ↦ every t cs | false ↦ false ]

abbrev pub is_blank : ℕ → Bool
is_blank c = eqb c blank

abbrev pub is_digit : ℕ → Bool
is_digit c = leb (character "0") c && leb c (character "9")

-- A byte that a card may hold: 32 to 126.
abbrev pub printable : ℕ → Bool
printable c = leb 32 c && leb c 126

-- The kinds of card.
pub data Kind : Type 0 where
  Comment Empty Opening Continuing : Kind

abbrev pub is_comment : List ℕ → Bool
is_comment card = eqb (column 1 card) (character "C") || eqb (column 1 card) (character "*")

-- Column 1 is `C` or `*`: a comment. Columns 1 to 72 blank: a blank card. Column 6 blank or `0` opens a statement; any other character continues the open one.
unfoldable pub kind_of : List ℕ → Kind
kind_of card =
    elim (is_comment card) [
      | true ↦ Comment
      | false ↦
          elim (every is_blank (columns 1 field_end card)) [
            | true ↦ Empty
            | false ↦ elim (is_blank (column 6 card) || eqb (column 6 card) (character "0")) [ true ↦ Opening | false ↦ Continuing ]
          ]
    ]

-- Columns 73 to 80 are all blank or exactly eight digits.
abbrev pub numbered : List ℕ → Bool
numbered card = every is_blank (columns 73 card_columns card) || every is_digit (columns 73 card_columns card)

-- Whether a statement is open, and how many cards continue it so far.
pub data Open : Type 0 where
  Shut : Open
  Continued : ℕ → Open

-- What a card of this kind, number n, makes of it: 6 and 7. A comment closes nothing, a blank card closes the open statement.
unfoldable pub opened : ℕ → Kind → Open → Outcome Open
opened n Comment o = Got o
opened n Empty o = Got Shut
opened n Opening o = Got (Continued 0)
opened n Continuing Shut = Refused (NoneOpen n)
opened n Continuing (Continued k) = refuse (ltb continuations (k + 1)) (TooManyCards n) (Got (Continued (k + 1)))

-- Card n: 2 to 7 in number order.
unfoldable pub card_in_form : ℕ → List ℕ → Open → Outcome Open
card_in_form n card o =
    refuse (not (every printable card)) (BadByte n)
    (refuse (ltb card_columns (length card)) (TooWide n)
    (refuse (not (is_comment card) && not (every is_blank (columns 1 5 card))) (BadStart n)
    (refuse (not (is_comment card) && not (numbered card)) (BadNumber n) (opened n (kind_of card) o))))

-- The first pass, card by card.
abbrev pub in_form : List (List ℕ) → Outcome Open
in_form cards = walk card_in_form 1 cards Shut
