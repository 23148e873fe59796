-- The first pass over small texts, computed: each of 2 to 7, their order, and the points of RULES 2.1 to 2.4 that are easily misread.
use mathlib.Core.Path.{◌≡◌, refl}
use mathlib.Core.List.{List, [], ◌∷◌, ◌++◌}
use Prim.Native.Nat.{ℕ, ◌-◌}
use lib.ListN.{length, replicate}
use Rattle.std.specs.Prelude.{Result, Ok, Err}
use Rattle.lists.specs.Lists.{ended, unended, fronted, stands, joined}
use Rattle.lists.specs.Texts.{bytes}
use Rattle.decks.specs.declared.Refusal.{Refusal}
use Rattle.decks.specs.declared.Refusal.TheVariants.{BadByte, TooWide, BadStart, BadNumber, NoneOpen, TooManyCards}
use Rattle.decks.specs.Readings.{walk}
use Rattle.cards.specs.Card.{cards_of, blank, every, columns, kind_of, opened, card_in_form, in_form}
use Rattle.decks.specs.Answers.{said}

-- The answer to a text of these cards, each ended by byte 10.
answer : List (List ℕ) → Result (Unit {0}) Refusal
unfolding joined
answer cards = said (in_form (cards_of (joined cards)))

-- A card with something from column 73 on.
abbrev card : List ℕ → List ℕ → List ℕ
card cs behind = cs ++ (replicate (72 - length cs) blank ++ behind)

repeated : ℕ → List ℕ → List (List ℕ)
repeated n c = replicate n c

statement : List ℕ
unfolding bytes
statement = bytes "      END"

more : List ℕ
unfolding bytes
more = bytes "     1X"

last_without_end : cards_of (65 ∷ 10 ∷ 66 ∷ []) ≡ (65 ∷ []) ∷ (66 ∷ []) ∷ []
unfolding ended unended fronted stands
last_without_end = refl

no_card-behind_the_end : cards_of (65 ∷ 10 ∷ []) ≡ (65 ∷ []) ∷ []
unfolding ended unended fronted stands
no_card-behind_the_end = refl

no_card : cards_of [] ≡ []
unfolding ended unended
no_card = refl

-- A tab in card 3.
tab_2 : answer (statement ∷ statement ∷ (bytes "      E" ++ 9 ∷ []) ∷ []) ≡ Err (BadByte 3)
unfolding answer statement more repeated bytes joined ended unended fronted stands walk card_in_form opened kind_of every columns
tab_2 = refl

comment_byte_2 : answer ((bytes "* " ++ 127 ∷ []) ∷ []) ≡ Err (BadByte 1)
unfolding answer statement more repeated bytes joined ended unended fronted stands walk card_in_form opened kind_of every columns
comment_byte_2 = refl

beyond_byte_2 : answer ((replicate 81 blank ++ 9 ∷ []) ∷ []) ≡ Err (BadByte 1)
unfolding answer statement more repeated bytes joined ended unended fronted stands walk card_in_form opened kind_of every columns
beyond_byte_2 = refl

columns_80 : answer (replicate 80 blank ∷ []) ≡ Ok tt
unfolding answer statement more repeated bytes joined ended unended fronted stands walk card_in_form opened kind_of every columns
columns_80 = refl

columns_81_3 : answer (statement ∷ replicate 81 blank ∷ []) ≡ Err (TooWide 2)
unfolding answer statement more repeated bytes joined ended unended fronted stands walk card_in_form opened kind_of every columns
columns_81_3 = refl

comment_81_3 : answer ((bytes "C" ++ replicate 80 blank) ∷ []) ≡ Err (TooWide 1)
unfolding answer statement more repeated bytes joined ended unended fronted stands walk card_in_form opened kind_of every columns
comment_81_3 = refl

start_4 : answer (bytes "V0=1" ∷ []) ≡ Err (BadStart 1)
unfolding answer statement more repeated bytes joined ended unended fronted stands walk card_in_form opened kind_of every columns
start_4 = refl

-- A lower-case `c` in column 1 is no comment.
lower_case_4 : answer (bytes "c" ∷ []) ≡ Err (BadStart 1)
unfolding answer statement more repeated bytes joined ended unended fronted stands walk card_in_form opened kind_of every columns
lower_case_4 = refl

number_5 : answer (card statement (bytes "2") ∷ []) ≡ Err (BadNumber 1)
unfolding answer statement more repeated bytes joined ended unended fronted stands walk card_in_form opened kind_of every columns
number_5 = refl

eight_digits : answer (card statement (bytes "00000010") ∷ []) ≡ Ok tt
unfolding answer statement more repeated bytes joined ended unended fronted stands walk card_in_form opened kind_of every columns
eight_digits = refl

seven_digits_5 : answer (card statement (bytes "0000001") ∷ []) ≡ Err (BadNumber 1)
unfolding answer statement more repeated bytes joined ended unended fronted stands walk card_in_form opened kind_of every columns
seven_digits_5 = refl

blank-card_5 : answer (card [] (bytes "2") ∷ []) ≡ Err (BadNumber 1)
unfolding answer statement more repeated bytes joined ended unended fronted stands walk card_in_form opened kind_of every columns
blank-card_5 = refl

-- Short of column 80, filled with blanks before it is judged.
short_5 : answer (card statement (bytes "123") ∷ []) ≡ Err (BadNumber 1)
unfolding answer statement more repeated bytes joined ended unended fronted stands walk card_in_form opened kind_of every columns
short_5 = refl

comment_free : answer (card (bytes "C") (bytes "2") ∷ []) ≡ Ok tt
unfolding answer statement more repeated bytes joined ended unended fronted stands walk card_in_form opened kind_of every columns
comment_free = refl

none_open_6 : answer (more ∷ []) ≡ Err (NoneOpen 1)
unfolding answer statement more repeated bytes joined ended unended fronted stands walk card_in_form opened kind_of every columns
none_open_6 = refl

-- A comment closes nothing, and is no continuation; a blank card closes, be it numbered.
comment_closes_nothing : answer (statement ∷ bytes "C" ∷ more ∷ bytes "*" ∷ bytes "C" ∷ more ∷ []) ≡ Ok tt
unfolding answer statement more repeated bytes joined ended unended fronted stands walk card_in_form opened kind_of every columns
comment_closes_nothing = refl

comment_opens_none_6 : answer (bytes "C" ∷ more ∷ []) ≡ Err (NoneOpen 2)
unfolding answer statement more repeated bytes joined ended unended fronted stands walk card_in_form opened kind_of every columns
comment_opens_none_6 = refl

blank_closes_6 : answer (statement ∷ [] ∷ more ∷ []) ≡ Err (NoneOpen 3)
unfolding answer statement more repeated bytes joined ended unended fronted stands walk card_in_form opened kind_of every columns
blank_closes_6 = refl

numbered-blank_closes_6 : answer (statement ∷ card [] (bytes "00000020") ∷ more ∷ []) ≡ Err (NoneOpen 3)
unfolding answer statement more repeated bytes joined ended unended fronted stands walk card_in_form opened kind_of every columns
numbered-blank_closes_6 = refl

-- `0` alone in column 6 opens a statement.
zero_opens : answer (bytes "     0" ∷ more ∷ []) ≡ Ok tt
unfolding answer statement more repeated bytes joined ended unended fronted stands walk card_in_form opened kind_of every columns
zero_opens = refl

nineteen : answer (statement ∷ repeated 19 more) ≡ Ok tt
unfolding answer statement more repeated bytes joined ended unended fronted stands walk card_in_form opened kind_of every columns
nineteen = refl

twenty_7 : answer (statement ∷ repeated 20 more) ≡ Err (TooManyCards 21)
unfolding answer statement more repeated bytes joined ended unended fronted stands walk card_in_form opened kind_of every columns
twenty_7 = refl

comments_uncounted : answer (statement ∷ bytes "C" ∷ repeated 19 more ++ bytes "*" ∷ []) ≡ Ok tt
unfolding answer statement more repeated bytes joined ended unended fronted stands walk card_in_form opened kind_of every columns
comments_uncounted = refl

twentieth_behind_comments_7 : answer (statement ∷ bytes "C" ∷ repeated 19 more ++ bytes "*" ∷ more ∷ []) ≡ Err (TooManyCards 23)
unfolding answer statement more repeated bytes joined ended unended fronted stands walk card_in_form opened kind_of every columns
twentieth_behind_comments_7 = refl

-- Two faults on one card: the lower number.
two_and_three : answer ((replicate 80 blank ++ 9 ∷ []) ∷ []) ≡ Err (BadByte 1)
unfolding answer statement more repeated bytes joined ended unended fronted stands walk card_in_form opened kind_of every columns
two_and_three = refl

three_and_four : answer ((bytes "V" ++ replicate 80 blank) ∷ []) ≡ Err (TooWide 1)
unfolding answer statement more repeated bytes joined ended unended fronted stands walk card_in_form opened kind_of every columns
three_and_four = refl

four_and_five : answer (card (bytes "V") (bytes "2") ∷ []) ≡ Err (BadStart 1)
unfolding answer statement more repeated bytes joined ended unended fronted stands walk card_in_form opened kind_of every columns
four_and_five = refl

five_and_six : answer (card more (bytes "2") ∷ []) ≡ Err (BadNumber 1)
unfolding answer statement more repeated bytes joined ended unended fronted stands walk card_in_form opened kind_of every columns
five_and_six = refl

-- Two cards at fault: the first card.
first-card-first : answer (more ∷ (bytes "      " ++ 9 ∷ []) ∷ []) ≡ Err (NoneOpen 1)
unfolding answer statement more repeated bytes joined ended unended fronted stands walk card_in_form opened kind_of every columns
first-card-first = refl
