-- A text of cards by column numbers alone: the characters that columns 7 to 72 hold, and what the other columns may hold. Nothing here names a statement or a reader.
use Rattle.std.specs.Prelude.{◌≡◌, ◌⊎◌, Bool, true, false, ◌||◌, List, [], ◌∷◌, ◌++◌, ℕ, zero, suc, ◌-◌, ◌≤◌, eqb, length, get_or}
use Prim.Native.Char.{code as character}
use Rattle.lists.specs.Lists.{Each, ◌among◌, joined}

-- The text is these cards, each ended by byte 10; the last may lack it.
abbrev pub CardsAre : List ℕ → List (List ℕ) → Type 0
CardsAre text cards =
    Each (λ (card : List ℕ). 10 among card → ⊥) cards
    × ((text ≡ joined cards) ⊎ ((front : List (List ℕ)) × (last : List ℕ) × (last ≡ [] → ⊥) × (cards ≡ front ++ last ∷ []) × (text ≡ joined front ++ last)))

-- The character in column c of the card, from 1 on: a blank behind its end.
abbrev pub punched : List ℕ → ℕ → ℕ
punched card c = get_or card (c - 1) (character " ")

-- Column 1 is `C` or `*`.
abbrev pub remark : List ℕ → Bool
remark card = eqb (punched card 1) (character "C") || eqb (punched card 1) (character "*")

-- The characters in the k columns from c on that are no blanks.
unfoldable pub ink_from : ℕ → ℕ → List ℕ → List ℕ
ink_from c zero card = []
ink_from c (suc k) card = elim (eqb (punched card c) (character " ")) [ true ↦ ink_from (suc c) k card | false ↦ punched card c ∷ ink_from (suc c) k card ]

-- Those in columns 7 to 72.
abbrev pub card_text : List ℕ → List ℕ
card_text card = ink_from 7 (72 - 6) card

-- Those of every card that is no comment, card by card.
unfoldable pub deck_text : List (List ℕ) → List ℕ
deck_text [] = []
deck_text (card ∷ cards) = elim (remark card) [ true ↦ deck_text cards | false ↦ card_text card ++ deck_text cards ]

-- The texts one behind the other.
unfoldable pub together : List (List ℕ) → List ℕ
together [] = []
together (l ∷ ls) = l ++ together ls

-- What RULES 2.2 asks of columns 1 to 5 and 73 to 80 of a card that is no comment.
pub record Margins (card : List ℕ) : Type 0 where
  pub start_blank : (c : ℕ) → 1 ≤ c → c ≤ 5 → punched card c ≡ character " "
  pub end_numbered : ((c : ℕ) → 73 ≤ c → c ≤ 80 → punched card c ≡ character " ") ⊎ ((c : ℕ) → 73 ≤ c → c ≤ 80 → (character "0" ≤ punched card c) × (punched card c ≤ character "9"))

-- What it asks of a card.
pub record Formed (card : List ℕ) : Type 0 where
  pub bytes_in : Each (λ (b : ℕ). (32 ≤ b) × (b ≤ 126)) card
  pub width : length card ≤ 80
  pub margins : remark card ≡ false → Margins card
