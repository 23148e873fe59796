-- The faults of a card, 2 to 7: conditions on its columns and on the cards before it.
use Rattle.std.specs.Prelude.{◌≡◌, ◌⊎◌, false, List, [], ◌∷◌, ℕ, zero, suc, ◌<◌, ◌≤◌, length}
use Prim.Native.Char.{code as character}
use Rattle.lists.specs.Lists.{Some}
use Rattle.decks.specs.declared.Refusal.TheVariants.{BadByte, TooWide, BadStart, BadNumber, NoneOpen, TooManyCards}
use Rattle.cards.specs.Columns.{punched, remark}
use Rattle.cards.specs.Comments.{uncommented}
use Rattle.cards.specs.Card.{continuations}
use Rattle.refusals.specs.Order.{Conditions, Done, Try}

-- 2: a byte outside 32..126.
abbrev pub ByteOutside : List ℕ → Type 0
ByteOutside card = Some (λ (b : ℕ). (b < 32) ⊎ (126 < b)) card

-- 3: over 80 columns.
abbrev pub OverWide : List ℕ → Type 0
OverWide card = 80 < length card

-- 4: a column of 1 to 5 is not blank, on a card that is no comment.
abbrev pub StartPunched : List ℕ → Type 0
StartPunched card = (remark card ≡ false) × ((c : ℕ) × (1 ≤ c) × (c ≤ 5) × (punched card c ≡ character " " → ⊥))

-- 5: columns 73 to 80 are neither all blank nor exactly eight digits, on a card that is no comment.
abbrev pub MarginWrong : List ℕ → Type 0
MarginWrong card =
    (remark card ≡ false)
    × ((((c : ℕ) → 73 ≤ c → c ≤ 80 → punched card c ≡ character " ") → ⊥)
    × (((c : ℕ) → 73 ≤ c → c ≤ 80 → (character "0" ≤ punched card c) × (punched card c ≤ character "9")) → ⊥))

-- The card continues: no comment, and column 6 is neither blank nor `0`.
abbrev pub Continues : List ℕ → Type 0
Continues card = (remark card ≡ false) × (punched card 6 ≡ character " " → ⊥) × (punched card 6 ≡ character "0" → ⊥)

-- The card opens: no comment, column 6 is blank or `0`, and a column of 1 to 72 is not blank.
abbrev pub Opens : List ℕ → Type 0
Opens card =
    (remark card ≡ false)
    × ((punched card 6 ≡ character " ") ⊎ (punched card 6 ≡ character "0"))
    × ((c : ℕ) × (1 ≤ c) × (c ≤ 72) × (punched card c ≡ character " " → ⊥))

-- Going back over k cards that continue, the nearest first, one that opens.
abbrev pub OpenOver : ℕ → List (List ℕ) → Type 0
OpenOver k [] = ⊥
OpenOver zero (c ∷ cs) = Opens c
OpenOver (suc k) (c ∷ cs) = Continues c × OpenOver k cs

-- 6: it continues, and no statement is open. Comments among the cards before it are left out.
abbrev pub ContinuesNone : List (List ℕ) → List ℕ → Type 0
ContinuesNone back card = Continues card × ((k : ℕ) → OpenOver k (uncommented back) → ⊥)

-- 7: it continues a statement that nineteen cards before it continue, comments left out.
abbrev pub Twentieth : List (List ℕ) → List ℕ → Type 0
Twentieth back card = Continues card × OpenOver continuations (uncommented back)

-- Card n behind the cards given: 2 to 7 in number order.
abbrev pub card_faults : ℕ → List (List ℕ) → List ℕ → Conditions
card_faults n back card =
    Try (ByteOutside card) (BadByte n)
    (Try (OverWide card) (TooWide n)
    (Try (StartPunched card) (BadStart n)
    (Try (MarginWrong card) (BadNumber n) (Try (ContinuesNone back card) (NoneOpen n) (Try (Twentieth back card) (TooManyCards n) Done)))))
