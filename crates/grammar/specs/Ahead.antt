-- What stands ahead of a reader in the characters of a statement, and how the reader comes to the next character.
use Rattle.std.specs.Prelude.{◌≡◌, List, [], ◌∷◌, ℕ, ◌+◌, ◌<◌, ◌≤◌, length, drop, get_or, Option, Some, None}
use Rattle.cards.specs.Card.{blank}
use Rattle.cards.specs.Statement.{inked}
use Rattle.grammar.specs.declared.Ink.{Ink}

-- The characters from place i on, blanks left out.
unfoldable pub ahead : List ℕ → ℕ → List ℕ
ahead chars i = inked (drop i chars)

-- Place i holds no blank, or is the end.
abbrev pub Settled : List ℕ → ℕ → Type 0
Settled chars i = i < length chars → get_or chars i 0 ≡ blank → ⊥

-- r is the first of the characters ahead of place i.
pub record InkAt (chars : List ℕ) (i : ℕ) (r : Ink) : Type 0 where
  pub from : i ≤ r.place
  pub within : r.place < length chars
  pub onward : r.next ≡ r.place + 1
  pub settled : Settled chars r.place
  pub same : ahead chars r.place ≡ ahead chars i
  pub first : ahead chars i ≡ r.code ∷ ahead chars r.next

-- r is the first of the characters ahead of place i, or there is none.
abbrev pub Inks : List ℕ → ℕ → Option Ink → Type 0
Inks chars i (Some r) = InkAt chars i r
Inks chars i None = ahead chars i ≡ []
