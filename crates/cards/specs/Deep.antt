-- When characters are an expression, and when they go down too far: said of the characters alone, without the reader.
use Rattle.std.specs.Prelude.{◌≡◌, ◌⊎◌, List, [], ◌∷◌, ◌++◌, ℕ, zero, suc, ◌≤◌}
use Prim.Native.Char.{code as character}
use Rattle.lists.specs.Lists.{◌among◌}
use Rattle.logic.specs.Expressions.{Expr, Op1, Op2, levels, sign1, sign2, spelling, Below}
use Rattle.logic.specs.Decks.{base}

-- One of `0 1 V ~ X F G (`.
abbrev pub beginners : List ℕ
beginners = character "0" ∷ character "1" ∷ character "V" ∷ character "~" ∷ character "X" ∷ character "F" ∷ character "G" ∷ character "(" ∷ []

-- The text begins with one of them.
abbrev pub BeginsOne : List ℕ → Type 0
BeginsOne [] = ⊥
BeginsOne (c ∷ cs) = c among beginners

-- The characters that stand before an expression k levels down: on each level an operator, or a parenthesis, or a parenthesis, its whole first operand and the operator behind it.
abbrev pub Opens : ℕ → List ℕ → Type 0
Opens zero front = front ≡ []
Opens (suc k) front =
    ((o : Op1) × (rest : List ℕ) × (front ≡ sign1 o ∷ rest) × Opens k rest)
    ⊎ (((rest : List ℕ) × (front ≡ character "(" ∷ rest) × Opens k rest)
    ⊎ ((a : Expr) × (o : Op2) × (rest : List ℕ) × (front ≡ character "(" ∷ (spelling a ++ (sign2 o ∷ rest))) × (levels a ≤ k) × Below 100 a × Opens k rest))

-- The characters are the spelling of e, within the levels and with numbers of one or two digits.
abbrev pub Spells : List ℕ → Expr → Type 0
Spells cs e = (cs ≡ spelling e) × (levels e ≤ base.levels) × Below 100 e

-- An expression begins at the level behind the last, and all that stands to the left of it is in order.
abbrev pub TooFar : List ℕ → Type 0
TooFar cs = (front : List ℕ) × (rest : List ℕ) × (cs ≡ front ++ rest) × Opens base.levels front × BeginsOne rest
