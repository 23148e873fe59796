-- The grammar of statements (RULES 2.7, 2.8) over their characters without blanks (RULES 2.5), read from the left (RULES 7.6).
use Rattle.std.specs.Prelude.{Bool, true, false, List, [], ◌∷◌, ℕ, zero, suc, ◌+◌, ◌-◌, ◌*◌, eqb}
use Rattle.std.proofs.Math.Option.{Option, none, some}
use Prim.Native.Char.{code as character}
use Rattle.lists.specs.Lists.{chosen}
use Rattle.logic.specs.Expressions.{Op1, Op2, Const, Var, One, Two, Not, Next, Future, Always, And, Or, Until, Weak}
use Rattle.decks.specs.Readings.{Reading, Whole, Wrong, Deep, onward}
use Rattle.cards.specs.Card.{is_digit}

-- ---- numbers

-- A number and what stands behind it; or what stands from the first fault on.
pub data Counted : Type 0 where
  Number : ℕ → List ℕ → Counted
  NoNumber : List ℕ → Counted

abbrev pub digit_value : ℕ → ℕ
digit_value c = c - character "0"

-- Behind a first digit of value d other than 0: a second one, if a digit stands there.
unfoldable pub second_digit : ℕ → List ℕ → Counted
second_digit d [] = Number d []
second_digit d (c ∷ cs) = elim (is_digit c) [ true ↦ Number (10 * d + digit_value c) cs | false ↦ Number d (c ∷ cs) ]

-- One or two digits, no leading zero.
unfoldable pub read_number : List ℕ → Counted
read_number [] = NoNumber []
read_number (c ∷ cs) =
    elim (is_digit c) [
      | true ↦ elim (eqb (digit_value c) 0) [ true ↦ Number 0 cs | false ↦ second_digit (digit_value c) cs ]
      | false ↦ NoNumber (c ∷ cs)
    ]

-- ---- expressions

-- What a character begins.
pub data Sign : Type 0 where
  Constant : Bool → Sign
  Variable : Sign
  Before : Op1 → Sign
  Bracket : Sign
  NoSign : Sign

-- One of `0 1 V ~ X F G (`, or none of them.
unfoldable pub sign_of : ℕ → Sign
sign_of c =
    chosen (eqb c (character "0")) (Constant false)
    (chosen (eqb c (character "1")) (Constant true)
    (chosen (eqb c (character "V")) Variable
    (chosen (eqb c (character "~")) (Before Not)
    (chosen (eqb c (character "X")) (Before Next)
    (chosen (eqb c (character "F")) (Before Future)
    (chosen (eqb c (character "G")) (Before Always) (chosen (eqb c (character "(")) Bracket NoSign)))))))

-- One of `& + U W` between two operands, or none of them.
unfoldable pub joint_of : ℕ → Option Op2
joint_of c =
    chosen (eqb c (character "&")) (some And)
    (chosen (eqb c (character "+")) (some Or) (chosen (eqb c (character "U")) (some Until) (chosen (eqb c (character "W")) (some Weak) none)))

-- The character c, and then the rest.
unfoldable pub past : ℕ → List ℕ → (List ℕ → Reading) → Reading
past c [] f = Wrong []
past c (x ∷ xs) f = elim (eqb x c) [ true ↦ f xs | false ↦ Wrong (x ∷ xs) ]

-- One of `& + U W`, and then the rest.
unfoldable pub past_joint : List ℕ → (Op2 → List ℕ → Reading) → Reading
past_joint [] f = Wrong []
past_joint (x ∷ xs) f = elim (joint_of x) [ some o ↦ f o xs | none ↦ Wrong (x ∷ xs) ]

-- A variable's number.
abbrev pub variable : Counted → Reading
variable (Number v cs) = Whole (Var v) cs
variable (NoNumber cs) = Wrong cs

-- At level 33: a character that begins an expression is too deep, whatever follows.
abbrev pub levelled : List ℕ → Sign → Reading
levelled all (Constant b) = Deep all
levelled all Variable = Deep all
levelled all (Before o) = Deep all
levelled all Bracket = Deep all
levelled all NoSign = Wrong all

-- An expression from its sign on, with the reading of an operand; cs stands behind the sign. Inside parentheses an operand is again a whole expression.
abbrev pub begins : (List ℕ → Reading) → List ℕ → Sign → List ℕ → Reading
begins operand all (Constant b) cs = Whole (Const b) cs
begins operand all Variable cs = variable (read_number cs)
begins operand all (Before o) cs = onward (operand cs) (λ a rest. Whole (One o a) rest)
begins operand all Bracket cs =
    onward (operand cs) (λ a rest. past_joint rest (λ o rest. onward (operand rest) (λ b rest. past (character ")") rest (λ rest. Whole (Two o a b) rest))))
begins operand all NoSign cs = Wrong all

abbrev pub beginning : (List ℕ → Reading) → List ℕ → Reading
beginning operand [] = Wrong []
beginning operand (c ∷ cs) = begins operand (c ∷ cs) (sign_of c) cs

abbrev pub too_deep : List ℕ → Reading
too_deep [] = Wrong []
too_deep (c ∷ cs) = levelled (c ∷ cs) (sign_of c)

-- The expression that stands first, with as many levels left as given.
unfoldable pub read_expr : ℕ → List ℕ → Reading
read_expr zero cs = too_deep cs
read_expr (suc left) cs = beginning (read_expr left) cs
