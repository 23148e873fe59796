-- Expressions. An expression is `0`, `1`, a variable, one of `~ X F G` before an expression, or two expressions joined by one of `& + U W` (RULES 2.8).
use Rattle.std.specs.Prelude.{Bool, true, false, List, [], ◌∷◌, ◌++◌, ℕ, ◌+◌, ◌-◌, ◌/◌, ◌%◌, ◌<◌, min, max, ltb}
use Prim.Native.Char.{code as character}
use Rattle.sets.specs.Sets.{bit, only, union}

-- `~`, `X`, `F`, `G`.
pub data Op1 : Type 0 where
  Not Next Future Always : Op1

-- `&`, `+`, `U`, `W`.
pub data Op2 : Type 0 where
  And Or Until Weak : Op2

pub data Expr : Type 0 where
  Const : Bool → Expr
  Var : ℕ → Expr
  One : Op1 → Expr → Expr
  Two : Op2 → Expr → Expr → Expr

-- A constant, variable or operator is one node.
unfoldable pub nodes : Expr → ℕ
nodes (Const b) = 1
nodes (Var v) = 1
nodes (One o e) = 1 + nodes e
nodes (Two o a b) = 1 + (nodes a + nodes b)

-- A whole expression has level 1, an operand one more than its operator: the deepest level reached.
unfoldable pub levels : Expr → ℕ
levels (Const b) = 1
levels (Var v) = 1
levels (One o e) = 1 + levels e
levels (Two o a b) = 1 + max (levels a) (levels b)

-- The set of the variables written in the expression.
unfoldable pub written : Expr → ℕ
written (Const b) = 0
written (Var v) = only v
written (One o e) = written e
written (Two o a b) = union (written a) (written b)

-- Every variable written in the expression is below w.
abbrev pub Below : ℕ → Expr → Type 0
Below w (Const b) = Unit
Below w (Var v) = v < w
Below w (One o e) = Below w e
Below w (Two o a b) = Below w a × Below w b

-- Every variable of the expression has a node of its own.
abbrev pub Narrow : Expr → Type 0
Narrow e = Below 256 e

-- Of the operators only `~ & +` are used.
unfoldable pub Plain : Expr → Type 0
Plain (Const b) = Unit
Plain (Var v) = Unit
Plain (One Not a) = Plain a
Plain (One Next a) = ⊥
Plain (One Future a) = ⊥
Plain (One Always a) = ⊥
Plain (Two And a b) = Plain a × Plain b
Plain (Two Or a b) = Plain a × Plain b
Plain (Two Until a b) = ⊥
Plain (Two Weak a b) = ⊥

-- Whether one of `X F G U W` is there.
unfoldable pub temporal : Expr → Bool
temporal (Const b) = false
temporal (Var v) = false
temporal (One Not a) = temporal a
temporal (One Next a) = true
temporal (One Future a) = true
temporal (One Always a) = true
temporal (Two And a b) = elim (temporal a) [ true ↦ true | false ↦ temporal b ]
temporal (Two Or a b) = elim (temporal a) [ true ↦ true | false ↦ temporal b ]
temporal (Two Until a b) = true
temporal (Two Weak a b) = true

-- The digit of a constant.
abbrev pub digit : Bool → ℕ
digit false = 0
digit true = 1

-- The value of a plain expression in a state, 0 or 1. An expression with one of `X F G U W` has no value in a state; 0 stands there.
unfoldable pub value : ℕ → Expr → ℕ
value s (Const b) = digit b
value s (Var v) = bit s v
value s (One Not a) = 1 - value s a
value s (One Next a) = 0
value s (One Future a) = 0
value s (One Always a) = 0
value s (Two And a b) = min (value s a) (value s b)
value s (Two Or a b) = max (value s a) (value s b)
value s (Two Until a b) = 0
value s (Two Weak a b) = 0

-- Nodes as numbers: below 256 the variable of that number, above it constants and operators.
abbrev pub const_node : Bool → ℕ
const_node false = 256
const_node true = 257

abbrev pub node1 : Op1 → ℕ
node1 Not = 258
node1 Next = 261
node1 Future = 262
node1 Always = 263

abbrev pub node2 : Op2 → ℕ
node2 And = 259
node2 Or = 260
node2 Until = 264
node2 Weak = 265

-- The expression's nodes in prefix order: an operator, then its operands.
unfoldable pub code : Expr → List ℕ
code (Const b) = const_node b ∷ []
code (Var v) = v ∷ []
code (One o e) = node1 o ∷ code e
code (Two o a b) = node2 o ∷ (code a ++ code b)

-- Characters.
abbrev pub const_sign : Bool → ℕ
const_sign false = character "0"
const_sign true = character "1"

abbrev pub sign1 : Op1 → ℕ
sign1 Not = character "~"
sign1 Next = character "X"
sign1 Future = character "F"
sign1 Always = character "G"

abbrev pub sign2 : Op2 → ℕ
sign2 And = character "&"
sign2 Or = character "+"
sign2 Until = character "U"
sign2 Weak = character "W"

-- A number of one or two digits, no leading zero.
unfoldable pub decimal : ℕ → List ℕ
decimal n = elim (ltb n 10) [ true ↦ (character "0" + n) ∷ [] | false ↦ (character "0" + n / 10) ∷ (character "0" + n % 10) ∷ [] ]

-- The expression as it is typed, without blanks.
unfoldable pub spelling : Expr → List ℕ
spelling (Const b) = const_sign b ∷ []
spelling (Var v) = character "V" ∷ decimal v
spelling (One o e) = sign1 o ∷ spelling e
spelling (Two o a b) = character "(" ∷ (spelling a ++ (sign2 o ∷ (spelling b ++ (character ")" ∷ []))))
