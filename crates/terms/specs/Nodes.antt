-- Expressions in memory: nodes in prefix order, in a list that may go on behind them.
use Rattle.std.specs.Prelude.{◌≡◌, Bool, true, false, ◌||◌, List, [], ◌∷◌, ◌++◌, ℕ, zero, suc, ◌+◌, ltb, leb, drop}
use Rattle.sets.specs.Sets.{only, union, width}
use Rattle.logic.specs.Expressions.{Expr, Const, Var, One, Two, Not, Next, And, Until, Narrow, const_node, node1, node2, code}

-- Whether the node is a variable.
abbrev pub variable? : ℕ → Bool
variable? c = ltb c (const_node false)

-- How many operands the node has: a variable or constant none, `~ X F G` one, `& + U W` two.
unfoldable pub places_of : ℕ → ℕ
places_of c =
    elim (ltb c (node1 Not)) [
      | true ↦ 0
      | false ↦ elim (ltb c (node2 And)) [
        | true ↦ 1
        | false ↦ elim (ltb c (node1 Next)) [ true ↦ 2 | false ↦ elim (ltb c (node2 Until)) [ true ↦ 1 | false ↦ 2 ] ]
      ]
    ]

-- How many operands the first node of the expression has.
abbrev pub operands : Expr → ℕ
operands (Const b) = 0
operands (Var v) = 0
operands (One o e) = 1
operands (Two o a b) = 2

-- Whether the node is `0` or `1`.
unfoldable pub constant? : ℕ → Bool
constant? c = elim (variable? c) [ true ↦ false | false ↦ ltb c (node1 Not) ]

-- Whether the node is one of `X F G U W`.
abbrev pub temporal? : ℕ → Bool
temporal? c = leb (node1 Next) c

-- The nodes that the first n expressions of the list take; all of them, where the list ends before.
unfoldable pub spans : ℕ → List ℕ → ℕ
spans n [] = 0
spans zero (c ∷ cs) = 0
spans (suc n) (c ∷ cs) = suc (spans (n + places_of c) cs)

-- The set of the variable that the node is; nothing of any other node, nor of a variable for which a word has no room.
unfoldable pub variable_of : ℕ → ℕ
variable_of c = elim (ltb c width) [ true ↦ only c | false ↦ 0 ]

-- The set of the variables among the nodes.
unfoldable pub variables_of : List ℕ → ℕ
variables_of [] = 0
variables_of (c ∷ cs) = union (variable_of c) (variables_of cs)

-- Whether one of `X F G U W` is among the nodes.
unfoldable pub some_temporal : List ℕ → Bool
some_temporal [] = false
some_temporal (c ∷ cs) = temporal? c || some_temporal cs

-- The code of e stands in the nodes from place i on.
abbrev pub Stands : List ℕ → ℕ → Expr → Type 0
Stands cs i e = Narrow e × ((rest : List ℕ) × (drop i cs ≡ code e ++ rest))
