-- The dependency table: for each variable the set of the variables written in any of its equations.
use Rattle.std.specs.Prelude.{true, false, List, [], ◌∷◌, ℕ, zero, suc, ◌^◌, ◌<◌, eqb}
use Rattle.lists.specs.Lists.{Each}
use Rattle.sets.specs.Sets.{union}
use Rattle.logic.specs.Expressions.{written}
use Rattle.logic.specs.Decks.{Equation, base}
use Rattle.decks.specs.Lent.{HoldsEquations}

-- The variables written in any of v's equations: all its equations count.
unfoldable pub depends_on : List Equation → ℕ → ℕ
depends_on [] v = 0
depends_on (q ∷ qs) v = elim (eqb q.left v) [ true ↦ union (written q.right) (depends_on qs v) | false ↦ depends_on qs v ]

-- The sets of n variables, from v on.
unfoldable pub rows : List Equation → ℕ → ℕ → List ℕ
rows qs zero v = []
rows qs (suc n) v = depends_on qs v ∷ rows qs n (suc v)

-- One set for each variable that a deck may have, V0's first.
abbrev pub table : List Equation → List ℕ
table qs = rows qs base.variables 0

-- The variable on the left and those written on the right are ones that a deck may have.
pub record Small (q : Equation) : Type 0 where
  pub its : q.left < base.variables
  pub uses : written q.right < 2 ^ base.variables

-- The arrays and the count hold these equations, and a deck may have their variables.
pub record Given (qs : List Equation) (lefts ends nodes : List ℕ) (n : ℕ) : Type 0 where
  pub held : HoldsEquations qs lefts ends nodes n
  pub small : Each Small qs
