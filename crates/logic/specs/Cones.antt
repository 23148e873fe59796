-- The cone of a set: the least set that holds it and, with each variable, all variables written in any of its equations (RULES 5.1).
use Rattle.std.specs.Prelude.{true, false, List, [], ◌∷◌, ℕ, zero, suc, length}
use Rattle.lists.specs.Lists.{Each}
use Rattle.sets.specs.Sets.{◌∋◌, ◌⊆◌, has, union}
use Rattle.logic.specs.Expressions.{written}
use Rattle.logic.specs.Decks.{Equation}

-- With each variable, t has all variables written in any of its equations.
abbrev pub Closed : List Equation → ℕ → Type 0
Closed qs t = Each (λ (q : Equation). t ∋ q.left → written q.right ⊆ t) qs

pub record IsCone (qs : List Equation) (s c : ℕ) : Type 0 where
  pub holds : s ⊆ c
  pub closed : Closed qs c
  pub least : (t : ℕ) → s ⊆ t → Closed qs t → c ⊆ t

-- One pass over the equations: where the left side is in the set, what the right side writes comes in.
unfoldable pub grown : List Equation → ℕ → ℕ
grown [] s = s
grown (q ∷ qs) s = grown qs (elim (has s q.left) [ true ↦ union s (written q.right) | false ↦ s ])

unfoldable pub passes : ℕ → List Equation → ℕ → ℕ
passes zero qs s = s
passes (suc n) qs s = passes n qs (grown qs s)

-- The cone, worked out: as many passes as there are equations suffice.
unfoldable pub cone : List Equation → ℕ → ℕ
cone qs s = passes (length qs) qs s
