-- Splitting the property, and the reduced decks (RULES 5.2, 5.3).
use Rattle.std.specs.Prelude.{List, [], ◌∷◌, ◌++◌, map, ℕ}
use Rattle.lists.specs.Lists.{keep, firsts}
use Rattle.sets.specs.Sets.{has, meet}
use Rattle.logic.specs.Expressions.{Expr, Const, Var, One, Two, And, Or, Until, Weak, written}
use Rattle.logic.specs.Decks.{Equation, Deck}
use Rattle.logic.specs.Cones.{cone}

-- `(a&b)` gives the split of a, then that of b; any other property stands whole.
unfoldable pub split : Expr → List Expr
split (Const b) = Const b ∷ []
split (Var v) = Var v ∷ []
split (One o a) = One o a ∷ []
split (Two And a b) = split a ++ split b
split (Two Or a b) = Two Or a b ∷ []
split (Two Until a b) = Two Until a b ∷ []
split (Two Weak a b) = Two Weak a b ∷ []

-- The variables of a conjunct's piece: the cone of the variables written in it.
abbrev pub cone_of : Deck → Expr → ℕ
cone_of d e = cone d.equations (written e)

-- Initial states with values outside the set put to 0, equal ones dropped, the first kept.
abbrev pub projected : ℕ → List ℕ → List ℕ
projected c ss = firsts (map (λ (s : ℕ). meet s c) ss)

-- The equations of the set's variables, in order.
abbrev pub equations_of : ℕ → List Equation → List Equation
equations_of c qs = keep (λ (q : Equation). has c q.left) qs

-- The piece of a conjunct: its cone as variables, the initial states seen on it, its equations, and the conjunct as property.
unfoldable pub piece : Deck → Expr → Deck
piece d e = record { vars = cone_of d e; inits = projected (cone_of d e) d.inits; equations = equations_of (cone_of d e) d.equations; property = e }

-- The pieces of a deck, one for each conjunct.
unfoldable pub pieces : Deck → List Deck
pieces d = map (piece d) (split d.property)
