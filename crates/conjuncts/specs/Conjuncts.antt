-- Where the conjuncts of a property stand in its nodes.
use Rattle.std.specs.Prelude.{◌≡◌, List, [], ◌∷◌, ◌++◌, ℕ, ◌+◌, ◌<◌, ◌≤◌, length}
use Rattle.logic.specs.Expressions.{Expr, Const, Var, One, Two, And, Or, Until, Weak, nodes, Narrow}
use Rattle.logic.specs.Expressions as Expressions
use Rattle.lists.specs.Lists.{part}
use Rattle.conjuncts.specs.declared.Span.{Span}

-- The place where the expression's code begins and the place behind it.
abbrev pub whole : ℕ → Expr → List Span
whole n e = record { from = n; to = n + nodes e } ∷ []

-- Those of each conjunct, in order, of a property whose code begins at place n.
unfoldable pub bounds : ℕ → Expr → List Span
bounds n (Const b) = whole n (Const b)
bounds n (Var v) = whole n (Var v)
bounds n (One o a) = whole n (One o a)
bounds n (Two And a b) = bounds (n + 1) a ++ bounds (n + 1 + nodes a) b
bounds n (Two Or a b) = whole n (Two Or a b)
bounds n (Two Until a b) = whole n (Two Until a b)
bounds n (Two Weak a b) = whole n (Two Weak a b)

-- These are the property's nodes, their places are numbers of 16 bits, and of the spans that have room at most,
-- there is room behind those that are held for one of each conjunct.
pub record Coded (e : Expr) (code : List ℕ) (offset : ℕ) (held : List Span) (most : ℕ) : Type 0 where
  pub narrow : Narrow e
  pub is_code : code ≡ Expressions.code e
  pub fits : offset + length code < 65536
  pub room : length held + length (bounds offset e) ≤ most

-- One by one the spans bound the codes of these expressions in the nodes.
abbrev pub Bounded : List ℕ → List Span → List Expr → Type 0
Bounded l ss [] = Unit
Bounded l [] (e ∷ es) = ⊥
Bounded l (s ∷ ss) (e ∷ es) = ((s.from ≤ s.to) × (s.to ≤ length l) × (part s.from s.to l ≡ Expressions.code e)) × Bounded l ss es

-- What stands for a span behind the last one.
abbrev pub no_span : Span
no_span = record { from = 0; to = 0 }
