-- What is promised of an expression's end and levels, worked out together.
use Rattle.std.specs.Prelude.{◌≡◌, List, ℕ, ◌+◌, ◌≤◌, max, length}
use Rattle.logic.specs.Expressions.{Expr, nodes, levels}
use Rattle.terms.specs.declared.Reach.{Reach}
use Rattle.terms.specs.Nodes.{Stands}

-- The reach of the expression that stands in the nodes from place i on; whatever stands there, the bounds hold.
pub record Reaches (cs : List ℕ) (i : ℕ) (r : Reach) : Type 0 where
  pub from : i ≤ r.end
  pub within : r.end ≤ max i (length cs)
  pub shallow : i + r.levels ≤ r.end
  pub ends : (e : Expr) → Stands cs i e → r.end ≡ i + nodes e
  pub deep : (e : Expr) → Stands cs i e → r.levels ≡ levels e
