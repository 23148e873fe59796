-- The nodes of an equation in the arrays that hold it.
use Rattle.std.specs.Prelude.{List, ◌∷◌, ℕ, slice_index}
use Rattle.lists.specs.Lists.{part}
use Rattle.decks.specs.declared.Equations.{Equations}

-- Where the nodes of equation i begin: where those of the equation before it end, the first ones at place 0.
abbrev pub right_begin : ℕ → Equations → ℕ
right_begin i e = slice_index (0 ∷ e.ends) i

-- The nodes of the right side of equation i.
abbrev pub right_nodes : ℕ → Equations → List ℕ
right_nodes i e = part (right_begin i e) (slice_index e.ends i) e.nodes
