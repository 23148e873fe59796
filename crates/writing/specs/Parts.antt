-- Words about what the writers are lent.
use Rattle.std.specs.Prelude.{List, ℕ, ◌<◌}
use Rattle.lists.specs.Lists.{Each}

-- Numbers that are nodes: a variable below 256, a constant or an operator.
abbrev pub Nodes : List ℕ → Type 0
Nodes ns = Each (λ (n : ℕ). n < 266) ns
