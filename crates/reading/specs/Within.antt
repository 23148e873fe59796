-- What holds of the lines so far, whatever they are.
use Rattle.std.specs.Prelude.{◌≡◌, ◌≤◌, length}
use Rattle.logic.specs.Decks.{base, total_nodes}
use Rattle.frames.specs.Read.{DueSet, Sofar, begun}

-- The deck so far is within the limits, and nothing stands before 01.
pub record Within (s : Sofar) : Type 0 where
  pub inits-within : length s.deck.inits ≤ base.initials
  pub equations-within : length s.deck.equations ≤ base.equations
  pub nodes-within : total_nodes s.deck.equations ≤ base.equation_nodes
  pub set_first : s.due ≡ DueSet → s ≡ begun
