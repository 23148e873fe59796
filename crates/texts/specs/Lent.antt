-- What the writers of decks and claims are lent.
use Rattle.std.specs.Prelude.{◌≡◌, List, ℕ, ◌+◌, ◌≤◌, length, take}
use Rattle.logic.specs.Expressions.{Expr, code}
use Rattle.logic.specs.Decks.{Equation, Deck, base}
use Rattle.logic.specs.Pieces.{equations_of}
use Rattle.logic.specs.Meaning.{Claim}
use Rattle.decks.specs.declared.Rows.{Rows}
use Rattle.decks.specs.Lent.{Hold, in_rows}
use Rattle.frames.specs.Written.{deck_frames}
use Rattle.writing.specs.Parts.{Nodes}

-- The rows hold the equations qs, and the property is x, beside initial states; the counts are in range.
pub record Lent (qs : List Equation) (x : Expr) (inits : List ℕ) (equations : Rows) (property : List ℕ) : Type 0 where
  pub holds-equations : Hold qs (in_rows equations)
  pub holds-property : property ≡ code x
  pub nodes_in : Nodes equations.nodes.now
  pub property_in : Nodes property
  pub initials-most : length inits ≤ base.initials
  pub equations-most : equations.count ≤ base.equations
  pub property-most : length property ≤ base.property_nodes

-- The deck of a set: its variables, initial states, the equations of its variables, and a property.
abbrev pub deck_of : ℕ → List ℕ → List Equation → Expr → Deck
deck_of vars inits qs x = record { vars = vars; inits = inits; equations = equations_of vars qs; property = x }

-- Its frames.
abbrev pub frames_of : ℕ → List ℕ → List Equation → Expr → List ℕ
frames_of vars inits qs x = deck_frames (deck_of vars inits qs x)

-- The claim of the first p + c states of a row.
abbrev pub claim_of : ℕ → ℕ → List ℕ → Claim
claim_of p c states = record { p = p; c = c; states = take (p + c) states }
