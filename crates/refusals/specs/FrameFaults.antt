-- The faults of a line of a deck in frames, 16 and 9 to 14: conditions on its characters, and on the lines before it.
use Rattle.std.specs.Prelude.{◌≡◌, ◌⊎◌, List, [], ◌∷◌, ◌++◌, ℕ, zero, suc, ◌+◌, ◌^◌, ◌<◌, ◌≤◌, length}
use Rattle.lists.specs.Lists.{◌among◌}
use Rattle.sets.specs.Sets.{◌∋◌, ◌⊆◌}
use Rattle.logic.specs.Expressions.{Op1, Op2, Expr, nodes, levels, written, Plain, node1, node2, code, Below}
use Rattle.logic.specs.Decks.{Equation, Deck, base, total_nodes}
use Rattle.decks.specs.declared.Refusal.TheVariants.{BadFrame, Outside, Temporal, TooDeep, ManyInitials, ManyEquations, ManyNodes}
use Rattle.frames.specs.Hex.{pair, pairs}
use Rattle.frames.specs.Written.{set_bytes, set_kind, init_kind, equation_kind, property_kind, count_kind, code_byte, node_pairs}
use Rattle.frames.specs.Read.{Due, DueSet, DueInit, DueAny, DueEquation, DueCount, DueNone, Sofar, begun, last_left}
use Rattle.refusals.specs.Order.{Conditions, Done, Try, NoneOf}

-- ---- expressions

-- The pairs begin with a code, 00 to 49.
abbrev pub BeginsCode : List ℕ → Type 0
BeginsCode rest = (c : ℕ) × (more : List ℕ) × (c < 74) × (rest ≡ pair c ++ more)

-- The pairs that stand before an expression k levels down: on each level an operator of one operand, or one of two, or one of two and its whole first operand.
abbrev pub OpensPairs : ℕ → List ℕ → Type 0
OpensPairs zero front = front ≡ []
OpensPairs (suc k) front =
    ((o : Op1) × (rest : List ℕ) × (front ≡ pair (code_byte (node1 o)) ++ rest) × OpensPairs k rest)
    ⊎ (((o : Op2) × (rest : List ℕ) × (front ≡ pair (code_byte (node2 o)) ++ rest) × OpensPairs k rest)
    ⊎ ((o : Op2) × (a : Expr) × (rest : List ℕ) × (front ≡ pair (code_byte (node2 o)) ++ (node_pairs (code a) ++ rest)) × (levels a ≤ k) × Below 64 a × OpensPairs k rest))

-- A code begins an expression at the level behind the last, and all that stands to the left of it is in order.
abbrev pub TooFarDown : List ℕ → Type 0
TooFarDown cs = (front : List ℕ) × (rest : List ℕ) × (cs ≡ front ++ rest) × OpensPairs base.levels front × BeginsCode rest

-- The pairs are those of the expression, within the levels and with variables 00 to 3F.
abbrev pub WritesExpr : List ℕ → Expr → Type 0
WritesExpr cs e = (cs ≡ node_pairs (code e)) × (levels e ≤ base.levels) × Below 64 e

-- ---- lines

-- What a line holds: 01 and a set, 02 and a state, 03 and an equation, 04 and a property, 05 and a count.
pub data Frame : Type 0 where
  SetFrame : ℕ → Frame
  InitFrame : ℕ → Frame
  EquationFrame : Equation → Frame
  PropertyFrame : Expr → Frame
  CountFrame : ℕ → Frame

-- Which frames may stand where.
abbrev pub EquationDue : Due → Type 0
EquationDue u = (u ≡ DueAny) ⊎ (u ≡ DueEquation)

abbrev pub Permits : Due → Frame → Type 0
Permits u (SetFrame v) = u ≡ DueSet
Permits u (InitFrame s) = (u ≡ DueInit) ⊎ (u ≡ DueAny)
Permits u (EquationFrame q) = EquationDue u
Permits u (PropertyFrame e) = EquationDue u
Permits u (CountFrame x) = u ≡ DueCount

-- The line is the pair of its kind and the pairs of its content.
abbrev pub WritesFrame : List ℕ → Frame → Type 0
WritesFrame l (SetFrame v) = (l ≡ pair set_kind ++ pairs set_bytes v) × (v < 256 ^ set_bytes)
WritesFrame l (InitFrame s) = (l ≡ pair init_kind ++ pairs set_bytes s) × (s < 256 ^ set_bytes)
WritesFrame l (EquationFrame q) = (q.left < base.variables) × ((cs : List ℕ) × (l ≡ pair equation_kind ++ (pair q.left ++ cs)) × WritesExpr cs q.right)
WritesFrame l (PropertyFrame e) = (cs : List ℕ) × (l ≡ pair property_kind ++ cs) × WritesExpr cs e
WritesFrame l (CountFrame x) = (l ≡ pair count_kind ++ pairs 2 x) × (x < 256 ^ 2)

-- No 02 equals an earlier one, 03s stand by rising variable, and 05 has the number of frames before it.
abbrev pub InPlace : Deck → ℕ → Frame → Type 0
InPlace d n (SetFrame v) = Unit
InPlace d n (InitFrame s) = s among d.inits → ⊥
InPlace d n (EquationFrame q) = last_left d.equations ≤ q.left
InPlace d n (PropertyFrame e) = Unit
InPlace d n (CountFrame x) = x + 1 ≡ n

-- Line n is a frame that may stand here, and holds this.
abbrev pub Holds : Sofar → ℕ → List ℕ → Frame → Type 0
Holds so n l f = Permits so.due f × WritesFrame l f × InPlace so.deck n f

-- 11: in a 03 or 04 that may stand here a code begins an expression at level 33, and all that stands to the left of it is in order.
abbrev pub DeepLine : Sofar → List ℕ → Type 0
DeepLine so l =
    EquationDue so.due
    × (((v : ℕ) × (cs : List ℕ) × (v < base.variables) × (last_left so.deck.equations ≤ v) × (l ≡ pair equation_kind ++ (pair v ++ cs)) × TooFarDown cs)
    ⊎ ((cs : List ℕ) × (l ≡ pair property_kind ++ cs) × TooFarDown cs))

-- 16: no frame that may stand here, and 11 is not met.
abbrev pub NoFrame : Sofar → ℕ → List ℕ → Type 0
NoFrame so n l = ((f : Frame) → Holds so n l f → ⊥) × (DeepLine so l → ⊥)

-- 9: a variable or state bit outside the set.
abbrev pub UsesOutside : Deck → Frame → Type 0
UsesOutside d (SetFrame v) = ⊥
UsesOutside d (InitFrame s) = s ⊆ d.vars → ⊥
UsesOutside d (EquationFrame q) = (d.vars ∋ q.left → ⊥) ⊎ (written q.right ⊆ d.vars → ⊥)
UsesOutside d (PropertyFrame e) = written e ⊆ d.vars → ⊥
UsesOutside d (CountFrame x) = ⊥

-- 10: one of `X F G U W` in an equation.
abbrev pub NotPlain : Deck → Frame → Type 0
NotPlain d (SetFrame v) = ⊥
NotPlain d (InitFrame s) = ⊥
NotPlain d (EquationFrame q) = Plain q.right → ⊥
NotPlain d (PropertyFrame e) = ⊥
NotPlain d (CountFrame x) = ⊥

-- 12: more than 64 initial states.
abbrev pub InitialOver : Deck → Frame → Type 0
InitialOver d (SetFrame v) = ⊥
InitialOver d (InitFrame s) = base.initials < length d.inits + 1
InitialOver d (EquationFrame q) = ⊥
InitialOver d (PropertyFrame e) = ⊥
InitialOver d (CountFrame x) = ⊥

-- 13: more than 256 equations.
abbrev pub EquationOver : Deck → Frame → Type 0
EquationOver d (SetFrame v) = ⊥
EquationOver d (InitFrame s) = ⊥
EquationOver d (EquationFrame q) = base.equations < length d.equations + 1
EquationOver d (PropertyFrame e) = ⊥
EquationOver d (CountFrame x) = ⊥

-- 14: too many nodes, over all equations so far or in the property.
abbrev pub NodesOver : Deck → Frame → Type 0
NodesOver d (SetFrame v) = ⊥
NodesOver d (InitFrame s) = ⊥
NodesOver d (EquationFrame q) = base.equation_nodes < total_nodes d.equations + nodes q.right
NodesOver d (PropertyFrame e) = base.property_nodes < nodes e
NodesOver d (CountFrame x) = ⊥

-- 9, 10, 12, 13, 14 of what line n holds.
abbrev pub frame_faults : ℕ → Deck → Frame → Conditions
frame_faults n d f =
    Try (UsesOutside d f) (Outside 1 n)
    (Try (NotPlain d f) (Temporal n) (Try (InitialOver d f) (ManyInitials n) (Try (EquationOver d f) (ManyEquations n) (Try (NodesOver d f) (ManyNodes n) Done))))

-- The deck with it, and what is due behind it.
abbrev pub added : Deck → Frame → Sofar
added d (SetFrame v) = record { due = DueInit; deck = record { vars = v; inits = []; equations = []; property = d.property } }
added d (InitFrame s) = record { due = DueAny; deck = record { vars = d.vars; inits = d.inits ++ (s ∷ []); equations = d.equations; property = d.property } }
added d (EquationFrame q) = record { due = DueEquation; deck = record { vars = d.vars; inits = d.inits; equations = d.equations ++ (q ∷ []); property = d.property } }
added d (PropertyFrame e) = record { due = DueCount; deck = record { vars = d.vars; inits = d.inits; equations = d.equations; property = e } }
added d (CountFrame x) = record { due = DueNone; deck = d }

-- The lines, the nearest first, are each a frame that may stand there and without a fault, and the deck so far is this.
abbrev pub Framing : List (List ℕ) → Sofar → Type 0
Framing [] so = so ≡ begun
Framing (l ∷ back) so =
    (was : Sofar)
    × (f : Frame)
    × Framing back was
    × Holds was (suc (length back)) l f
    × NoneOf (frame_faults (suc (length back)) was.deck f)
    × (so ≡ added was.deck f)

-- The deck of the lines before it has P.
abbrev pub Behind : List (List ℕ) → (Sofar → Type 0) → Type 0
Behind back P = (so : Sofar) × Framing back so × P so

-- It holds something that has P.
abbrev pub Holding : List (List ℕ) → List ℕ → (Deck → Frame → Type 0) → Type 0
Holding back l P = Behind back (λ so. (f : Frame) × Holds so (suc (length back)) l f × P so.deck f)

-- Line n behind those given: 16 and 11, then 9, 10, 12, 13, 14.
abbrev pub line_faults : ℕ → List (List ℕ) → List ℕ → Conditions
line_faults n back l =
    Try (Behind back (λ so. NoFrame so (suc (length back)) l)) (BadFrame 1 n)
    (Try (Behind back (λ so. DeepLine so l)) (TooDeep n)
    (Try (Holding back l UsesOutside) (Outside 1 n)
    (Try (Holding back l NotPlain) (Temporal n)
    (Try (Holding back l InitialOver) (ManyInitials n) (Try (Holding back l EquationOver) (ManyEquations n) (Try (Holding back l NodesOver) (ManyNodes n) Done))))))
