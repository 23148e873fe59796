-- The truth of an expression at every state of a claim, worked out side by side as pending values.
use Rattle.std.specs.Prelude.{◌≡◌, List, ℕ, ◌+◌, ◌-◌, ◌<◌, ◌≤◌, length}
use Rattle.logic.specs.Expressions.{Expr, One, Two, Op1, Op2, node1, node2, nodes as size, levels, Narrow}
use Rattle.logic.specs.Decks.{Limits}
use Rattle.logic.specs.Meaning.{Claim, Sized}
use Rattle.logic.specs.Verdicts.{truth}
use Rattle.terms.specs.Nodes.{operands, Stands}
use Rattle.terms.proofs.Trees.{head_node}
use Rattle.evaluator.specs.Pending.{pushed, All, Below}

-- The claim of these states whose run returns to state p.
abbrev pub claim_of : ℕ → List ℕ → Claim
claim_of p states = record { p = p; c = length states - p; states = states }

-- What becomes of the word w at state i: the truth of e there is pushed.
unfoldable pub truth_word : Claim → Expr → ℕ → ℕ → ℕ
truth_word m e i w = pushed w (truth m e i)

-- Every word has the truth of e at its state on top of what it had.
abbrev pub Worked : Claim → Expr → List ℕ → List ℕ → Type 0
Worked m e old new = All (truth_word m e) old new

-- The node, a constant or variable, has its truth worked out.
abbrev pub Leaf : List ℕ → ℕ → List ℕ → List ℕ → Type 0
Leaf states node old new = (m : Claim) (e : Expr) → m.states ≡ states → Narrow e → operands e ≡ 0 → node ≡ head_node e → Worked m e old new

-- The truth of an operand, worked out, has become that of the operator at the node.
abbrev pub Applied1 : ℕ → ℕ → List ℕ → List ℕ → Type 0
Applied1 p node mid new =
    (L : Limits) (m : Claim) (o : Op1) (a : Expr) (old : List ℕ) → Sized L m → m.p ≡ p → length old ≡ m.p + m.c → node ≡ node1 o → Worked m a old mid → Worked m (One o a) old new

-- The truths of both operands, worked out one after the other, have become that of the operator at the node.
abbrev pub Applied2 : ℕ → ℕ → List ℕ → List ℕ → Type 0
Applied2 p node mid new =
    (L : Limits) (m : Claim) (o : Op2) (a b : Expr) (old half : List ℕ)
    → Sized L m
    → m.p ≡ p
    → length old ≡ m.p + m.c
    → node ≡ node2 o
    → Worked m a old half
    → Worked m b half mid
    → Worked m (Two o a b) old new

-- An expression of no more levels than are left stands in the nodes from place i on, and every word has room for as many values.
pub record Ready (nodes : List ℕ) (i : ℕ) (states : List ℕ) (p : ℕ) (words : List ℕ) (left : ℕ) : Type 0 where
  pub its : Expr
  pub stands : Stands nodes i its
  pub shallow : levels its ≤ left
  pub few : left ≤ 64
  pub room : Below (64 - left) words
  pub all : length words ≡ length states
  pub loop : p < length states

-- The expression that stands in the nodes from place i on ends at place r.
abbrev pub Ends : List ℕ → ℕ → ℕ → Type 0
Ends nodes i r = (e : Expr) → Stands nodes i e → r ≡ i + size e

-- The truth of the expression that stands in the nodes from place i on is worked out.
abbrev pub Evaluated : List ℕ → ℕ → List ℕ → ℕ → List ℕ → List ℕ → Type 0
Evaluated nodes i states p old new = (e : Expr) → Stands nodes i e → Worked (claim_of p states) e old new
