-- Which steps of a claim the equations allow: for each step the variables that take a value of one of their equations.
use Rattle.std.specs.Prelude.{◌≡◌, Bool, true, false, List, ℕ, ◌%◌, ◌^◌, ◌<◌, ◌≤◌, eqb, length, get_or}
use Rattle.lists.specs.Lists.{Each}
use Rattle.sets.specs.Sets.{bit, only, union, inside, width}
use Rattle.logic.specs.Expressions.{Expr, Plain, value, levels, Narrow}
use Rattle.logic.specs.Decks.{Equation, base}
use Rattle.logic.specs.Verdicts.{taken}
use Rattle.terms.specs.Nodes.{Stands}
use Rattle.decks.specs.Lent.{HoldsEquations}
use Rattle.evaluator.specs.Pending.{All, following, tops}

-- The state behind step k.
abbrev pub behind : List ℕ → ℕ → ℕ → ℕ
behind states p k = get_or states (following (length states) p k) 0

-- The mark u of a step with the variable v, where the test says so.
unfoldable pub marked : Bool → ℕ → ℕ → ℕ
marked b v u = elim b [ true ↦ union u (only v % 2 ^ width) | false ↦ u ]

-- What becomes of the mark u of step k: v is marked where the pending value is the one that v has behind the step.
unfoldable pub mark_word : List ℕ → List ℕ → ℕ → ℕ → ℕ → ℕ → ℕ
mark_word words states p v k u = marked (eqb (tops words k) (bit (behind states p k) v)) v u

-- The same for the value of e in the state before the step.
unfoldable pub equation_word : Expr → List ℕ → ℕ → ℕ → ℕ → ℕ → ℕ
equation_word e states p v k u = marked (eqb (value (get_or states k 0) e) (bit (behind states p k) v)) v u

-- What becomes of the mark u of step k: all variables are marked to which one of the equations gives the value that they have behind the step.
unfoldable pub taken_word : List Equation → List ℕ → ℕ → ℕ → ℕ → ℕ
taken_word qs states p k u = union u (taken qs (get_or states k 0) (behind states p k))

-- The plain expression that stands in the nodes from place i on is v's equation: v is marked at its steps.
abbrev pub Marks : List ℕ → ℕ → List ℕ → ℕ → ℕ → List ℕ → List ℕ → Type 0
Marks nodes i states p v old new = (e : Expr) → Stands nodes i e → Plain e → All (equation_word e states p v) old new

-- An equation that the evaluator takes.
pub record Fit (q : Equation) : Type 0 where
  pub its : q.left < base.variables
  pub narrow : Narrow q.right
  pub plain : Plain q.right
  pub shallow : levels q.right ≤ base.levels

-- The arrays and the count hold these equations.
pub record Given (qs : List Equation) (lefts ends nodes : List ℕ) (n : ℕ) : Type 0 where
  pub held : HoldsEquations qs lefts ends nodes n
  pub fit : Each Fit qs

-- Every word is 0.
abbrev pub Zeros : List ℕ → Type 0
Zeros ws = (i : ℕ) → get_or ws i 0 ≡ 0

-- No step's mark lacks a variable.
abbrev pub NoneLacks : ℕ → List ℕ → Type 0
NoneLacks vars marks = (k : ℕ) → k < length marks → inside vars (get_or marks k 0) ≡ true

-- r is the lowest step whose mark lacks a variable.
pub record FirstLacking (vars : ℕ) (marks : List ℕ) (r : ℕ) : Type 0 where
  pub within : r < length marks
  pub before : (k : ℕ) → k < r → inside vars (get_or marks k 0) ≡ true
  pub lacks : inside vars (get_or marks r 0) ≡ false
