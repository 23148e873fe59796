-- The faults of a statement, 8 to 14: conditions on its characters without blanks, and on the statements before it.
use Rattle.std.specs.Prelude.{◌≡◌, ◌⊎◌, List, [], ◌∷◌, ◌++◌, ℕ, ◌+◌, ◌^◌, ◌<◌, ◌≤◌, length}
use Rattle.lists.specs.Texts.{bytes}
use Rattle.sets.specs.Sets.{◌⊆◌}
use Rattle.logic.specs.Expressions.{Expr, nodes, levels, written, Plain, decimal, spelling, Below}
use Rattle.logic.specs.Decks.{Equation, base, total_nodes}
use Rattle.decks.specs.declared.Refusal.TheVariants.{NotDue, Outside, Temporal, TooDeep, ManyInitials, ManyEquations, ManyNodes}
use Rattle.cards.specs.Statement.{Statement, inked}
use Rattle.cards.specs.Typed.{Typed, init_spelt, equation_spelt, first_vars}
use Rattle.cards.specs.Read.{Due, DueVars, DueInit, DueAny, DueEquation, DueEnd, DueNone, Sofar, begun}
use Rattle.cards.specs.Deep.{TooFar}
use Rattle.refusals.specs.Order.{Conditions, Done, Try, NoneOf}

-- What a statement says: `VARS` n, `INIT` and a state, an equation, `PROP` and an expression, `END`.
pub data Item : Type 0 where
  Count : ℕ → Item
  Initial : ℕ → Item
  Equals : Equation → Item
  Property : Expr → Item
  Ending : Item

-- The statements in their order: which may stand where.
abbrev pub EquationDue : Due → Type 0
EquationDue u = (u ≡ DueAny) ⊎ (u ≡ DueEquation)

abbrev pub Permits : Due → Item → Type 0
Permits u (Count n) = u ≡ DueVars
Permits u (Initial s) = (u ≡ DueInit) ⊎ (u ≡ DueAny)
Permits u (Equals q) = EquationDue u
Permits u (Property e) = EquationDue u
Permits u Ending = u ≡ DueEnd

-- The characters are the spelling of the item where k variables are declared: numbers of one or two digits, expressions within the levels.
abbrev pub SpellsItem : ℕ → List ℕ → Item → Type 0
SpellsItem k cs (Count n) = (cs ≡ bytes "VARS" ++ decimal n) × (n ≤ base.variables)
SpellsItem k cs (Initial s) = (cs ≡ init_spelt k s) × (s < 2 ^ k)
SpellsItem k cs (Equals q) = (cs ≡ equation_spelt q) × (q.left < 100) × (levels q.right ≤ base.levels) × Below 100 q.right
SpellsItem k cs (Property e) = (cs ≡ bytes "PROP" ++ spelling e) × (levels e ≤ base.levels) × Below 100 e
SpellsItem k cs Ending = cs ≡ bytes "END"

-- The statement is of a form due, and says this.
abbrev pub Says : Sofar → List ℕ → Item → Type 0
Says so cs i = Permits so.due i × SpellsItem so.typed.count cs i

-- 11: behind `Vi=` or `PROP`, where they are due, an expression begins at level 33, and all that stands to the left of it is in order.
abbrev pub DeepIn : Due → List ℕ → Type 0
DeepIn u cs =
    EquationDue u
    × (((v : ℕ) × (rest : List ℕ) × (v < 100) × (cs ≡ bytes "V" ++ (decimal v ++ (bytes "=" ++ rest))) × TooFar rest)
    ⊎ ((rest : List ℕ) × (cs ≡ bytes "PROP" ++ rest) × TooFar rest))

-- 8: no statement of a form due, and 11 is not met.
abbrev pub NoForm : Sofar → List ℕ → Type 0
NoForm so cs = ((i : Item) → Says so cs i → ⊥) × (DeepIn so.due cs → ⊥)

-- 9: a variable outside the set.
abbrev pub UsesOutside : Typed → Item → Type 0
UsesOutside t (Count n) = ⊥
UsesOutside t (Initial s) = ⊥
UsesOutside t (Equals q) = (t.count ≤ q.left) ⊎ (written q.right ⊆ first_vars t.count → ⊥)
UsesOutside t (Property e) = written e ⊆ first_vars t.count → ⊥
UsesOutside t Ending = ⊥

-- 10: one of `X F G U W` in an equation.
abbrev pub NotPlain : Typed → Item → Type 0
NotPlain t (Count n) = ⊥
NotPlain t (Initial s) = ⊥
NotPlain t (Equals q) = Plain q.right → ⊥
NotPlain t (Property e) = ⊥
NotPlain t Ending = ⊥

-- 12: more than 64 initial states, counted before equal ones drop.
abbrev pub InitialOver : Typed → Item → Type 0
InitialOver t (Count n) = ⊥
InitialOver t (Initial s) = base.initials < length t.inits + 1
InitialOver t (Equals q) = ⊥
InitialOver t (Property e) = ⊥
InitialOver t Ending = ⊥

-- 13: more than 256 equations.
abbrev pub EquationOver : Typed → Item → Type 0
EquationOver t (Count n) = ⊥
EquationOver t (Initial s) = ⊥
EquationOver t (Equals q) = base.equations < length t.equations + 1
EquationOver t (Property e) = ⊥
EquationOver t Ending = ⊥

-- 14: too many nodes, over all equations so far or in the property.
abbrev pub NodesOver : Typed → Item → Type 0
NodesOver t (Count n) = ⊥
NodesOver t (Initial s) = ⊥
NodesOver t (Equals q) = base.equation_nodes < total_nodes t.equations + nodes q.right
NodesOver t (Property e) = base.property_nodes < nodes e
NodesOver t Ending = ⊥

-- 9, 10, 12, 13, 14 of what the statement of card n says.
abbrev pub item_faults : ℕ → Typed → Item → Conditions
item_faults n t i =
    Try (UsesOutside t i) (Outside 1 n)
    (Try (NotPlain t i) (Temporal n) (Try (InitialOver t i) (ManyInitials n) (Try (EquationOver t i) (ManyEquations n) (Try (NodesOver t i) (ManyNodes n) Done))))

-- What is typed with it, and what is due behind it.
abbrev pub added : Typed → Item → Sofar
added t (Count n) = record { due = DueInit; typed = record { count = n; inits = t.inits; equations = t.equations; property = t.property } }
added t (Initial s) = record { due = DueAny; typed = record { count = t.count; inits = t.inits ++ (s ∷ []); equations = t.equations; property = t.property } }
added t (Equals q) = record { due = DueEquation; typed = record { count = t.count; inits = t.inits; equations = t.equations ++ (q ∷ []); property = t.property } }
added t (Property e) = record { due = DueEnd; typed = record { count = t.count; inits = t.inits; equations = t.equations; property = e } }
added t Ending = record { due = DueNone; typed = t }

-- The statements, the nearest first, are each of a form due and without a fault, and this was typed with them.
abbrev pub Typing : List Statement → Sofar → Type 0
Typing [] so = so ≡ begun
Typing (s ∷ back) so =
    (was : Sofar) × (i : Item) × Typing back was × Says was (inked s.field) i × NoneOf (item_faults s.card was.typed i) × (so ≡ added was.typed i)

-- What was typed with the statements before it has P.
abbrev pub Behind : List Statement → (Sofar → Type 0) → Type 0
Behind back P = (so : Sofar) × Typing back so × P so

-- It says something that has P.
abbrev pub Saying : List Statement → Statement → (Typed → Item → Type 0) → Type 0
Saying back s P = Behind back (λ so. (i : Item) × Says so (inked s.field) i × P so.typed i)

-- A statement behind those given: 8 and 11, then 9, 10, 12, 13, 14.
abbrev pub statement_faults : ℕ → List Statement → Statement → Conditions
statement_faults m back s =
    Try (Behind back (λ so. NoForm so (inked s.field))) (NotDue s.card)
    (Try (Behind back (λ so. DeepIn so.due (inked s.field))) (TooDeep s.card)
    (Try (Saying back s UsesOutside) (Outside 1 s.card)
    (Try (Saying back s NotPlain) (Temporal s.card)
    (Try (Saying back s InitialOver) (ManyInitials s.card)
    (Try (Saying back s EquationOver) (ManyEquations s.card) (Try (Saying back s NodesOver) (ManyNodes s.card) Done))))))
