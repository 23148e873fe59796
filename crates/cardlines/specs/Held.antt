-- What the reader of cards holds of the statements so far.
use Rattle.std.specs.Prelude.{◌≡◌, Bool, not, ◌||◌, List, [], ◌∷◌, ◌++◌, ℕ, ◌+◌, ◌≤◌, ltb, length, take, set, Result, Ok, Err}
use Rattle.std.specs.List.{list_all}
use Rattle.lists.specs.Lists.{chosen, stands, padded, firsts}
use Rattle.logic.specs.Expressions.{Expr, nodes, code}
use Rattle.logic.specs.Decks.{Equation, base}
use Rattle.terms.specs.Nodes.{variable?}
use Rattle.decks.specs.declared.Refusal.{Refusal}
use Rattle.decks.specs.declared.Equations.{Equations}
use Rattle.decks.specs.declared.Deck.{Deck}
use Rattle.decks.specs.Answers.{Outcome, Got, Refused}
use Rattle.decks.specs.Lent.{Hold}
use Rattle.cards.specs.Typed.{Typed}
use Rattle.sorting.specs.Sorting.{used}
use Rattle.cards.specs.Read.{Due, DueVars, DueInit, DueAny, DueEquation, DueEnd, DueNone, Sofar, due_statement}
use Rattle.cardlines.specs.declared.Due.{Due as DueNow}
use Rattle.cardlines.specs.declared.Due.TheVariants.{Vars, Init, Any, Equation as AnEquation, End, Nothing}
use Rattle.cardlines.specs.declared.Held.{Held}

-- Which statements are due, as the code has it.
abbrev pub due_is : Due → DueNow
due_is DueVars = Vars
due_is DueInit = Init
due_is DueAny = Any
due_is DueEquation = AnEquation
due_is DueEnd = End
due_is DueNone = Nothing

-- What is due, the number of variables, and how many initial states were typed.
abbrev pub held_of : Sofar → Held
held_of s = record { due = due_is s.due; count = s.typed.count; typed = length s.typed.inits }

-- The equations, and their nodes, keep the limits.
pub record Few (equations : Equations) : Type 0 where
  pub count-most : equations.count ≤ base.equations
  pub nodes-most : used equations ≤ base.equation_nodes

-- What is held, and what of the deck is used, keeps the limits.
pub record Small (h : Held) (deck : Deck) : Type 0 where
  pub variables-most : h.count ≤ base.variables
  pub typed-most : h.typed ≤ base.initials
  pub initials-most : deck.initials ≤ h.typed
  pub equations-most : Few deck.equations

-- From `PROP` on: the property and its size.
abbrev pub PropertyHeld : Due → Expr → ℕ → List ℕ → Type 0
PropertyHeld DueVars e size property = Unit
PropertyHeld DueInit e size property = Unit
PropertyHeld DueAny e size property = Unit
PropertyHeld DueEquation e size property = Unit
PropertyHeld DueEnd e size property = (size ≡ nodes e) × (property ≡ padded base.property_nodes (code e))
PropertyHeld DueNone e size property = (size ≡ nodes e) × (property ≡ padded base.property_nodes (code e))

-- What is held, and the deck, stand for the statements so far.
pub record Holds (s : Sofar) (h : Held) (deck : Deck) : Type 0 where
  pub held_is : h ≡ held_of s
  pub inits_are : deck.inits ≡ padded base.initials (firsts s.typed.inits)
  pub initials_are : deck.initials ≡ length (firsts s.typed.inits)
  pub equations_are : Hold s.typed.equations deck.equations
  pub property_is : PropertyHeld s.due s.typed.property deck.size deck.property

-- What a statement came to, with the deck behind it.
abbrev pub Came : Outcome Sofar → Result Held Refusal → Deck → Type 0
Came o (Ok h) deck = (s : Sofar) × (o ≡ Got s) × Holds s h deck
Came o (Err a) deck = o ≡ Refused a

-- What was typed, with this number of variables.
abbrev pub with_count : ℕ → Typed → Typed
with_count k t = record { count = k; inits = t.inits; equations = t.equations; property = t.property }

-- What was typed, with one equation more.
abbrev pub with_one : Equation → Typed → Typed
with_one q t = record { count = t.count; inits = t.inits; equations = t.equations ++ (q ∷ []); property = t.property }

-- What was typed, with this property.
abbrev pub with_property : Expr → Typed → Typed
with_property e t = record { count = t.count; inits = t.inits; equations = t.equations; property = e }

-- What `VARS` came to, whatever was typed before.
abbrev pub VarsCame : ℕ → List ℕ → Result ℕ Refusal → Type 0
VarsCame n cs (Ok k) = (k ≤ base.variables) × ((t : Typed) → due_statement DueVars n cs t ≡ Got (record { due = DueInit; typed = with_count k t }))
VarsCame n cs (Err a) = (t : Typed) → due_statement DueVars n cs t ≡ Refused a

-- What `END` came to, whatever was typed before.
abbrev pub EndCame : ℕ → List ℕ → Result (Unit {0}) Refusal → Type 0
EndCame n cs (Ok u) = (t : Typed) → due_statement DueEnd n cs t ≡ Got (record { due = DueNone; typed = t })
EndCame n cs (Err a) = (t : Typed) → due_statement DueEnd n cs t ≡ Refused a

-- The deck with this state behind its initial states, if none of them equals it.
abbrev pub kept : ℕ → Deck → Deck
kept s deck = chosen (stands s (take deck.initials deck.inits)) deck (record deck { inits = set deck.inits deck.initials s; initials = deck.initials + 1 })

-- The node is no variable, or one of the first.
abbrev pub among? : ℕ → ℕ → Bool
among? count c = ltb c count || not (variable? c)

-- The variables among the nodes are all among the first.
abbrev pub within_all : ℕ → List ℕ → Bool
within_all count cs = list_all (among? count) cs

-- What an equation came to, with the equations behind it.
abbrev pub EquationCame : Outcome Sofar → Typed → Result (Unit {0}) Refusal → Equations → Type 0
EquationCame o t (Ok u) equations = (q : Equation) × (o ≡ Got (record { due = DueEquation; typed = with_one q t })) × Hold (t.equations ++ (q ∷ [])) equations
EquationCame o t (Err a) equations = o ≡ Refused a

-- What the property came to, with its row behind it.
abbrev pub PropCame : Outcome Sofar → Typed → Result ℕ Refusal → List ℕ → Type 0
PropCame o t (Ok size) property =
    (e : Expr) × (o ≡ Got (record { due = DueEnd; typed = with_property e t })) × (size ≡ nodes e) × (property ≡ padded base.property_nodes (code e))
PropCame o t (Err a) property = o ≡ Refused a
