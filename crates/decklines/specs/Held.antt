-- What the reader of decks holds of the lines so far, and what stands in the deck lent to it.
use Rattle.std.specs.Prelude.{◌≡◌, List, ℕ, ◌+◌, ◌<◌, ◌≤◌, length, replicate, Result, Ok, Err}
use Rattle.lists.specs.Lists.{padded}
use Rattle.logic.specs.Expressions.{Expr, nodes, written, temporal, code}
use Rattle.logic.specs.Decks.{base, total_nodes}
use Rattle.decks.specs.declared.Refusal.{Refusal}
use Rattle.decks.specs.declared.Deck.{Deck as Stored}
use Rattle.decks.specs.Answers.{Outcome, Got, Refused}
use Rattle.decks.specs.Stored.{stored_equations}
use Rattle.frames.specs.Read.{Due, DueSet, DueInit, DueAny, DueEquation, DueCount, DueNone, Sofar, last_left}
use Rattle.decks.specs.Readings.{left_set}
use Rattle.codes.specs.declared.Written.{Written}
use Rattle.decklines.specs.declared.Due.{Due as Kind}
use Rattle.decklines.specs.declared.Due.TheVariants.{Set, Init, Any, Equation, Count, Nothing}
use Rattle.decklines.specs.declared.Held.{Held}

-- What a reader of a part says: that part as it is held, or its refusal.
abbrev pub said_as : {A B : Type 0} → (A → B) → Outcome A → Result B Refusal
said_as f (Got x) = Ok (f x)
said_as f (Refused a) = Err a

-- What is held of an expression.
abbrev pub written_of : Expr → Written
written_of e = record { nodes = nodes e; vars = written e; temporal = temporal e }

-- Which frames are due.
abbrev pub due_of : Due → Kind
due_of DueSet = Set
due_of DueInit = Init
due_of DueAny = Any
due_of DueEquation = Equation
due_of DueCount = Count
due_of DueNone = Nothing

-- The property's nodes, from 04 on, and how many they are: zeros before.
abbrev pub property_of : Due → Expr → List ℕ
property_of DueSet e = replicate base.property_nodes 0
property_of DueInit e = replicate base.property_nodes 0
property_of DueAny e = replicate base.property_nodes 0
property_of DueEquation e = replicate base.property_nodes 0
property_of DueCount e = padded base.property_nodes (code e)
property_of DueNone e = padded base.property_nodes (code e)

abbrev pub size_of : Due → Expr → ℕ
size_of DueSet e = 0
size_of DueInit e = 0
size_of DueAny e = 0
size_of DueEquation e = 0
size_of DueCount e = nodes e
size_of DueNone e = nodes e

-- What is due, the number of the equations' nodes, the last left side and all left sides.
abbrev pub held_of : Sofar → Held
held_of s = record { due = due_of s.due; used = total_nodes s.deck.equations; last = last_left s.deck.equations; covered = left_set s.deck.equations }

-- The deck lent, with what the lines so far came to: every byte of it.
abbrev pub deck_of : Sofar → Stored
deck_of s =
    record {
      vars = s.deck.vars;
      inits = padded base.initials s.deck.inits;
      initials = length s.deck.inits;
      equations = stored_equations s.deck.equations;
      property = property_of s.due s.deck.property;
      size = size_of s.due s.deck.property;
    }

-- What a line says.
abbrev pub line_of : Outcome Sofar → Result Held Refusal
line_of o = said_as held_of o

-- The deck lent with one part as the lines so far came to, the rest as it was: the variables behind 01, the initial states behind 02, the equations behind 03, the property behind 04.
abbrev pub with_vars : Stored → Sofar → Stored
with_vars d s = record d { vars = s.deck.vars }

abbrev pub with_inits : Stored → Sofar → Stored
with_inits d s = record d { inits = padded base.initials s.deck.inits; initials = length s.deck.inits }

abbrev pub with_equations : Stored → Sofar → Stored
with_equations d s = record d { equations = stored_equations s.deck.equations }

abbrev pub with_property : Stored → Sofar → Stored
with_property d s = record d { property = padded base.property_nodes (code s.deck.property); size = nodes s.deck.property }

-- The variables alone, behind an 01 with which the deck begins: nothing is counted in the arrays.
abbrev pub with_vars_alone : Stored → Sofar → Stored
with_vars_alone d s = record d { vars = s.deck.vars; initials = 0; equations = record d.equations { count = 0 }; size = 0 }

-- The deck lent behind a line that was not refused, by what the lines came to.
abbrev pub DeckAfter : (Sofar → Stored) → Outcome Sofar → Stored → Type 0
DeckAfter f (Got s) d = d ≡ f s
DeckAfter f (Refused a) d = Unit

-- What a line came to: what it says, and the deck lent behind it.
pub record Came (f : Sofar → Stored) (o : Outcome Sofar) (r : Result Held Refusal) (d : Stored) : Type 0 where
  pub line_is : r ≡ line_of o
  pub deck_is : DeckAfter f o d

-- An equation that was judged has room in the arrays.
pub record Room (v : ℕ) (h : Held) (e : Written) (d : Stored) (r : Held) : Type 0 where
  pub few : d.equations.count < base.equations
  pub most : r.used ≤ base.equation_nodes
  pub used_is : r.used ≡ h.used + e.nodes
