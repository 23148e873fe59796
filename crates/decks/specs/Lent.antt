-- Decks and claims in rows that the caller lends: what the readers promise to put there, and what those who work on the rows rest on.
-- The replies of the public operations are said without it.
use Rattle.std.specs.Prelude.{◌≡◌, List, ℕ, length, replicate, Result}
use Rattle.lists.specs.Lists.{padded}
use Rattle.logic.specs.Decks.{Equation, Deck, base}
use Rattle.decks.specs.declared.Refusal.{Refusal}
use Rattle.decks.specs.declared.Equations.{Equations}
use Rattle.decks.specs.declared.Rows.{Rows}
use Rattle.decks.specs.declared.Deck.{Deck as Stored}
use Rattle.decks.specs.Answers.{Outcome, Got, Refused, said}
use Rattle.decks.specs.Stored.{lefts_of, ends_of, codes, stored}

-- The rows and the count hold these equations: what is used of each stands from its first place on, zeros behind it.
pub record HoldsEquations (qs : List Equation) (lefts ends nodes : List ℕ) (n : ℕ) : Type 0 where
  pub lefts_are : lefts ≡ padded base.equations (lefts_of qs)
  pub ends_are : ends ≡ padded base.equations (ends_of 0 qs)
  pub nodes_are : nodes ≡ padded base.equation_nodes (codes qs)
  pub count_is : n ≡ length qs

-- The equations lent hold these.
abbrev pub Hold : List Equation → Equations → Type 0
Hold qs e = HoldsEquations qs e.lefts e.ends e.nodes e.count

-- The equations in rows that are lent: the count and each row as they are.
abbrev pub in_rows : Rows → Equations
in_rows r = record { count = r.count; lefts = r.lefts.now; ends = r.ends.now; nodes = r.nodes.now }

-- The deck that was read stands in the one that was lent, byte for byte.
abbrev pub StandsIn : Outcome Deck → Stored → Type 0
StandsIn (Got d) s = s ≡ stored d
StandsIn (Refused a) s = Unit

-- What a reader of decks promises: what it says, and the deck lent to it behind that.
pub record ReadInto (o : Outcome Deck) (r : Result (Unit {0}) Refusal) (s : Stored) : Type 0 where
  pub said_is : r ≡ said o
  pub stands_in : StandsIn o s

-- The rows before a deck is read: zeros.
pub record Blank (inits lefts ends nodes property : List ℕ) : Type 0 where
  pub inits_zero : inits ≡ replicate base.initials 0
  pub lefts_zero : lefts ≡ replicate base.equations 0
  pub ends_zero : ends ≡ replicate base.equations 0
  pub nodes_zero : nodes ≡ replicate base.equation_nodes 0
  pub property_zero : property ≡ replicate base.property_nodes 0

-- The rows of a deck lent are zeros, whatever its variables and its counts are.
abbrev pub RowsBlank : Stored → Type 0
RowsBlank s = Blank s.inits s.equations.lefts s.equations.ends s.equations.nodes s.property

-- It has no variables, and its counts are 0.
pub record Uncounted (s : Stored) : Type 0 where
  pub no_vars : s.vars ≡ 0
  pub no_initials : s.initials ≡ 0
  pub no_equations : s.equations.count ≡ 0
  pub no_size : s.size ≡ 0

-- A deck without its variables and its counts: the rows are the same.
abbrev pub without_counts : Stored → Stored
without_counts s =
    record {
      vars = 0;
      inits = s.inits;
      initials = 0;
      equations = record { count = 0; lefts = s.equations.lefts; ends = s.equations.ends; nodes = s.equations.nodes };
      property = s.property;
      size = 0;
    }
