-- What the writers of pieces are lent: a deck in memory, its dependency table, and the spans of its property's conjuncts.
use Rattle.std.specs.Prelude.{◌≡◌, List, ℕ, ◌≤◌, length, take}
use Rattle.sets.specs.Sets.{◌⊆◌}
use Rattle.logic.specs.Expressions.{Expr, code, written}
use Rattle.logic.specs.Decks.{Deck, Accepted, base}
use Rattle.logic.specs.Pieces.{split, cone_of, projected}
use Rattle.decks.specs.declared.Deck.{Deck as Stored}
use Rattle.decks.specs.Stored.{stored}
use Rattle.cones.specs.Dependencies.{table}
use Rattle.lists.specs.Lists.{part}
use Rattle.conjuncts.specs.declared.Span.{Span}
use Rattle.conjuncts.specs.Conjuncts.{Bounded}
use Rattle.pieces.specs.declared.Kept.{Kept}

-- The accepted deck D stands in memory, and the table is the one of its equations.
pub record Laid (D : Deck) (deck : Stored) (deps : List ℕ) : Type 0 where
  pub accepted : Accepted base D
  pub deck_is : deck ≡ stored D
  pub table_is : deps ≡ table D.equations

-- Beside it the nodes of the property at this span are the code of e, which writes variables of the deck only.
pub record Placed (D : Deck) (e : Expr) (deck : Stored) (deps : List ℕ) (span : Span) : Type 0 where
  pub laid : Laid D deck deps
  pub inside : written e ⊆ D.vars
  pub in_order : span.from ≤ span.to
  pub to_in : span.to ≤ length (code D.property)
  pub is_code : part span.from span.to (code D.property) ≡ code e

-- Beside it the spans bound the codes of the property's conjuncts, one for each.
pub record Bound (D : Deck) (deck : Stored) (deps : List ℕ) (spans : List Span) : Type 0 where
  pub laid : Laid D deck deps
  pub conjuncts : Bounded (code D.property) spans (split D.property)
  pub count_is : length spans ≡ length (split D.property)

-- What the piece of e keeps: the cone of e in the deck, and the deck's initial states seen on it.
pub record Keeps (D : Deck) (e : Expr) (k : Kept) : Type 0 where
  pub cone_is : k.cone ≡ cone_of D e
  pub few : k.count ≤ base.initials
  pub states_are : take k.count k.states ≡ projected k.cone D.inits
