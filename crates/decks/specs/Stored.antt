-- The value in memory that a deck of the logic has: every byte of it.
use Rattle.std.specs.Prelude.{List, [], ◌∷◌, ◌++◌, map, ℕ, ◌+◌, length, replicate}
use Rattle.lists.specs.Lists.{padded}
use Rattle.logic.specs.Expressions.{nodes, code}
use Rattle.logic.specs.Decks.{Equation, Deck, Limits, base}
use Rattle.decks.specs.declared.Equations.{Equations}
use Rattle.decks.specs.declared.Deck.{Deck as Stored}
use Rattle.decks.specs.declared.Sizes.{Sizes}

-- The variables on the left sides.
abbrev pub lefts_of : List Equation → List ℕ
lefts_of qs = map (λ (q : Equation). q.left) qs

-- Where each equation's nodes end, counted from n.
unfoldable pub ends_of : ℕ → List Equation → List ℕ
ends_of n [] = []
ends_of n (q ∷ qs) = (n + nodes q.right) ∷ ends_of (n + nodes q.right) qs

-- The nodes of all right sides, one behind the other.
unfoldable pub codes : List Equation → List ℕ
codes [] = []
codes (q ∷ qs) = code q.right ++ codes qs

-- What is used of each array stands from its first place on, zeros behind it.
abbrev pub stored_equations : List Equation → Equations
stored_equations qs =
    record {
      count = length qs;
      lefts = padded base.equations (lefts_of qs);
      ends = padded base.equations (ends_of 0 qs);
      nodes = padded base.equation_nodes (codes qs);
    }

abbrev pub stored : Deck → Stored
stored d =
    record {
      vars = d.vars;
      inits = padded base.initials d.inits;
      initials = length d.inits;
      equations = stored_equations d.equations;
      property = padded base.property_nodes (code d.property);
      size = nodes d.property;
    }

-- The deck of zeros: what is returned with a refusal.
abbrev pub no_equations : Equations
no_equations =
    record {
      count = 0;
      lefts = replicate base.equations 0;
      ends = replicate base.equations 0;
      nodes = replicate base.equation_nodes 0;
    }

abbrev pub blank : Stored
blank =
    record {
      vars = 0;
      inits = replicate base.initials 0;
      initials = 0;
      equations = no_equations;
      property = replicate base.property_nodes 0;
      size = 0;
    }

-- The limits as the code has them.
abbrev pub sizes_of : Limits → Sizes
sizes_of L =
    record {
      text = L.text;
      variables = L.variables;
      initials = L.initials;
      equations = L.equations;
      equation_nodes = L.equation_nodes;
      property_nodes = L.property_nodes;
      levels = L.levels;
      states = L.states;
    }
