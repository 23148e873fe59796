-- What is answered to a deck and a set: the cone with its size, or 9 with the lowest variable that is not the deck's.
use Rattle.std.specs.Prelude.{true, false, ℕ, Result, Ok, Err}
use Rattle.sets.specs.Sets.{without, inside, size, lowest_of}
use Rattle.logic.specs.Decks.{Deck}
use Rattle.logic.specs.Cones.{cone}
use Rattle.decks.specs.declared.Refusal.{Refusal}
use Rattle.decks.specs.declared.Refusal.TheVariants.{Outside}
use Rattle.cones.specs.declared.SizedCone.{SizedCone}

-- The lowest variable of s that the deck does not have.
abbrev pub lowest_outside : Deck → ℕ → ℕ
lowest_outside d s = lowest_of (without s d.vars)

-- The set's cone and the number of its variables.
abbrev pub sized : ℕ → SizedCone
sized c = record { set = c; size = size c }

-- The set's cone with its size; a set with a variable outside the deck's is refused.
unfoldable pub cone_read : Deck → ℕ → Result SizedCone Refusal
cone_read d s = elim (inside s d.vars) [ true ↦ Ok (sized (cone d.equations s)) | false ↦ Err (Outside 0 (lowest_outside d s)) ]
