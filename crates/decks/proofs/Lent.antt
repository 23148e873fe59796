-- A law of decks lent to a reader.
use mathlib.Core.Path.{◌≡◌, refl}
use Rattle.decks.specs.declared.Deck.{Deck}
use Rattle.decks.specs.Stored.{blank}
use Rattle.decks.specs.Lent.{RowsBlank, without_counts}

-- Rows of zeros, without variables and counts, are the deck of zeros.
pub rows_blank : (s : Deck) → RowsBlank s → without_counts s ≡ blank
rows_blank s b = rw (b.inits_zero, b.lefts_zero, b.ends_zero, b.nodes_zero, b.property_zero) refl
