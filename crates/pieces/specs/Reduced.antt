-- All reduced decks of a deck, written one after the other into a lent buffer (RULES 6.5).
use Rattle.std.specs.Prelude.{true, false, List, [], ◌∷◌, ◌++◌, ℕ, ltb, length, Result, Ok, Err}
use Rattle.lists.specs.Lists.{splice}
use Rattle.logic.specs.Decks.{Deck}
use Rattle.logic.specs.Pieces.{pieces}
use Rattle.decks.specs.declared.Refusal.{Refusal}
use Rattle.decks.specs.declared.Refusal.TheVariants.{NoRoom}
use Rattle.frames.specs.Written.{deck_frames}
use Rattle.pieces.specs.declared.Reduced.{Reduced}

-- The frames of decks, one behind the other.
unfoldable pub all_frames : List Deck → List ℕ
all_frames [] = []
all_frames (d ∷ ds) = deck_frames d ++ all_frames ds

-- The bytes of all pieces.
abbrev pub piece_bytes : Deck → List ℕ
piece_bytes d = all_frames (pieces d)

-- The answer: the number of pieces and the bytes written, or 17 with the bytes that all pieces need.
unfoldable pub reduced : Deck → ℕ → Result Reduced Refusal
reduced d room =
    elim (ltb room (length (piece_bytes d))) [
      | true ↦ Err (NoRoom (length (piece_bytes d)))
      | false ↦ Ok (record { pieces = length (pieces d); bytes = length (piece_bytes d) })
    ]

-- The buffer afterwards: the pieces from its first byte on, and what lay beyond them as it was; unchanged by a refusal.
unfoldable pub reduced_into : Deck → List ℕ → List ℕ
reduced_into d out = elim (ltb (length out) (length (piece_bytes d))) [ true ↦ out | false ↦ splice 0 (piece_bytes d) out ]
