-- The bytes of a deck and of a claim written as frames: two for each byte of a frame, and byte 10.
use Rattle.std.specs.Prelude.{ℕ, ◌+◌, ◌*◌, length}
use Rattle.logic.specs.Expressions.{nodes}
use Rattle.logic.specs.Decks.{Deck, total_nodes}
use Rattle.logic.specs.Meaning.{Claim}

-- 01 and each 02 have 19 bytes, a 03 has 5 and two a node, 04 has 3 and two a node, 05 has 7.
abbrev pub deck_bytes : Deck → ℕ
deck_bytes d = 19 + 19 * length d.inits + (5 * length d.equations + 2 * total_nodes d.equations) + (3 + 2 * nodes d.property) + 7

-- 11 has 11 bytes, each 12 has 19, 15 has 7.
abbrev pub claim_bytes : Claim → ℕ
claim_bytes m = 11 + 19 * length m.states + 7
