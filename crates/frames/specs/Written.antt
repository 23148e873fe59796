-- Decks and claims written as frames: one frame a line, upper-case hexadecimal pairs, each line ended by byte 10 (RULES 6).
use Rattle.std.specs.Prelude.{true, false, List, [], ◌∷◌, ◌++◌, ℕ, ◌+◌, ◌-◌, ltb, length}
use Rattle.logic.specs.Expressions.{code}
use Rattle.logic.specs.Decks.{Equation, Deck}
use Rattle.logic.specs.Meaning.{Claim}
use Rattle.frames.specs.Hex.{pair, pairs}

-- The bytes of a variable set or a state.
abbrev pub set_bytes : ℕ
set_bytes = 8

-- The kinds.
abbrev pub set_kind : ℕ
set_kind = 1

abbrev pub init_kind : ℕ
init_kind = 2

abbrev pub equation_kind : ℕ
equation_kind = 3

abbrev pub property_kind : ℕ
property_kind = 4

abbrev pub count_kind : ℕ
count_kind = 5

abbrev pub claim_kind : ℕ
claim_kind = 17

abbrev pub state_kind : ℕ
state_kind = 18

abbrev pub claim_count_kind : ℕ
claim_count_kind = 21

-- A node's code: 00 to 3F a variable, 40 `0`, 41 `1`, 42 `~`, 43 `&`, 44 `+`, 45 `X`, 46 `F`, 47 `G`, 48 `U`, 49 `W`.
unfoldable pub code_byte : ℕ → ℕ
code_byte n = elim (ltb n 256) [ true ↦ n | false ↦ n - 256 + 64 ]

-- Nodes as pairs.
unfoldable pub node_pairs : List ℕ → List ℕ
node_pairs [] = []
node_pairs (n ∷ ns) = pair (code_byte n) ++ node_pairs ns

-- A frame: its kind, its content, and byte 10.
abbrev pub frame : ℕ → List ℕ → List ℕ
frame k content = pair k ++ (content ++ (10 ∷ []))

unfoldable pub state_frames : ℕ → List ℕ → List ℕ
state_frames k [] = []
state_frames k (s ∷ ss) = frame k (pairs set_bytes s) ++ state_frames k ss

unfoldable pub equation_frames : List Equation → List ℕ
equation_frames [] = []
equation_frames (q ∷ qs) = frame equation_kind (pair q.left ++ node_pairs (code q.right)) ++ equation_frames qs

-- A deck is 01, one or more 02s, the 03s by rising variable with each one's equations in deck order, 04, 05.
unfoldable pub deck_frames : Deck → List ℕ
deck_frames d =
    frame set_kind (pairs set_bytes d.vars)
    ++ (state_frames init_kind d.inits
    ++ (equation_frames d.equations
    ++ (frame property_kind (node_pairs (code d.property)) ++ frame count_kind (pairs 2 (length d.inits + length d.equations + 2)))))

-- A claim is 11 (p, then c, two bytes each), p+c frames 12 with states, and 15 with the count as in 05.
unfoldable pub claim_frames : Claim → List ℕ
claim_frames m =
    frame claim_kind (pairs 2 m.p ++ pairs 2 m.c) ++ (state_frames state_kind m.states ++ frame claim_count_kind (pairs 2 (length m.states + 1)))
