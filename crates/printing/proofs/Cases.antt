-- Lines that the program prints, worked out.
use mathlib.Core.Path.{◌≡◌, refl}
use mathlib.Core.List.{List, [], ◌∷◌, ◌++◌}
use Prim.Native.Nat.{ℕ}
use Prim.Native.String.{String}
use Rattle.lists.specs.Texts.{bytes}
use Rattle.logic.specs.Expressions.{decimal}
use Rattle.frames.specs.Hex.{hex_digit, pairs}
use Rattle.printing.specs.Printed.{refusal_frame, size_text, cone_line}

-- A line with its end.
abbrev line : String → List ℕ
line s = bytes s ++ (10 ∷ [])

-- A tab in card 3.
tab_in_card_3 : refusal_frame 2 1 3 ≡ line "FF020100000003"
unfolding refusal_frame pairs hex_digit bytes
tab_in_card_3 = refl

-- A claim is accepted.
claim_accepted : refusal_frame 0 0 0 ≡ line "FF000000000000"
unfolding refusal_frame pairs hex_digit bytes
claim_accepted = refl

-- 251,840 bytes are needed.
pieces_need : refusal_frame 17 0 251840 ≡ line "FF11000003D7C0"
unfolding refusal_frame pairs hex_digit bytes
pieces_need = refl

-- The cone of V1 in the worked deck (RULES 9.3), and one of all variables.
cone_of_two : cone_line 3 2 ≡ line "0000000000000003 2"
unfolding cone_line size_text decimal pairs hex_digit bytes
cone_of_two = refl

cone_of_all : cone_line 18446744073709551615 64 ≡ line "FFFFFFFFFFFFFFFF 64"
unfolding cone_line size_text decimal pairs hex_digit bytes
cone_of_all = refl
