-- Where a line ends.
use Rattle.std.specs.Prelude.{true, false, List, [], ◌∷◌, ℕ, suc, eqb}

-- The bytes that stand before the first byte 10: all, where there is none.
unfoldable pub line_length : List ℕ → ℕ
line_length [] = 0
line_length (b ∷ bs) = elim (eqb b 10) [ true ↦ 0 | false ↦ suc (line_length bs) ]
