-- A text written out in the definitions, as its bytes.
use Rattle.std.specs.Prelude.{List, [] as none, ◌∷◌ as ◌then◌, ℕ}
use Prim.Native.Char.{code}
use Prim.Native.String.{String, [], ◌∷◌}

unfoldable pub bytes : String → List ℕ
bytes [] = none
bytes (c ∷ s) = ◌then◌ (code c) (bytes s)
