-- The law of the two counts.
use mathlib.Core.Path.{◌≡◌, refl}
use mathlib.Core.List.{List, [], ◌∷◌}
use Prim.Native.Nat.{ℕ}
use native.Mathlib.Omega.{arith}
use lib.ListN.{length, set}

-- Two places filled.
pub two_filled : (l : List ℕ) (x y : ℕ) → length l ≡ 2 → set (set l 0 x) 1 y ≡ x ∷ y ∷ []
two_filled [] x y e = absurd (omega (arith, e))
two_filled (a ∷ []) x y e = absurd (omega (arith, e))
two_filled (a ∷ b ∷ []) x y e = refl
two_filled (a ∷ b ∷ c ∷ l) x y e = absurd (omega (arith, e))
