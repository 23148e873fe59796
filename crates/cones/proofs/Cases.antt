-- Computed cases: the cones of the worked deck (RULES 9.3), its table, and refusals.
use mathlib.Core.Path.{◌≡◌, refl}
use mathlib.Core.List.{[], ◌∷◌}
use lib.ListN.{take}
use lib.Count.{ones, ones_in, count_trailing_zeros}
use Rattle.logic.specs.Expressions.{Var, One, Not, written}
use Rattle.logic.specs.Cones.{grown, passes, cone}
use Rattle.logic.proofs.Cases.{worked}
use Rattle.std.specs.Prelude.{Ok, Err}
use Rattle.decks.specs.declared.Refusal.TheVariants.{Outside}
use Rattle.cones.specs.Dependencies.{depends_on, rows, table}
use Rattle.cones.specs.Cone.{cone_read}

-- Cone of {V1} is {V0, V1}, size 2.
pub cone_of_v1 : cone_read worked 2 ≡ Ok (record { set = 3; size = 2 })
unfolding cone_read cone passes grown written ones ones_in
cone_of_v1 = refl

-- Cone of {V3} is {V2, V3}.
pub cone_of_v3 : cone_read worked 8 ≡ Ok (record { set = 12; size = 2 })
unfolding cone_read cone passes grown written ones ones_in
cone_of_v3 = refl

-- Of nothing, nothing.
pub cone_of_none : cone_read worked 0 ≡ Ok (record { set = 0; size = 0 })
unfolding cone_read cone passes grown written ones ones_in
cone_of_none = refl

-- V1, V4 and V6: 9 names V4.
pub cone_outside : cone_read worked 82 ≡ Err (Outside 0 4)
unfolding cone_read count_trailing_zeros
cone_outside = refl

-- V1 depends on V1 by its first equation only, on V0 by both.
pub table_worked : take 5 (table worked.equations) ≡ 1 ∷ 3 ∷ 8 ∷ 4 ∷ 0 ∷ []
unfolding rows depends_on written
table_worked = refl

-- `V0=V1` and `V0=~V2`: both equations count, and what stands behind an operator.
pub both_equations : depends_on (record { left = 0; right = Var 1 } ∷ record { left = 0; right = One Not (Var 2) } ∷ []) 0 ≡ 6
unfolding depends_on written
both_equations = refl
