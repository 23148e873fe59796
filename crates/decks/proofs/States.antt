-- Laws of rows of states.
use mathlib.Core.Path.{◌≡◌, refl, sym, ap, ◌∙◌}
use mathlib.Core.Logic.{by_cases}
use mathlib.Core.Bool.{◌||◌}
use mathlib.Core.List.{List, [], ◌∷◌}
use Prim.Native.Nat.{ℕ}
use native.Mathlib.Decide.{ℕ_discrete}
use lib.Dec.{eqb}
use borrow.Author.Tests.{eq-eqb, ne_eqb}
use Rattle.std.specs.List.{list_any}
use Rattle.lists.specs.Lists.{stands}

-- Whether a state is among others, as the library's `contains` says it.
pub any_stands : (x : ℕ) (ys : List ℕ) → list_any (λ y. eqb y x) ys ≡ stands x ys
unfolding stands
any_stands x [] = refl
any_stands x (y ∷ ys) =
    by_cases
    (ℕ_discrete x y)
    (λ e. ap (λ b. b || list_any (λ z. eqb z x) ys) (eq-eqb y x (sym e)) ∙ sym (simp (eq-eqb x y e, stands)))
    (λ n. ap (λ b. b || list_any (λ z. eqb z x) ys) (ne_eqb y x (λ e. n (sym e))) ∙ any_stands x ys ∙ sym (simp (ne_eqb x y n, stands)))
