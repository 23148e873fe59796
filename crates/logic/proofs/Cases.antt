-- Computed cases: the pieces of the worked deck (RULES 9.1), verdicts, cones and conjuncts that tell the definitions from wrong ones.
use mathlib.Core.Path.{◌≡◌, refl}
use mathlib.Core.Bool.{true, false}
use mathlib.Core.List.{List, [], ◌∷◌}
use Prim.Native.Nat.{ℕ}
use lib.Count.{ones}
use Rattle.lists.specs.Lists.{Each, keep, firsts, others, stands}
use Rattle.sets.specs.Sets.{only, union, size}
use Rattle.logic.specs.Expressions.{Expr, Const, Var, One, Two, Not, Next, Future, Always, And, Or, Until, Weak, written, value}
use Rattle.logic.specs.Decks.{Equation, Deck}
use Rattle.logic.specs.Meaning.{Claim, follower}
use Rattle.logic.specs.Cones.{grown, passes, cone}
use Rattle.logic.specs.Pieces.{split, piece, pieces}
use Rattle.logic.specs.Verdicts.{Verdict, Breaking, NotInitial, NoStep, Holding, unrolled, truth, taken, allowed, steps_from, verdict}

abbrev is : ℕ → Expr → Equation
is v e = record { left = v; right = e }

-- The worked deck (RULES 9.1).
abbrev pub worked : Deck
worked =
    record {
      vars = 15;
      inits = 0 ∷ 12 ∷ [];
      equations = is 0 (One Not (Var 0)) ∷ is 1 (Two And (Var 0) (Var 1)) ∷ is 1 (Var 0) ∷ is 2 (Var 3) ∷ is 3 (One Not (Var 2)) ∷ [];
      property = Two And (One Always (One Not (Var 1))) (One Future (Var 2));
    }

abbrev pub first : Deck
first =
    record {
      vars = 3;
      inits = 0 ∷ [];
      equations = is 0 (One Not (Var 0)) ∷ is 1 (Two And (Var 0) (Var 1)) ∷ is 1 (Var 0) ∷ [];
      property = One Always (One Not (Var 1));
    }

abbrev pub second : Deck
second = record { vars = 12; inits = 0 ∷ 12 ∷ []; equations = is 2 (Var 3) ∷ is 3 (One Not (Var 2)) ∷ []; property = One Future (Var 2) }

pub worked_pieces : pieces worked ≡ first ∷ second ∷ []
unfolding pieces split piece cone passes grown written keep firsts others
worked_pieces = refl

-- V0 is 0 at first and takes any value in each step.
abbrev free : Expr → Deck
free e = record { vars = 1; inits = 0 ∷ []; equations = is 0 (Const false) ∷ is 0 (Const true) ∷ []; property = e }

-- V0 is 0 at first and follows one equation; the property is `0`.
abbrev fixed : Expr → Deck
fixed e = record { vars = 1; inits = 0 ∷ []; equations = is 0 e ∷ []; property = Const false }

-- V0 and V1 are 0 at first and take any values; the property is `0`.
abbrev two : Deck
two =
    record {
      vars = 3;
      inits = 0 ∷ [];
      equations = is 0 (Const false) ∷ is 0 (Const true) ∷ is 1 (Const false) ∷ is 1 (Const true) ∷ [];
      property = Const false;
    }

abbrev claim : ℕ → ℕ → List ℕ → Claim
claim p c ss = record { p = p; c = c; states = ss }

-- V0 takes the value of its second equation in step 0, and of its first in step 1.
pub chosen_anew : verdict (free (Const false)) (claim 0 2 (0 ∷ 1 ∷ [])) ≡ Breaking
unfolding verdict steps_from allowed taken truth unrolled follower stands value
chosen_anew = refl

pub chosen_separately : verdict two (claim 0 4 (0 ∷ 1 ∷ 2 ∷ 3 ∷ [])) ≡ Breaking
unfolding verdict steps_from allowed taken truth unrolled follower stands value
chosen_separately = refl

pub not_initial : verdict (free (Const false)) (claim 0 1 (1 ∷ [])) ≡ NotInitial
unfolding verdict steps_from allowed taken truth unrolled follower stands value
not_initial = refl

-- Steps 1 and 2 are not allowed: the lowest is named.
pub lowest_step : verdict (fixed (Const false)) (claim 0 4 (0 ∷ 0 ∷ 1 ∷ 1 ∷ [])) ≡ NoStep 1
unfolding verdict steps_from allowed taken truth unrolled follower stands value
lowest_step = refl

-- Step 1 leaves the last state.
pub closing_step : verdict (fixed (Const true)) (claim 0 2 (0 ∷ 1 ∷ [])) ≡ NoStep 1
unfolding verdict steps_from allowed taken truth unrolled follower stands value
closing_step = refl

-- After the last state the run returns to state p, so V0 stays 1; closed to state 0 it would not.
pub closes_to_p : verdict (free (One Future (One Always (Var 0)))) (claim 1 1 (0 ∷ 1 ∷ [])) ≡ Holding
unfolding verdict steps_from allowed taken truth unrolled follower stands value
closes_to_p = refl

-- The verdicts on the run 0, 1, 0, 1, … and on the run 0, 0, 0, … with the property e.
abbrev swinging : Expr → Verdict
swinging e = verdict (free e) (claim 0 2 (0 ∷ 1 ∷ []))

abbrev resting : Expr → Verdict
resting e = verdict (free e) (claim 0 1 (0 ∷ []))

-- `XV0` looks one place on, `XXV0` across the closing step.
pub next_moves_on : (swinging (One Next (Var 0)) ≡ Holding) × (swinging (One Next (One Next (Var 0))) ≡ Breaking)
unfolding verdict steps_from allowed taken truth unrolled follower stands value
next_moves_on = (refl, refl)

-- V0 comes again and again, and does not stay.
pub comes_again : (swinging (One Always (One Future (Var 0))) ≡ Holding) × (swinging (One Future (One Always (Var 0))) ≡ Breaking)
unfolding verdict steps_from allowed taken truth unrolled follower stands value
comes_again = (refl, refl)

-- `(0U1)` holds at once.
pub until_at_once : resting (Two Until (Const false) (Const true)) ≡ Holding
unfolding verdict steps_from allowed taken truth unrolled follower stands value
until_at_once = refl

-- Where ~V0 holds for ever, `(~V0UV0)` fails and `(~V0WV0)` holds.
pub until_and_weak : (resting (Two Until (One Not (Var 0)) (Var 0)) ≡ Breaking) × (resting (Two Weak (One Not (Var 0)) (Var 0)) ≡ Holding)
unfolding verdict steps_from allowed taken truth unrolled follower stands value
until_and_weak = (refl, refl)

-- `(V0+~V0)` holds, `(V0&~V0)` fails.
pub or_and_and : (resting (Two Or (Var 0) (One Not (Var 0))) ≡ Holding) × (resting (Two And (Var 0) (One Not (Var 0))) ≡ Breaking)
unfolding verdict steps_from allowed taken truth unrolled follower stands value
or_and_and = (refl, refl)

-- ---- cones and conjuncts

-- Of {V1}, of {V3} and of nothing.
pub worked_cone_1 : (cone worked.equations (only 1) ≡ union (only 0) (only 1)) × (size (cone worked.equations (only 1)) ≡ 2)
unfolding cone passes grown written keep ones
worked_cone_1 = (refl, refl)

pub worked_cone_3 : (cone worked.equations (only 3) ≡ union (only 2) (only 3)) × (size (cone worked.equations (only 3)) ≡ 2)
unfolding cone passes grown written keep ones
worked_cone_3 = (refl, refl)

pub worked_cone_nothing : (cone worked.equations 0 ≡ 0) × (size (cone worked.equations 0) ≡ 0)
unfolding cone passes grown written keep ones
worked_cone_nothing = (refl, refl)

-- Only the second equation of V0 writes V1.
pub cone_by_second : cone (is 0 (Const false) ∷ is 0 (Var 1) ∷ is 1 (Const true) ∷ []) (only 0) ≡ union (only 0) (only 1)
unfolding cone passes grown written keep
cone_by_second = refl

-- V0 comes in behind V1, which comes in behind V2: against the order of the equations.
pub cone-backwards : cone (is 0 (Const false) ∷ is 1 (Var 0) ∷ is 2 (Var 1) ∷ []) (only 2) ≡ union (only 0) (union (only 1) (only 2))
unfolding cone passes grown written keep
cone-backwards = refl

-- What is written counts: `(V3+~V3)` depends on V3.
pub cone_as_written : cone (is 0 (Two Or (Var 3) (One Not (Var 3))) ∷ is 3 (Const false) ∷ []) (only 0) ≡ union (only 0) (only 3)
unfolding cone passes grown written keep
cone_as_written = refl

-- `((V0&V1)&V0)` has three conjuncts, in this order; an equal one counts again.
pub split_three : split (Two And (Two And (Var 0) (Var 1)) (Var 0)) ≡ Var 0 ∷ Var 1 ∷ Var 0 ∷ []
unfolding split
split_three = refl

-- `G(a&b)`, `(a+b)`, `~(a&b)` stand whole.
pub split-whole : (a b : Expr) → Each (λ (e : Expr). split e ≡ e ∷ []) (One Always (Two And a b) ∷ Two Or a b ∷ One Not (Two And a b) ∷ [])
unfolding split
split-whole a b = (refl, (refl, (refl, tt)))
