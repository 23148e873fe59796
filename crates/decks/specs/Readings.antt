-- What the readers of cards and of frames share.
use Rattle.std.specs.Prelude.{not, List, [], ◌∷◌, ℕ, suc, eqb}
use Rattle.sets.specs.Sets.{union, only, without, lowest_of}
use Rattle.logic.specs.Expressions.{Expr}
use Rattle.logic.specs.Decks.{Equation, Deck}
use Rattle.decks.specs.declared.Refusal.TheVariants.{NoEquation}
use Rattle.decks.specs.Answers.{Outcome, Got, Refused, refuse}

-- An expression and what stands behind it; or what stands from the first fault on: what no expression can go on with, or the begin of one at level 33.
pub data Reading : Type 0 where
  Whole : Expr → List ℕ → Reading
  Wrong : List ℕ → Reading
  Deep : List ℕ → Reading

-- First the one expression, then, from what stands behind it, the rest.
abbrev pub onward : Reading → (Expr → List ℕ → Reading) → Reading
onward (Whole e cs) f = f e cs
onward (Wrong cs) f = Wrong cs
onward (Deep cs) f = Deep cs

-- One by one from number n on: each takes what those before it came to one further.
unfoldable pub walk : {A S : Type 0} → (ℕ → A → S → Outcome S) → ℕ → List A → S → Outcome S
walk f n [] s = Got s
walk f n (x ∷ xs) s = elim (f n x s) [ Got t ↦ walk f (suc n) xs t | Refused a ↦ Refused a ]

-- The variables on the left sides.
unfoldable pub left_set : List Equation → ℕ
left_set [] = 0
left_set (q ∷ qs) = union (only q.left) (left_set qs)

-- 15: a variable has no equation, the lowest such one.
unfoldable pub complete : Deck → Outcome Deck
complete d =
    let missing : ℕ = without d.vars (left_set d.equations) in
    refuse (not (eqb missing 0)) (NoEquation (lowest_of missing)) (Got d)
