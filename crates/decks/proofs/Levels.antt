-- Two readings of the same text, the second with one level more.
use mathlib.Core.Path.{◌≡◌, refl}
use mathlib.Core.List.{List}
use Prim.Native.Nat.{ℕ}
use Rattle.logic.specs.Expressions.{Expr}
use Rattle.decks.specs.Readings.{Reading, Whole, Wrong, Deep, onward}

-- The second reading is the first, where that did not meet its last level.
abbrev pub Same : Reading → Reading → Type 0
Same (Whole e rs) r = r ≡ Whole e rs
Same (Wrong rs) r = r ≡ Wrong rs
Same (Deep rs) r = Unit

pub same_refl : (r : Reading) → Same r r
same_refl (Whole e rs) = refl
same_refl (Wrong rs) = refl
same_refl (Deep rs) = tt

pub same-onward : (r t : Reading) (f g : Expr → List ℕ → Reading) → Same r t → ((e : Expr) (rs : List ℕ) → Same (f e rs) (g e rs)) → Same (onward r f) (onward t g)
same-onward (Whole e rs) t f g s k = rw s (k e rs)
same-onward (Wrong rs) t f g s k = rw s
same-onward (Deep rs) t f g s k = tt

-- The reading did not meet its last level.
abbrev pub Shallow : Reading → Type 0
Shallow (Whole e rs) = Unit
Shallow (Wrong rs) = Unit
Shallow (Deep rs) = ⊥

pub shallow-same : (r t : Reading) → Same r t → Shallow r → t ≡ r
shallow-same (Whole e rs) t s h = s
shallow-same (Wrong rs) t s h = s
shallow-same (Deep rs) t s h = absurd h
