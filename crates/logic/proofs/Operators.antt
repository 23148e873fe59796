-- Laws that pin the meaning of each operator, at every place of every run.
use mathlib.Core.Path.{◌≡◌, refl}
use mathlib.Core.Logic.Iff
use mathlib.Core.Logic.{◌⊎◌, inl, inr, ⊎_elim, ◌↔◌}
use mathlib.Core.Bool.{Bool, true, false}
use Prim.Native.Nat.{ℕ, zero, suc, ◌+◌, ◌-◌, ◌<◌, ◌≤◌, min, max}
use native.Mathlib.Omega.{arith}
use native.Mathlib.Nat.{le_refl}
use native.Mathlib.Decide.{dec_lt, le_ind}
use Rattle.sets.specs.Sets.{bit}
use Rattle.sets.proofs.Laws.{bit_lt}
use Rattle.logic.specs.Expressions.{Expr, Const, Var, One, Two, Not, Next, Future, Always, And, Or, Until, Weak, Plain, value}
use Rattle.logic.specs.Meaning.{Run, Holds}

-- general: facts as digits

digit : (x : ℕ) → x < 2 → (x ≡ 0) ⊎ (x ≡ 1)
digit zero l = inl refl
digit (suc zero) l = inr refl
digit (suc (suc x)) l = absurd (omega arith)

pub digit_not : {A : Type 0} (x : ℕ) → x < 2 → A ↔ x ≡ 1 → (A → ⊥) ↔ 1 - x ≡ 1
digit_not x x-digit a = (λ n. ⊎_elim (λ (z : x ≡ 0). omega arith) (λ o. absurd (n (a.1 o))) (digit x x-digit), λ e t. omega (arith, a.0 t))

module _ {A B : Type 0} (x y : ℕ) (x-digit : x < 2) (y-digit : y < 2) (a : A ↔ x ≡ 1) (b : B ↔ y ≡ 1) where
  pub digit_and : (A × B) ↔ min x y ≡ 1
  digit_and = (λ t. omega (arith, a.0 t.0, b.0 t.1), λ e. (a.1 (omega arith), b.1 (omega arith)))

  pub digit_or : (A ⊎ B) ↔ max x y ≡ 1
  digit_or = (
    ⊎_elim (λ t. omega (arith, a.0 t)) (λ t. omega (arith, b.0 t)),
    λ e. ⊎_elim (λ (z : x ≡ 0). inr (b.1 (omega arith))) (λ o. inl (a.1 o)) (digit x x-digit),
  )

module _ (r : Run) (k : ℕ) where
  -- A constant is true where it is `1`.
  pub const_is : (b : Bool) → Holds r (Const b) k ↔ b ≡ true
  const_is true = (λ t. refl, λ e. tt)
  const_is false = (λ t. absurd t, λ e. let z : ◌≡◌ {A = ℕ} 0 1 = cc in omega arith)

  -- A variable is true where its value is 1.
  pub var_is : (v : ℕ) → Holds r (Var v) k ↔ bit (r k) v ≡ 1
  var_is v = Iff.rfl

  pub not_is : (a : Expr) → Holds r (One Not a) k ↔ (Holds r a k → ⊥)
  not_is a = Iff.rfl

  pub and_is : (a b : Expr) → Holds r (Two And a b) k ↔ (Holds r a k × Holds r b k)
  and_is a b = Iff.rfl

  pub or_is : (a b : Expr) → Holds r (Two Or a b) k ↔ (Holds r a k ⊎ Holds r b k)
  or_is a b = Iff.rfl

  -- `Xa`: a one place on.
  pub next_is : (a : Expr) → Holds r (One Next a) k ↔ Holds r a (suc k)
  next_is a = Iff.rfl

  -- `(aU0)` never holds, also where a holds for ever.
  pub until_never : (a : Expr) → Holds r (Two Until a (Const false)) k → ⊥
  until_never a t = t.2

  -- `(aUb)`: b now, or a now and `(aUb)` one place on.
  pub until_unrolled : (a b : Expr) → Holds r (Two Until a b) k ↔ (Holds r b k ⊎ (Holds r a k × Holds r (Two Until a b) (suc k)))
  until_unrolled a b = (λ t. there t (dec_lt k t.0), back)
    where
      there : (t : Holds r (Two Until a b) k) → Dec (k < t.0) → Holds r b k ⊎ (Holds r a k × Holds r (Two Until a b) (suc k))
      there (i, l, t, f) (yes u) = inr (f k (le_refl k) (omega arith), (i, u, t, λ j x y. f j (omega arith) (omega arith)))
      there (i, l, t, f) (no u) = let z : i ≡ k = omega arith in inl (rw z at t)

      back : Holds r b k ⊎ (Holds r a k × Holds r (Two Until a b) (suc k)) → Holds r (Two Until a b) k
      back (inl t) = (k, le_refl k, t, λ j x y. absurd (omega arith))
      back (inr (t, (i, l, u, f))) = (i, omega arith, u, λ j x y. from t f j x y (dec_lt k j))
        where
          from : Holds r a k → ((j : ℕ) → suc k ≤ j → j < i → Holds r a j) → (j : ℕ) → k ≤ j → j < i → Dec (k < j) → Holds r a j
          from t f j x y (yes w) = f j w y
          from t f j x y (no w) = let z : k ≡ j = omega arith in rw z at t

  -- `(aUb)` is the least that is so unrolled.
  pub until_least : (a b : Expr) (Z : ℕ → Type 0) → ((i : ℕ) → Holds r b i → Z i) → ((i : ℕ) → Holds r a i → Z (suc i) → Z i) → Holds r (Two Until a b) k → Z k
  until_least a b Z now on (i, l, t, f) = down (i - k) k (le_refl k) (omega arith)
    where
      down : (n j : ℕ) → k ≤ j → j + n ≡ i → Z j
      down zero j x e = let z : i ≡ j = omega arith in now j (rw z at t)
      down (suc n) j x e = on j (f j x (omega arith)) (down n (suc j) (omega arith) (omega arith))

  -- `(aUb)` asks for b at some place.
  pub until_comes : (a b : Expr) → Holds r (Two Until a b) k → Holds r (One Future b) k
  until_comes a b t = (t.0, t.1, t.2)

  -- `Fa` is `(1Ua)`.
  pub future_is : (a : Expr) → Holds r (One Future a) k ↔ Holds r (Two Until (Const true) a) k
  future_is a = (λ t. (t.0, t.1, t.2, λ j x y. tt), λ t. (t.0, t.1, t.2))

  -- `Ga`: a now, and `Ga` one place on.
  pub always_unrolled : (a : Expr) → Holds r (One Always a) k ↔ (Holds r a k × Holds r (One Always a) (suc k))
  always_unrolled a = (λ t. (t k (le_refl k), λ i l. t i (omega arith)), λ t i l. back t i l (dec_lt k i))
    where
      back : Holds r a k × Holds r (One Always a) (suc k) → (i : ℕ) → k ≤ i → Dec (k < i) → Holds r a i
      back (t, f) i l (yes u) = f i u
      back (t, f) i l (no u) = let z : k ≡ i = omega arith in rw z at t

  -- `Ga` is the most that is so unrolled.
  pub always_most : (a : Expr) (Z : ℕ → Type 0) → ((i : ℕ) → Z i → Holds r a i × Z (suc i)) → Z k → Holds r (One Always a) k
  always_most a Z on z i l = (on i (le_ind Z z (λ j x y. (on j y).1) i l)).0

  -- `(aWb)` is `(aUb)`, or `Ga`.
  pub weak_is : (a b : Expr) → Holds r (Two Weak a b) k ↔ (Holds r (Two Until a b) k ⊎ Holds r (One Always a) k)
  weak_is a b = Iff.rfl

  -- `(aW0)` is `Ga`.
  pub weak_never : (a : Expr) → Holds r (Two Weak a (Const false)) k ↔ Holds r (One Always a) k
  weak_never a = (⊎_elim (λ t. absurd t.2) (λ t. t), λ t. inr t)

-- ---- plain expressions: truth at a place is the value in the state there

pub value_lt : (s : ℕ) (e : Expr) → value s e < 2
unfolding value
value_lt s (Const true) = omega arith
value_lt s (Const false) = omega arith
value_lt s (Var v) = bit_lt s v
value_lt s (One Not a) = omega arith
value_lt s (One Next a) = omega arith
value_lt s (One Future a) = omega arith
value_lt s (One Always a) = omega arith
value_lt s (Two And a b) = omega (arith, value_lt s a, value_lt s b)
value_lt s (Two Or a b) = omega (arith, value_lt s a, value_lt s b)
value_lt s (Two Until a b) = omega arith
value_lt s (Two Weak a b) = omega arith

pub value_is_truth : (e : Expr) → Plain e → (r : Run) (k : ℕ) → Holds r e k ↔ value (r k) e ≡ 1
unfolding value Plain
value_is_truth (Const true) h r k = (λ t. refl, λ t. tt)
value_is_truth (Const false) h r k = (λ t. absurd t, λ t. omega arith)
value_is_truth (Var v) h r k = Iff.rfl
value_is_truth (One Not a) h r k = digit_not (value (r k) a) (value_lt (r k) a) (value_is_truth a h r k)
value_is_truth (One Next a) h r k = absurd h
value_is_truth (One Future a) h r k = absurd h
value_is_truth (One Always a) h r k = absurd h
value_is_truth (Two And a b) (h, g) r k =
    digit_and (value (r k) a) (value (r k) b) (value_lt (r k) a) (value_lt (r k) b) (value_is_truth a h r k) (value_is_truth b g r k)
value_is_truth (Two Or a b) (h, g) r k =
    digit_or (value (r k) a) (value (r k) b) (value_lt (r k) a) (value_lt (r k) b) (value_is_truth a h r k) (value_is_truth b g r k)
value_is_truth (Two Until a b) h r k = absurd h
value_is_truth (Two Weak a b) h r k = absurd h
