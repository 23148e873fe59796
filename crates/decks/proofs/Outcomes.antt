-- Laws of outcomes and of the walk over a list.
use mathlib.Core.Path.{◌≡◌, refl, sym, ◌∙◌, subst}
use mathlib.Core.Bool.{Bool, true, false, not}
use mathlib.Core.List.{List, [], ◌∷◌, ◌++◌, append_assoc, append-nil}
use Prim.Native.Nat.{ℕ, suc, ◌+◌}
use native.Mathlib.Omega.{arith}
use borrow.Author.Tests.{not-false}
use lib.ListN.{length, length-append}
use Rattle.std.specs.Prelude.{Result, Err}
use Rattle.decks.specs.declared.Refusal.{Refusal}
use Rattle.decks.specs.Answers.{Outcome, Got, Refused, refuse, afterwards}
use Rattle.decks.specs.Readings.{walk}

pub refused_got : {A : Type 0} {P : Type 0} {x : A} {a : Refusal} → Refused a ≡ Got x → P
refused_got e = let z : ◌≡◌ {A = ℕ} 0 1 = cc in absurd (omega arith)

pub got_eq : {A : Type 0} {x y : A} → Got x ≡ Got y → x ≡ y
got_eq e = cc

pub err_eq : {A E : Type 0} {x y : E} → ◌≡◌ {A = Result A E} (Err x) (Err y) → x ≡ y
err_eq e = cc

-- ---- one refusal of a list of them

module _ {A : Type 0} where
  pub refuse_got : (b : Bool) (a : Refusal) (r : Outcome A) (x : A) → refuse b a r ≡ Got x → r ≡ Got x
  refuse_got true a r x e = refused_got e
  refuse_got false a r x e = e

  pub refuse_not : (b : Bool) (a : Refusal) (r : Outcome A) (x : A) → refuse b a r ≡ Got x → b ≡ false
  refuse_not true a r x e = refused_got e
  refuse_not false a r x e = refl

pub afterwards_got : {A B : Type 0} (r : Outcome A) (f : A → Outcome B) (y : B) → afterwards r f ≡ Got y → (x : A) × (r ≡ Got x) × (f x ≡ Got y)
afterwards_got (Got x) f y e = (x, refl, e)
afterwards_got (Refused a) f y e = refused_got e

-- ---- what is so of a result

-- P of the result, where there is one.
abbrev pub Given : {A : Type 0} → (A → Type 0) → Outcome A → Type 0
Given P (Got x) = P x
Given P (Refused a) = Unit

module _ {A : Type 0} where
  pub got_given : (P : A → Type 0) (r : Outcome A) (x : A) → Given P r → r ≡ Got x → P x
  got_given P r x g e = subst (Given P) e g

  pub given_got : (P : A → Type 0) (r : Outcome A) → ((x : A) → r ≡ Got x → P x) → Given P r
  given_got P (Got x) f = f x refl
  given_got P (Refused a) f = tt

  pub refuse_given : (P : A → Type 0) (t : Bool) (a : Refusal) (r : Outcome A) → (t ≡ false → Given P r) → Given P (refuse t a r)
  refuse_given P true a r f = tt
  refuse_given P false a r f = f refl

  pub refuse_not_given : (P : A → Type 0) (t : Bool) (a : Refusal) (r : Outcome A) → (t ≡ true → Given P r) → Given P (refuse (not t) a r)
  refuse_not_given P t a r f = refuse_given P (not t) a r (λ e. f (not-false t e))

  pub afterwards_given : {B : Type 0} (P : B → Type 0) (r : Outcome A) (f : A → Outcome B) → ((x : A) → r ≡ Got x → Given P (f x)) → Given P (afterwards r f)
  afterwards_given P (Got x) f g = g x refl
  afterwards_given P (Refused a) f g = tt

-- ---- the walk

module _ {A S : Type 0} (f : ℕ → A → S → Outcome S) where
  pub walk_got : (n : ℕ) (x : A) (xs : List A) (s t : S) → f n x s ≡ Got t → walk f n (x ∷ xs) s ≡ walk f (suc n) xs t
  unfolding walk
  walk_got n x xs s t e = simp (e, walk)

  pub walk_refused : (n : ℕ) (x : A) (xs : List A) (s : S) (a : Refusal) → f n x s ≡ Refused a → walk f n (x ∷ xs) s ≡ Refused a
  unfolding walk
  walk_refused n x xs s a e = simp (e, walk)

  -- The first member, and then the others.
  pub walk_once : (n : ℕ) (x : A) (xs : List A) (s : S) → walk f n (x ∷ xs) s ≡ afterwards (f n x s) (λ t. walk f (suc n) xs t)
  unfolding walk
  walk_once n x xs s = elim (f n x s) as (λ r. ◌≡◌ {A = Outcome S} (elim r [ Got t ↦ walk f (suc n) xs t | Refused a ↦ Refused a ]) (afterwards r (λ t. walk f (suc n) xs t))) [ Got t ↦ refl | Refused a ↦ refl ]

  -- A walk that comes to a result came to one at its first member, and went on from there.
  pub walk_first : (n : ℕ) (x : A) (xs : List A) (s u : S) → walk f n (x ∷ xs) s ≡ Got u → (t : S) × (f n x s ≡ Got t) × (walk f (suc n) xs t ≡ Got u)
  walk_first n x xs s u e = go (f n x s) refl
    where
      go : (r : Outcome S) → f n x s ≡ r → (t : S) × (f n x s ≡ Got t) × (walk f (suc n) xs t ≡ Got u)
      go (Got t) p = (t, p, sym (walk_got n x xs s t p) ∙ e)
      go (Refused a) p = refused_got (sym (walk_refused n x xs s a p) ∙ e)

  -- What each member keeps of those so far, the walk keeps of all. Member m + k has k members before it.
  pub walk_keeps : (m : ℕ) (K : List A → S → Type 0)
      → ((past : List A) (x : A) (s : S) → K past s → Given (K (past ++ x ∷ [])) (f (m + length past) x s))
      → (xs past : List A) (s : S)
      → K past s
      → Given (K (past ++ xs)) (walk f (m + length past) xs s)
  unfolding walk
  walk_keeps m K step [] past s k = rw (append-nil past) k
  walk_keeps m K step (x ∷ xs) past s k = go (f (m + length past) x s) refl (step past x s k) (λ t. walk_keeps m K step xs (past ++ x ∷ []) t)
    where
      go : (r : Outcome S)
          → f (m + length past) x s ≡ r
          → Given (K (past ++ x ∷ [])) r
          → ((t : S) → K (past ++ x ∷ []) t → Given (K ((past ++ x ∷ []) ++ xs)) (walk f (m + length (past ++ x ∷ [])) xs t))
          → Given (K (past ++ x ∷ xs)) (walk f (m + length past) (x ∷ xs) s)
      go (Refused a) e g more = rw (walk_refused _ x xs s a e) tt
      go (Got t) e g more =
          let long : m + length (past ++ x ∷ []) ≡ suc (m + length past) = omega (arith, length-append past (x ∷ [])) in
          rw (walk_got _ x xs s t e) (rw (append_assoc past (x ∷ []) xs, long) at (more t g))
