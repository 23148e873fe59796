-- Truth depends on the variables written alone, repeats with the run, and is decided on every run that loops.
use mathlib.Core.Path.{◌≡◌, sym, subst, ap, ◌∙◌}
use mathlib.Core.Logic.Dec
use mathlib.Core.Logic.Iff
use mathlib.Core.Logic.{◌⊎◌, inl, inr, ⊎_elim, ◌↔◌, by_cases}
use mathlib.Core.Bool.{true, false}
use Prim.Native.Nat.{ℕ, zero, suc, ◌+◌, ◌-◌, ◌*◌, ◌/◌, ◌%◌, ◌<◌, ◌≤◌, max}
use native.Mathlib.Omega.{arith}
use native.Mathlib.Nat.{le_refl, mod-lt, div-add-mod'}
use native.Mathlib.Decide.{dec_le, dec_lt}
use Rattle.sets.specs.Sets.{bit, ◌∋◌, ◌⊆◌}
use Rattle.sets.proofs.Laws.{bit-only, union_left, union_right, member_dec}
use Rattle.logic.specs.Expressions.{Expr, Const, Var, Op1, Op2, One, Two, Not, Next, Future, Always, And, Or, Until, Weak, written}
use Rattle.logic.specs.Meaning.{Run, Holds, Loops}

-- ---- truth depends on the variables written alone

-- The two runs give the variables of s the same values, from k in the one and from k' in the other on.
abbrev pub Alike : ℕ → Run → Run → ℕ → ℕ → Type 0
Alike s r r' k k' = (v m m' : ℕ) → s ∋ v → k ≤ m → m + k' ≡ m' + k → bit (r m) v ≡ bit (r' m') v

alike_back : (s : ℕ) (r r' : Run) (k k' : ℕ) → Alike s r r' k k' → Alike s r' r k' k
alike_back s r r' k k' h v m m' i l e = sym (h v m' m i (omega arith) (sym e))

alike_in : (s t : ℕ) (r r' : Run) (k k' : ℕ) → t ⊆ s → Alike s r r' k k' → Alike t r r' k k'
alike_in s t r r' k k' f h v m m' i = h v m m' (f v i)

-- On alike runs the truth of e goes over from the one to the other, at every place from k and k' on.
abbrev Carries : Expr → Type 0
Carries e =
    (r r' : Run) (k k' : ℕ) → Alike (written e) r r' k k' → (i i' : ℕ) → k ≤ i → i + k' ≡ i' + k → Holds r e i → Holds r' e i'

carries_one : (o : Op1) (a : Expr) → Carries a → Carries (One o a)
unfolding written
carries_one Not a f r r' k k' h i i' l e t = λ t'. t (f r' r k' k (alike_back (written a) r r' k k' h) i' i (omega arith) (sym e) t')
carries_one Next a f r r' k k' h i i' l e t = f r r' k k' h (suc i) (suc i') (omega arith) (omega arith) t
carries_one Future a f r r' k k' h i i' l e (j, u, t) =
    (j + i' - i, omega arith, f r r' k k' h j (j + i' - i) (omega arith) (omega arith) t)
carries_one Always a f r r' k k' h i i' l e t =
    λ j' u. f r r' k k' h (j' + i - i') j' (omega arith) (omega arith) (t (j' + i - i') (omega arith))

carries_two : (o : Op2) (a b : Expr) → Carries a → Carries b → Carries (Two o a b)
unfolding written
carries_two o a b f g r r' k k' h i i' l e = go o
  where
    left : (j j' : ℕ) → k ≤ j → j + k' ≡ j' + k → Holds r a j → Holds r' a j'
    left = f r r' k k' (alike_in (written (Two o a b)) (written a) r r' k k' (union_left (written a) (written b)) h)

    right : (j j' : ℕ) → k ≤ j → j + k' ≡ j' + k → Holds r b j → Holds r' b j'
    right = g r r' k k' (alike_in (written (Two o a b)) (written b) r r' k k' (union_right (written a) (written b)) h)

    until : Holds r (Two Until a b) i → Holds r' (Two Until a b) i'
    until (j, u, t, w) = (
      j + i' - i,
      omega arith,
      right j (j + i' - i) (omega arith) (omega arith) t,
      λ n' x y. left (n' + i - i') n' (omega arith) (omega arith) (w (n' + i - i') (omega arith) (omega arith)),
    )

    go : (o : Op2) → Holds r (Two o a b) i → Holds r' (Two o a b) i'
    go And (t, u) = (left i i' l e t, right i i' l e u)
    go Or (inl t) = inl (left i i' l e t)
    go Or (inr t) = inr (right i i' l e t)
    go Until t = until t
    go Weak (inl t) = inl (until t)
    go Weak (inr w) = inr (λ n' x. left (n' + i - i') n' (omega arith) (omega arith) (w (n' + i - i') (omega arith)))

carries : (e : Expr) → Carries e
unfolding written
carries (Const b) = λ r r' k k' h i i' l e t. t
carries (Var v) = λ r r' k k' h i i' l e t. sym (h v i i' (bit-only v) l e) ∙ t
carries (One o a) = carries_one o a (carries a)
carries (Two o a b) = carries_two o a b (carries a) (carries b)

-- Two runs that agree on the variables written, from k and from k' on, give the same truth there.
pub agree : (e : Expr) (r r' : Run) (k k' : ℕ) → ((v m m' : ℕ) → written e ∋ v → k ≤ m → m + k' ≡ m' + k → bit (r m) v ≡ bit (r' m') v) → (Holds r e k → Holds r' e k') × (Holds r' e k' → Holds r e k)
agree e r r' k k' h = (
  carries e r r' k k' h k k' (le_refl k) (omega arith),
  carries e r' r k' k (alike_back (written e) r r' k k' h) k' k (le_refl k') (omega arith),
)

-- Truth depends on the variables written alone.
pub only-written : (e : Expr) (r r' : Run) (k : ℕ) → ((v m : ℕ) → written e ∋ v → k ≤ m → bit (r m) v ≡ bit (r' m) v) → Holds r e k ↔ Holds r' e k
only-written e r r' k h = agree e r r' k k (λ v m m' i l q. let z : m ≡ m' = omega arith in h v m i l ∙ ap (λ (n : ℕ). bit (r' n) v) z)

-- ---- truth repeats with the run

-- From place p on the truth is the same c places later.
pub same-later : (e : Expr) (r : Run) (p c : ℕ) → ((k : ℕ) → p ≤ k → r (k + c) ≡ r k) → (k : ℕ) → p ≤ k → Holds r e (k + c) ↔ Holds r e k
same-later e r p c h k l =
    agree e r r (k + c) k (λ v m m' i u q. let z : m ≡ m' + c = omega arith in ap (λ (s : ℕ). bit s v) (ap r z ∙ h m' (omega arith)))

later_often : (e : Expr) (r : Run) (p c : ℕ) → ((k : ℕ) → p ≤ k → r (k + c) ≡ r k) → (k : ℕ) → p ≤ k → (n : ℕ) → Holds r e (k + n * c) ↔ Holds r e k
later_often e r p c h k l zero = let z : k + 0 * c ≡ k = omega arith in rw z Iff.rfl
later_often e r p c h k l (suc n) =
    let z : k + suc n * c ≡ k + n * c + c = omega arith
    in rw z (Iff.trans (same-later e r p c h (k + n * c) (omega arith)) (later_often e r p c h k l n))

-- What is true at a place from k on is true no later, at a place below max k p + c, and the other way round.
pub no_later : (e : Expr) (r : Run) (p c : ℕ) → 1 ≤ c → ((k : ℕ) → p ≤ k → r (k + c) ≡ r k) → (k i : ℕ) → k ≤ i → (j : ℕ) × (k ≤ j) × (j ≤ i) × (j < max k p + c) × (Holds r e i ↔ Holds r e j)
no_later e r p c one h k i l = go (dec_lt i (max k p))
  where
    go : Dec (i < max k p) → (j : ℕ) × (k ≤ j) × (j ≤ i) × (j < max k p + c) × (Holds r e i ↔ Holds r e j)
    go (yes u) = (i, l, le_refl i, omega arith, Iff.rfl)
    go (no u) =
        let small : (i - max k p) % c < c = mod-lt (i - max k p) one in
        let whole : i ≡ max k p + (i - max k p) % c + (i - max k p) / c * c = omega (arith, div-add-mod' (i - max k p) c) in (
          max k p + (i - max k p) % c,
          omega arith,
          omega arith,
          omega arith,
          subst (λ (n : ℕ). Holds r e n ↔ Holds r e (max k p + (i - max k p) % c)) (sym whole)
              (later_often e r p c h (max k p + (i - max k p) % c) (omega arith) ((i - max k p) / c)),
        )

-- general: bounded search

pub dec_or : {A B : Type 0} → Dec A → Dec B → Dec (A ⊎ B)
dec_or (yes a) e = yes (inl a)
dec_or (no n) (yes b) = yes (inr b)
dec_or (no n) (no m) = no (λ x. ⊎_elim n m x)

pub dec_if : {A B : Type 0} → Dec A → Dec B → Dec (A → B)
dec_if d (yes b) = yes (λ a. b)
dec_if (yes a) (no n) = no (λ f. n (f a))
dec_if (no m) (no n) = yes (λ a. absurd (m a))

pub some_below : (P : ℕ → Type 0) → ((i : ℕ) → Dec (P i)) → (n : ℕ) → Dec ((i : ℕ) × (i < n) × P i)
some_below P d zero = no (λ x. omega (arith, x.1))
some_below P d (suc n) = Dec.of_iff (there, back) (dec_or (d n) (some_below P d n))
  where
    there : P n ⊎ ((i : ℕ) × (i < n) × P i) → (i : ℕ) × (i < suc n) × P i
    there (inl p) = (n, omega arith, p)
    there (inr (i, l, p)) = (i, omega arith, p)

    back : (i : ℕ) × (i < suc n) × P i → P n ⊎ ((i : ℕ) × (i < n) × P i)
    back (i, l, p) = by_cases (dec_lt i n) (λ u. inr (i, u, p)) (λ u. let z : i ≡ n = omega arith in inl (rw z at p))

pub each_below : (P : ℕ → Type 0) → ((i : ℕ) → Dec (P i)) → (n : ℕ) → Dec ((i : ℕ) → i < n → P i)
each_below P d zero = yes (λ i l. absurd (omega arith))
each_below P d (suc n) = Dec.of_iff (there, back) (Dec.and (d n) (each_below P d n))
  where
    there : P n × ((i : ℕ) → i < n → P i) → (i : ℕ) → i < suc n → P i
    there (p, f) i l = by_cases (dec_lt i n) (λ u. f i u) (λ u. let z : n ≡ i = omega arith in rw z at p)

    back : ((i : ℕ) → i < suc n → P i) → P n × ((i : ℕ) → i < n → P i)
    back f = (f n (omega arith), λ i l. f i (omega arith))

-- ---- truth is decided on every run that loops

module _ (r : Run) (p c : ℕ) (one : 1 ≤ c) (h : (k : ℕ) → p ≤ k → r (k + c) ≡ r k) where
  future_dec : (a : Expr) → ((k : ℕ) → Dec (Holds r a k)) → (k : ℕ) → Dec (Holds r (One Future a) k)
  future_dec a d k = Dec.of_iff (there, back) (some_below (λ (i : ℕ). (k ≤ i) × Holds r a i) (λ i. Dec.and (dec_le k i) (d i)) (max k p + c))
    where
      there : (i : ℕ) × (i < max k p + c) × ((k ≤ i) × Holds r a i) → Holds r (One Future a) k
      there (i, u, (l, t)) = (i, l, t)

      back : Holds r (One Future a) k → (i : ℕ) × (i < max k p + c) × ((k ≤ i) × Holds r a i)
      back (i, l, t) = let s = no_later a r p c one h k i l in (s.0, s.3, (s.1, s.4.0 t))

  always_dec : (a : Expr) → ((k : ℕ) → Dec (Holds r a k)) → (k : ℕ) → Dec (Holds r (One Always a) k)
  always_dec a d k = Dec.of_iff (there, back) (each_below (λ (i : ℕ). k ≤ i → Holds r a i) (λ i. dec_if (dec_le k i) (d i)) (max k p + c))
    where
      there : ((i : ℕ) → i < max k p + c → k ≤ i → Holds r a i) → Holds r (One Always a) k
      there f i l = let s = no_later a r p c one h k i l in s.4.1 (f s.0 s.3 s.1)

      back : Holds r (One Always a) k → (i : ℕ) → i < max k p + c → k ≤ i → Holds r a i
      back f i u l = f i l

  until_dec : (a b : Expr) → ((k : ℕ) → Dec (Holds r a k)) → ((k : ℕ) → Dec (Holds r b k)) → (k : ℕ) → Dec (Holds r (Two Until a b) k)
  until_dec a b d f k = Dec.of_iff (there, back) (some_below Ends ends (max k p + c))
    where
      Ends : ℕ → Type 0
      Ends i = (k ≤ i) × (Holds r b i × ((j : ℕ) → j < i → k ≤ j → Holds r a j))

      ends : (i : ℕ) → Dec (Ends i)
      ends i = Dec.and (dec_le k i) (Dec.and (f i) (each_below (λ (j : ℕ). k ≤ j → Holds r a j) (λ j. dec_if (dec_le k j) (d j)) i))

      there : (i : ℕ) × (i < max k p + c) × Ends i → Holds r (Two Until a b) k
      there (i, u, (l, (t, w))) = (i, l, t, λ j x y. w j y x)

      back : Holds r (Two Until a b) k → (i : ℕ) × (i < max k p + c) × Ends i
      back (i, l, t, w) =
          let s = no_later b r p c one h k i l in
          (s.0, s.3, (s.1, (s.4.0 t, λ j y x. w j x (omega (arith, y, s.2)))))

  decided : (e : Expr) (k : ℕ) → Dec (Holds r e k)
  decided (Const true) k = yes tt
  decided (Const false) k = no (λ x. x)
  decided (Var v) k = member_dec (r k) v
  decided (One Not a) k = Dec.not (decided a k)
  decided (One Next a) k = decided a (suc k)
  decided (One Future a) k = future_dec a (decided a) k
  decided (One Always a) k = always_dec a (decided a) k
  decided (Two And a b) k = Dec.and (decided a k) (decided b k)
  decided (Two Or a b) k = dec_or (decided a k) (decided b k)
  decided (Two Until a b) k = until_dec a b (decided a) (decided b) k
  decided (Two Weak a b) k = dec_or (until_dec a b (decided a) (decided b) k) (always_dec a (decided a) k)

-- On a run that loops every property is true or not, and it is worked out which.
pub holds_dec : (e : Expr) (r : Run) → Loops r → (k : ℕ) → Dec (Holds r e k)
holds_dec e r (p, c, one, h) k = decided r p c one h e k
