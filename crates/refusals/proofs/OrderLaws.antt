-- Laws of conditions in an order: a reader that meets them refuses exactly where one of them is the first that holds.
use mathlib.Core.Path.{◌≡◌, refl, sym, ap, ◌∙◌, subst}
use mathlib.Core.Logic.{◌⊎◌, inl, inr, ⊎_elim, by_cases, ◌↔◌}
use mathlib.Core.Bool.{Bool, true, false}
use mathlib.Core.List.{List, [], ◌∷◌, ◌++◌}
use Prim.Native.Nat.{ℕ, zero, suc, ◌+◌, ◌<◌, ◌≤◌}
use native.Mathlib.Omega.{arith}
use lib.ListN.{length}
use native.Mathlib.Decide.{ℕ_discrete}
use Rattle.decks.specs.declared.Refusal.{Refusal}
use Rattle.decks.specs.Answers.{Outcome, Got, Refused, refuse, afterwards}
use Rattle.decks.specs.Readings.{walk}
use Rattle.decks.proofs.Outcomes.{refused_got, got_eq, walk_got, walk_refused}
use Rattle.refusals.specs.Order.{Conditions, Done, Try, FirstOf, NoneOf, followed, one_by_one, backwards, rising}

-- general:

pub true_false : {P : Type 0} → true ≡ false → P
true_false e = let z : ◌≡◌ {A = ℕ} 0 1 = cc in absurd (omega arith)

-- ---- the first that holds

-- The first that holds is one.
pub first_unique : (c : Conditions) (a b : Refusal) → FirstOf c a → FirstOf c b → a ≡ b
first_unique Done a b x'' _ = elim x'' [ ]
first_unique (Try P x cs) a b (inl (p, e)) (inl (q, f)) = e ∙ sym f
first_unique (Try P x cs) a b (inl (p, e)) (inr (n, f)) = absurd (n p)
first_unique (Try P x cs) a b (inr (n, f)) (inl (p, e)) = absurd (n p)
first_unique (Try P x cs) a b (inr (n, f)) (inr (m, g)) = first_unique cs a b f g

pub first_none : (c : Conditions) (a : Refusal) → FirstOf c a → NoneOf c → ⊥
first_none Done a x'' _ = elim x'' [ ]
first_none (Try P x cs) a (inl (p, e)) (n, ns) = n p
first_none (Try P x cs) a (inr (m, f)) (n, ns) = first_none cs a f ns

-- ---- one order behind the other

pub first-left : (c d : Conditions) (a : Refusal) → FirstOf c a → FirstOf (followed c d) a
unfolding followed
first-left Done d a x' = elim x' [ ]
first-left (Try P x cs) d a (inl h) = inl h
first-left (Try P x cs) d a (inr (n, f)) = inr (n, first-left cs d a f)

pub first-right : (c d : Conditions) (a : Refusal) → NoneOf c → FirstOf d a → FirstOf (followed c d) a
unfolding followed
first-right Done d a n f = f
first-right (Try P x cs) d a (n, ns) f = inr (n, first-right cs d a ns f)

pub none_both : (c d : Conditions) → NoneOf c → NoneOf d → NoneOf (followed c d)
unfolding followed
none_both Done d n m = m
none_both (Try P x cs) d (n, ns) m = (n, none_both cs d ns m)

none_apart : (c d : Conditions) → NoneOf (followed c d) → NoneOf c × NoneOf d
unfolding followed
none_apart Done d n = (tt, n)
none_apart (Try P x cs) d (n, ns) = let (l, r) = none_apart cs d ns in ((n, l), r)

-- ---- readers that meet conditions

-- The reader gives the answer of the first condition that holds; where none holds, a result with Q.
unfoldable pub Meets : {A : Type 0} → Conditions → (A → Type 0) → Outcome A → Type 0
Meets c Q (Got x) = NoneOf c × Q x
Meets c Q (Refused a) = FirstOf c a

-- Where none of the one conditions holds, the others decide.
pub meets_right : {B : Type 0} (c d : Conditions) (Q : B → Type 0) (r : Outcome B) → NoneOf c → Meets d Q r → Meets (followed c d) Q r
unfolding Meets
meets_right c d Q (Got x) n (m, q) = (none_both c d n m, q)
meets_right c d Q (Refused a) n f = first-right c d a n f

module _ {A : Type 0} where
  pub meets_exactly : (c : Conditions) (Q : A → Type 0) (r : Outcome A) → Meets c Q r → (a : Refusal) → (r ≡ Refused a) ↔ FirstOf c a
  unfolding Meets
  meets_exactly c Q (Got x) m a = (λ e. refused_got (sym e), λ f. absurd (first_none c a f m.0))
  meets_exactly c Q (Refused b) m a = (λ e. let same : b ≡ a = cc in subst (FirstOf c) same m, λ f. ap Refused (first_unique c b a m f))

  -- Which result comes: the one with Q, where no condition holds.
  pub meets_result : (c : Conditions) (Q : A → Type 0) (r : Outcome A) → Meets c Q r → ((x y : A) → Q x → Q y → x ≡ y) → (x : A) → (r ≡ Got x) ↔ (NoneOf c × Q x)
  unfolding Meets
  meets_result c Q (Got y) (n, q) one x = (λ e. (n, subst Q (got_eq e) q), λ (m, p). ap Got (one y x q p))
  meets_result c Q (Refused b) m one x = (λ e. refused_got e, λ (n, p). absurd (first_none c b m n))

  pub meets_is : (c : Conditions) (Q : A → Type 0) (r s : Outcome A) → r ≡ s → Meets c Q s → Meets c Q r
  meets_is c Q r s e m = subst (Meets c Q) (sym e) m

  pub meets_got : (Q : A → Type 0) (x : A) → Q x → Meets Done Q (Got x)
  unfolding Meets
  meets_got Q x q = (tt, q)

  -- A condition that holds gives its answer.
  pub meets_here : (P : Type 0) (b : Refusal) (c : Conditions) (Q : A → Type 0) → P → Meets {A = A} (Try P b c) Q (Refused b)
  unfolding Meets
  meets_here P b c Q p = inl (p, refl)

  -- One that does not leaves it to the rest.
  pub meets_past : (P : Type 0) (b : Refusal) (c : Conditions) (Q : A → Type 0) (r : Outcome A) → (P → ⊥) → Meets c Q r → Meets (Try P b c) Q r
  unfolding Meets
  meets_past P b c Q (Got x) n (m, q) = ((n, m), q)
  meets_past P b c Q (Refused a) n f = inr (n, f)

  -- A test that decides the condition.
  pub meets_test : (P : Type 0) (b : Refusal) (c : Conditions) (Q : A → Type 0) (t : Bool) (r : Outcome A) → (t ≡ true → P) → (t ≡ false → P → ⊥) → (t ≡ false → Meets c Q r) → Meets (Try P b c) Q (refuse t b r)
  unfolding Meets
  meets_test P b c Q true r y n m = inl (y refl, refl)
  meets_test P b c Q false r y n m = meets_past P b c Q r (n refl) (m refl)

  -- First the one conditions, then, from what they left, the others.
  pub meets_afterwards : {B : Type 0} (c d : Conditions) (Q : A → Type 0) (R : B → Type 0) (r : Outcome A) (f : A → Outcome B) → Meets c Q r → ((x : A) → r ≡ Got x → Q x → Meets d R (f x)) → Meets (followed c d) R (afterwards r f)
  unfolding Meets
  meets_afterwards c d Q R (Got x) f (n, q) g = meets_right c d R (f x) n (g x refl q)
  meets_afterwards c d Q R (Refused a) f m g = first-left c d a m

-- A result that no condition refuses has whatever follows from that.
pub meets_keeps : {A : Type 0} (c : Conditions) (Q R : A → Type 0) (r : Outcome A) → Meets c Q r → ((x : A) → NoneOf c → Q x → R x) → Meets c R r
unfolding Meets
meets_keeps c Q R (Got x) (n, q) f = (n, f x n q)
meets_keeps c Q R (Refused a) m f = m

-- ---- the same conditions in other words

-- The answers are the same, and so is what each condition says.
abbrev pub Alike : Conditions → Conditions → Type 0
Alike Done Done = Unit
Alike Done (Try P b ds) = ⊥
Alike (Try P a cs) Done = ⊥
Alike (Try P a cs) (Try Q b ds) = (P ↔ Q) × (a ≡ b) × Alike cs ds

pub alike_first : (c d : Conditions) (a : Refusal) → Alike c d → FirstOf c a → FirstOf d a
alike_first (Try P x cs) Done a x6 _ = elim x6 [ ]
alike_first Done d a _ x3 = elim x3 [ ]
alike_first (Try P x cs) (Try Q y ds) a (i, e, m) (inl (p, h)) = inl (i.0 p, h ∙ e)
alike_first (Try P x cs) (Try Q y ds) a (i, e, m) (inr (n, f)) = inr (λ q. n (i.1 q), alike_first cs ds a m f)

pub alike_none : (c d : Conditions) → Alike c d → NoneOf c → NoneOf d
alike_none (Try P x cs) Done m n = elim m [ ]
alike_none Done (Try Q y ds) m n = elim m [ ]
alike_none Done Done m n = tt
alike_none (Try P x cs) (Try Q y ds) (i, e, m) (n, ns) = (λ q. n (i.1 q), alike_none cs ds m ns)

pub alike_meets : {A : Type 0} (c d : Conditions) (Q : A → Type 0) (r : Outcome A) → Alike c d → Meets c Q r → Meets d Q r
unfolding Meets
alike_meets c d Q (Got x) m (n, q) = (alike_none c d m n, q)
alike_meets c d Q (Refused a) m f = alike_first c d a m f

-- ---- one by one

module _ {A S : Type 0} (f : ℕ → A → S → Outcome S) (faults : ℕ → List A → A → Conditions) (K : List A → S → Type 0) where
  -- A walk whose every member meets its conditions, from what those before it came to. Member n has n - 1 before it.
  pub meets_walk : ((back : List A) (x : A) (s : S) → K back s → Meets (faults (suc (length back)) back x) (K (x ∷ back)) (f (suc (length back)) x s))
      → (xs back : List A) (s : S)
      → K back s
      → Meets (one_by_one faults (suc (length back)) back xs) (K (backwards back xs)) (walk f (suc (length back)) xs s)
  unfolding Meets one_by_one backwards walk
  meets_walk step [] back s k = (tt, k)
  meets_walk step (x ∷ xs) back s k = go (f n x s) refl (step back x s k) (λ t h. meets_walk step xs (x ∷ back) t h)
    where
      n : ℕ
      n = suc (length back)

      rest : Conditions
      rest = one_by_one faults (suc n) (x ∷ back) xs

      Q : S → Type 0
      Q = K (backwards (x ∷ back) xs)

      go : (r : Outcome S) → f n x s ≡ r → Meets (faults n back x) (K (x ∷ back)) r → ((t : S) → K (x ∷ back) t → Meets rest Q (walk f (suc n) xs t)) → Meets (followed (faults n back x) rest) Q (walk f n (x ∷ xs) s)
      go (Got t) e (m, h) more = meets_is (followed (faults n back x) rest) Q (walk f n (x ∷ xs) s) (walk f (suc n) xs t) (walk_got f n x xs s t e) (meets_right (faults n back x) rest Q (walk f (suc n) xs t) m (more t h))
      go (Refused a) e m more = meets_is (followed (faults n back x) rest) Q (walk f n (x ∷ xs) s) (Refused a) (walk_refused f n x xs s a e) (first-left (faults n back x) rest a m)

-- ---- by rising number

pub rising-first : (P : ℕ → Type 0) (b : ℕ → Refusal) (k v w : ℕ) → v ≤ w → w < v + k → P w → ((u : ℕ) → v ≤ u → u < w → P u → ⊥) → FirstOf (rising P b k v) (b w)
unfolding rising
rising-first P b zero v w l h p n = absurd (omega arith)
rising-first P b (suc k) v w l h p n =
    by_cases
    (ℕ_discrete v w)
    (λ same. inl (subst P (sym same) p, ap b (sym same)))
    (λ other. inr (n v (omega arith) (omega arith), rising-first P b k (suc v) w (omega arith) (omega arith) p (λ u m. n u (omega arith))))

pub rising_none : (P : ℕ → Type 0) (b : ℕ → Refusal) (k v : ℕ) → ((u : ℕ) → v ≤ u → u < v + k → P u → ⊥) → NoneOf (rising P b k v)
unfolding rising
rising_none P b zero v n = tt
rising_none P b (suc k) v n = (n v (omega arith) (omega arith), rising_none P b k (suc v) (λ u l h. n u (omega arith) (omega arith)))

pub rising_alike : (P Q : ℕ → Type 0) (b : ℕ → Refusal) (k v : ℕ) → ((u : ℕ) → P u ↔ Q u) → Alike (rising P b k v) (rising Q b k v)
unfolding rising
rising_alike P Q b zero v f = tt
rising_alike P Q b (suc k) v f = (f v, refl, rising_alike P Q b k (suc v) f)

-- ---- the first in words

followed_apart : (c d : Conditions) (a : Refusal) → FirstOf (followed c d) a → FirstOf c a ⊎ (NoneOf c × FirstOf d a)
unfolding followed
followed_apart Done d a f = inr (tt, f)
followed_apart (Try P b cs) d a (inl h) = inl (inl h)
followed_apart (Try P b cs) d a (inr (n, f)) = ⊎_elim (λ g. inl (inr (n, g))) (λ (m, g). inr ((n, m), g)) (followed_apart cs d a f)

-- One order behind the other: it is the first of the one, or none of the one holds and it is the first of the other.
pub followed_exactly : (c d : Conditions) (a : Refusal) → FirstOf (followed c d) a ↔ (FirstOf c a ⊎ (NoneOf c × FirstOf d a))
followed_exactly c d a = (followed_apart c d a, ⊎_elim (first-left c d a) (λ (n, f). first-right c d a n f))

module _ {A : Type 0} (faults : ℕ → List A → A → Conditions) (a : Refusal) where
  -- One member has the first condition, and none before it has any.
  abbrev pub AtOne : ℕ → List A → List A → Type 0
  AtOne n back xs =
      (before : List A)
      × (x : A)
      × (behind : List A)
      × (xs ≡ before ++ x ∷ behind)
      × NoneOf (one_by_one faults n back before)
      × FirstOf (faults (n + length before) (backwards back before) x) a

  first_at : (xs : List A) (n : ℕ) (back : List A) → FirstOf (one_by_one faults n back xs) a → AtOne n back xs
  unfolding one_by_one backwards
  first_at [] n back f = absurd f
  first_at (x ∷ xs) n back f =
      ⊎_elim
      (λ g. let e : n ≡ n + 0 = omega arith in ([], x, xs, refl, tt, subst (λ (m : ℕ). FirstOf (faults m back x) a) e g))
      (λ (none, g).
      let (before, y, behind, e, more, h) = first_at xs (suc n) (x ∷ back) g in
      let k : suc n + length before ≡ n + length (x ∷ before) = omega arith in
      (x ∷ before, y, behind, ap (λ (l : List A). x ∷ l) e, none_both (faults n back x) _ none more, subst (λ (m : ℕ). FirstOf (faults m (backwards (x ∷ back) before) y) a) k h))
      (followed_apart (faults n back x) (one_by_one faults (suc n) (x ∷ back) xs) a f)

  at_first : (before : List A) (x : A) (behind : List A) (n : ℕ) (back : List A) → NoneOf (one_by_one faults n back before) → FirstOf (faults (n + length before) (backwards back before) x) a → FirstOf (one_by_one faults n back (before ++ x ∷ behind)) a
  unfolding one_by_one backwards
  at_first [] x behind n back none h = let e : n + 0 ≡ n = omega arith in first-left (faults n back x) _ a (subst (λ (m : ℕ). FirstOf (faults m back x) a) e h)
  at_first (y ∷ before) x behind n back none h =
      let k : n + length (y ∷ before) ≡ suc n + length before = omega arith in
      let (here, more) = none_apart (faults n back y) (one_by_one faults (suc n) (y ∷ back) before) none in
      first-right (faults n back y) _ a here (at_first before x behind (suc n) (y ∷ back) more (subst (λ (m : ℕ). FirstOf (faults m (backwards (y ∷ back) before) x) a) k h))

  pub one_by_one_exactly : (n : ℕ) (back xs : List A) → FirstOf (one_by_one faults n back xs) a ↔ AtOne n back xs
  one_by_one_exactly n back xs = (
    first_at xs n back,
    λ (before, x, behind, e, none, h). subst (λ (l : List A). FirstOf (one_by_one faults n back l) a) (sym e) (at_first before x behind n back none h),
  )

-- By rising number: it is the lowest whose condition holds.
rising_lowest : (P : ℕ → Type 0) (b : ℕ → Refusal) (k v : ℕ) (a : Refusal) → FirstOf (rising P b k v) a → (w : ℕ) × (v ≤ w) × (w < v + k) × P w × ((u : ℕ) → v ≤ u → u < w → P u → ⊥) × (a ≡ b w)
unfolding rising
rising_lowest P b zero v a f = absurd f
rising_lowest P b (suc k) v a (inl (p, e)) = (v, omega arith, omega arith, p, (λ u l h q. omega arith), e)
rising_lowest P b (suc k) v a (inr (n, f)) =
    let (w, l, h, p, low, e) = rising_lowest P b k (suc v) a f in
    (w, omega arith, omega arith, p, (λ u m i q. by_cases (ℕ_discrete u v) (λ s. n (subst P s q)) (λ o. low u (omega arith) i q)), e)

pub rising_exactly : (P : ℕ → Type 0) (b : ℕ → Refusal) (k v : ℕ) (a : Refusal)
    → FirstOf (rising P b k v) a
    ↔ ((w : ℕ) × (v ≤ w) × (w < v + k) × P w × ((u : ℕ) → v ≤ u → u < w → P u → ⊥) × (a ≡ b w))
rising_exactly P b k v a = (rising_lowest P b k v a, λ (w, l, h, p, low, e). subst (FirstOf (rising P b k v)) (sym e) (rising-first P b k v w l h p low))
