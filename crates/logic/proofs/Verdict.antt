-- The worked-out verdict is the meaning: accepted, 20, 21 and 22 exactly when RULES 7.2 says so.
use mathlib.Core.Path.{◌≡◌, refl, sym, ap, ◌∙◌, subst}
use mathlib.Core.Logic.Iff
use mathlib.Core.Logic.{◌⊎◌, inl, inr, ⊎_elim, ◌↔◌, by_cases}
use mathlib.Core.Bool.{Bool, true, false}
use mathlib.Core.List.{List, [], ◌∷◌}
use Prim.Native.Nat.{ℕ, zero, suc, ◌+◌, ◌-◌, ◌<◌, ◌≤◌, min, max}
use native.Mathlib.Omega.{arith}
use native.Mathlib.Nat.{le_refl}
use native.Mathlib.Decide.{dec_lt, ℕ_discrete, le_ind}
use lib.Dec.{eqb}
use borrow.Author.Tests.{eqb-true, eqb-false, eq-eqb, lt-ltb, le-ltb}
use Rattle.lists.specs.Lists.{Each, Some, ◌among◌, stands}
use Rattle.lists.proofs.Laws.{each_default, true_stands, false_stands}
use Rattle.sets.specs.Sets.{bit, ◌∋◌, ◌⊆◌, only, union, meet}
use Rattle.sets.proofs.Laws.{bit_lt, bit_zero, bit-only, only-bit, union_left, union_right, union_cases, meet_subset, subset_meet}
use Rattle.logic.specs.Expressions.{Expr, Const, Var, One, Two, Not, Next, Future, Always, And, Or, Until, Weak, value}
use Rattle.logic.specs.Decks.{Equation, Deck, Limits}
use Rattle.logic.specs.Meaning.{Holds, Step, RunOf, Loops, Breaks, Claim, Sized, state_of, follower, ClaimStep, position, claim_run}
use Rattle.logic.specs.Verdicts.{Verdict, Breaking, NotInitial, NoStep, Holding, unrolled, truth, taken, allowed, steps_from, verdict}
use Rattle.logic.proofs.Operators.{digit_not, digit_and, digit_or, future_is, weak_never}
use Rattle.logic.proofs.Truth.{no_later}

-- ---- positions

-- State i is followed by state i + 1, and the last one by state p.
pub follower_next : (m : Claim) (i : ℕ) → suc i < m.p + m.c → follower m i ≡ suc i
unfolding follower
follower_next m i l = simp (lt-ltb (suc i) (m.p + m.c) l, follower)

pub follower_last : (m : Claim) (i : ℕ) → m.p + m.c ≤ suc i → follower m i ≡ m.p
unfolding follower
follower_last m i l = simp (le-ltb (suc i) (m.p + m.c) l, follower)

pub follower_lt : (m : Claim) → 1 ≤ m.c → (i : ℕ) → follower m i < m.p + m.c
follower_lt m one i = by_cases (dec_lt (suc i) (m.p + m.c)) (λ l. omega (arith, follower_next m i l)) (λ l. omega (arith, follower_last m i (omega arith)))

module _ (L : Limits) (m : Claim) (sized : Sized L m) where
  pub position_lt : (k : ℕ) → position m k < m.p + m.c
  unfolding position
  position_lt zero = omega (arith, sized.some)
  position_lt (suc k) = follower_lt m sized.some (position m k)

  -- Place i of the run is state i, up to the last.
  pub position_is : (i : ℕ) → i < m.p + m.c → position m i ≡ i
  unfolding position
  position_is zero l = refl
  position_is (suc i) l = ap (follower m) (position_is i (omega arith)) ∙ follower_next m i l

  -- After the last state the run returns to state p.
  pub position_closes : position m (m.p + m.c) ≡ m.p
  unfolding position
  position_closes =
      let last : ℕ = m.p + m.c - 1 in
      let z : m.p + m.c ≡ suc last = omega (arith, sized.some) in
      ap (position m) z ∙ ap (follower m) (position_is last (omega arith)) ∙ follower_last m last (omega arith)

  -- From place p on the positions are the same c places later.
  pub position_later : (k : ℕ) → m.p ≤ k → position m (k + m.c) ≡ position m k
  unfolding position
  position_later =
      le_ind
      (λ (k : ℕ). position m (k + m.c) ≡ position m k)
      (position_closes ∙ sym (position_is m.p (omega (arith, sized.some))))
      (λ k l e. let z : suc k + m.c ≡ suc (k + m.c) = omega arith in ap (position m) z ∙ ap (follower m) e)

  pub claim_state : (i : ℕ) → i < m.p + m.c → claim_run m i ≡ state_of m i
  claim_state i l = ap (state_of m) (position_is i l)

  pub claim_later : (k : ℕ) → m.p ≤ k → claim_run m (k + m.c) ≡ claim_run m k
  claim_later k l = ap (state_of m) (position_later k l)

  pub claim_loops : Loops (claim_run m)
  claim_loops = (m.p, m.c, sized.some, claim_later)

-- ---- the property, worked out

-- b at a place from k and below k + n, with a up to it.
abbrev Within : (ℕ → Type 0) → (ℕ → Type 0) → ℕ → ℕ → Type 0
Within A B k n = (i : ℕ) × (k ≤ i) × (i < k + n) × B i × ((j : ℕ) → k ≤ j → j < i → A j)

-- a at every place from k and below k + n.
abbrev Throughout : (ℕ → Type 0) → ℕ → ℕ → Type 0
Throughout A k n = (j : ℕ) → k ≤ j → j < k + n → A j

module _ (A B : ℕ → Type 0) (Z : Type 0) (k n : ℕ) where
  within_on : (B k ⊎ (A k × (Within A B (suc k) n ⊎ (Z × Throughout A (suc k) n)))) ↔ (Within A B k (suc n) ⊎ (Z × Throughout A k (suc n)))
  within_on = (there, back)
    where
      from : A k → (j : ℕ) → k ≤ j → (suc k ≤ j → A j) → A j
      from t j l f = by_cases (dec_lt k j) f (λ u. let z : k ≡ j = omega arith in rw z at t)

      there : B k ⊎ (A k × (Within A B (suc k) n ⊎ (Z × Throughout A (suc k) n))) → Within A B k (suc n) ⊎ (Z × Throughout A k (suc n))
      there (inl t) = inl (k, le_refl k, omega arith, t, λ j x y. absurd (omega arith))
      there (inr (t, inl (i, l, u, w, f))) = inl (i, omega arith, omega arith, w, λ j x y. from t j x (λ v. f j v y))
      there (inr (t, inr (z, f))) = inr (z, λ j x y. from t j x (λ v. f j v (omega arith)))

      back : Within A B k (suc n) ⊎ (Z × Throughout A k (suc n)) → B k ⊎ (A k × (Within A B (suc k) n ⊎ (Z × Throughout A (suc k) n)))
      back (inl (i, l, u, w, f)) =
          by_cases
          (dec_lt k i)
          (λ v. inr (f k (le_refl k) v, inl (i, v, omega arith, w, λ j x y. f j (omega arith) y)))
          (λ v. let z : i ≡ k = omega arith in inl (rw z at w))
      back (inr (z, f)) = inr (f k (le_refl k) (omega arith), inr (z, λ j x y. f j (omega arith) (omega arith)))

module _ (m : Claim) (z : ℕ) (a b : ℕ → ℕ) (z-digit : z < 2) (a-digit : (i : ℕ) → a i < 2) (b-digit : (i : ℕ) → b i < 2) where
  unrolled_lt : (n i : ℕ) → unrolled m z a b n i < 2
  unfolding unrolled
  unrolled_lt zero i = z-digit
  unrolled_lt (suc n) i = omega (arith, a-digit i, b-digit i, unrolled_lt n (follower m i))

  -- What n states unrolled say of the run.
  unrolled_is : (A B : ℕ → Type 0) → ((k : ℕ) → A k ↔ a (position m k) ≡ 1) → ((k : ℕ) → B k ↔ b (position m k) ≡ 1) → (n k : ℕ) → (Within A B k n ⊎ ((z ≡ 1) × Throughout A k n)) ↔ unrolled m z a b n (position m k) ≡ 1
  unfolding unrolled position
  unrolled_is A B f g zero k = (⊎_elim (λ w. omega (arith, w.1, w.2)) (λ t. t.0), λ e. inr (e, λ j x y. absurd (omega arith)))
  unrolled_is A B f g (suc n) k =
      Iff.trans
      (Iff.symm (within_on A B (z ≡ 1) k n))
      (digit_or
      (b (position m k))
      (min (a (position m k)) (unrolled m z a b n (position m (suc k))))
      (b-digit (position m k))
      (omega (arith, a-digit (position m k)))
      (g k)
      (digit_and
      (a (position m k))
      (unrolled m z a b n (position m (suc k)))
      (a-digit (position m k))
      (unrolled_lt n (position m (suc k)))
      (f k)
      (unrolled_is A B f g n (suc k))))

pub truth_lt : (m : Claim) (e : Expr) (i : ℕ) → truth m e i < 2
unfolding truth
truth_lt m (Const true) i = omega arith
truth_lt m (Const false) i = omega arith
truth_lt m (Var v) i = bit_lt (state_of m i) v
truth_lt m (One Not a) i = omega arith
truth_lt m (One Next a) i = truth_lt m a (follower m i)
truth_lt m (One Future a) i = unrolled_lt m 0 (λ j. 1) (truth m a) (omega arith) (λ j. omega arith) (truth_lt m a) (m.p + m.c) i
truth_lt m (One Always a) i = unrolled_lt m 1 (truth m a) (λ j. 0) (omega arith) (truth_lt m a) (λ j. omega arith) (m.p + m.c) i
truth_lt m (Two And a b) i = omega (arith, truth_lt m a i, truth_lt m b i)
truth_lt m (Two Or a b) i = omega (arith, truth_lt m a i, truth_lt m b i)
truth_lt m (Two Until a b) i = unrolled_lt m 0 (truth m a) (truth m b) (omega arith) (truth_lt m a) (truth_lt m b) (m.p + m.c) i
truth_lt m (Two Weak a b) i = unrolled_lt m 1 (truth m a) (truth m b) (omega arith) (truth_lt m a) (truth_lt m b) (m.p + m.c) i

same-digit : (u v : ℕ) → u < 2 → v < 2 → (u ≡ 1 → v ≡ 1) → (v ≡ 1 → u ≡ 1) → u ≡ v
same-digit zero v hu hv f g = by_cases (ℕ_discrete v 1) (λ e. g e ∙ sym e) (λ n. omega arith)
same-digit (suc u) v hu hv f g = let e : suc u ≡ 1 = omega arith in e ∙ sym (f e)

module _ (L : Limits) (m : Claim) (sized : Sized L m) where
  -- From any place, p + c places on all that can come has come.
  all_comes : (e : Expr) (k i : ℕ) → k ≤ i → (j : ℕ) × (k ≤ j) × (j ≤ i) × (j < max k m.p + m.c) × (Holds (claim_run m) e i ↔ Holds (claim_run m) e j)
  all_comes e = no_later e (claim_run m) m.p m.c sized.some (claim_later L m sized)

  throughout_always : (a : Expr) (n k : ℕ) → max k m.p + m.c ≤ k + n → Throughout (Holds (claim_run m) a) k n ↔ Holds (claim_run m) (One Always a) k
  throughout_always a n k h = (λ f i l. let s = all_comes a k i l in s.4.1 (f s.0 s.1 (omega (arith, s.3))), λ f j l u. f j l)

  within_until : (a b : Expr) (n k : ℕ) → max k m.p + m.c ≤ k + n → Within (Holds (claim_run m) a) (Holds (claim_run m) b) k n ↔ Holds (claim_run m) (Two Until a b) k
  within_until a b n k h = (λ w. (w.0, w.1, w.3, w.4), λ w. let s = all_comes b k w.0 w.1 in (s.0, s.1, omega (arith, s.3), s.4.0 w.2, λ j x y. w.3 j x (omega (arith, y, s.2))))

  module _ (a b : Expr) (x y : ℕ → ℕ) (x-digit : (i : ℕ) → x i < 2) (y-digit : (i : ℕ) → y i < 2) (x-is : (k : ℕ) → Holds (claim_run m) a k ↔ x (position m k) ≡ 1) (y-is : (k : ℕ) → Holds (claim_run m) b k ↔ y (position m k) ≡ 1) where
    until_worked : (n k : ℕ) → max k m.p + m.c ≤ k + n → Holds (claim_run m) (Two Until a b) k ↔ unrolled m 0 x y n (position m k) ≡ 1
    until_worked n k h =
        let both = unrolled_is m 0 x y (omega arith) x-digit y-digit (Holds (claim_run m) a) (Holds (claim_run m) b) x-is y-is n k in
        let same = within_until a b n k h in
        (λ t. both.0 (inl (same.1 t)), λ e. ⊎_elim same.0 (λ w. absurd (omega (arith, w.0))) (both.1 e))

    weak_worked : (n k : ℕ) → max k m.p + m.c ≤ k + n → Holds (claim_run m) (Two Weak a b) k ↔ unrolled m 1 x y n (position m k) ≡ 1
    weak_worked n k h =
        let both = unrolled_is m 1 x y (omega arith) x-digit y-digit (Holds (claim_run m) a) (Holds (claim_run m) b) x-is y-is n k in
        let same = within_until a b n k h in
        let ever = throughout_always a n k h in (
          ⊎_elim (λ t. both.0 (inl (same.1 t))) (λ t. both.0 (inr (refl, ever.1 t))),
          λ e. ⊎_elim (λ w. inl (same.0 w)) (λ w. inr (ever.0 w.1)) (both.1 e),
        )

    -- Once all that can come has come, more unrolling changes nothing.
    enough : (z : ℕ) → z < 2 → (P : Type 0) (n i : ℕ) → i < m.p + m.c → (P ↔ unrolled m z x y n (position m i) ≡ 1) → (P ↔ unrolled m z x y (m.p + m.c) (position m i) ≡ 1) → unrolled m z x y n i ≡ unrolled m z x y (m.p + m.c) i
    enough z l P n i h big all =
        let e = position_is L m sized i h in
        let digits = unrolled_lt m z x y l x-digit y-digit in
        same-digit
        (unrolled m z x y n i)
        (unrolled m z x y (m.p + m.c) i)
        (digits n i)
        (digits (m.p + m.c) i)
        (λ t. rw e at (all.0 (big.1 (rw e t))))
        (λ t. rw e at (big.0 (all.1 (rw e t))))

    pub until_enough : (n i : ℕ) → i < m.p + m.c → max i m.p + m.c ≤ i + n → unrolled m 0 x y n i ≡ unrolled m 0 x y (m.p + m.c) i
    until_enough n i h l = enough 0 (omega arith) (Holds (claim_run m) (Two Until a b) i) n i h (until_worked n i l) (until_worked (m.p + m.c) i (omega arith))

    pub weak_enough : (n i : ℕ) → i < m.p + m.c → max i m.p + m.c ≤ i + n → unrolled m 1 x y n i ≡ unrolled m 1 x y (m.p + m.c) i
    weak_enough n i h l = enough 1 (omega arith) (Holds (claim_run m) (Two Weak a b) i) n i h (weak_worked n i l) (weak_worked (m.p + m.c) i (omega arith))

-- The worked-out truth is the truth.
pub truth_is : (L : Limits) (m : Claim) → Sized L m → (e : Expr) (k : ℕ) → (Holds (claim_run m) e k → truth m e (position m k) ≡ 1) × (truth m e (position m k) ≡ 1 → Holds (claim_run m) e k)
unfolding truth position
truth_is L m sized (Const true) k = (λ t. refl, λ t. tt)
truth_is L m sized (Const false) k = (λ t. absurd t, λ t. omega arith)
truth_is L m sized (Var v) k = Iff.rfl
truth_is L m sized (One Not a) k = digit_not (truth m a (position m k)) (truth_lt m a (position m k)) (truth_is L m sized a k)
truth_is L m sized (One Next a) k = truth_is L m sized a (suc k)
truth_is L m sized (One Future a) k =
    Iff.trans
    (future_is (claim_run m) k a)
    (until_worked L m sized (Const true) a (λ j. 1) (truth m a) (λ j. omega arith) (truth_lt m a) (λ j. (λ t. refl, λ t. tt)) (truth_is L m sized a) (m.p + m.c) k (omega arith))
truth_is L m sized (One Always a) k =
    Iff.trans
    (Iff.symm (weak_never (claim_run m) k a))
    (weak_worked L m sized a (Const false) (truth m a) (λ j. 0) (truth_lt m a) (λ j. omega arith) (truth_is L m sized a) (λ j. (λ t. absurd t, λ t. omega arith)) (m.p + m.c) k (omega arith))
truth_is L m sized (Two And a b) k =
    digit_and (truth m a (position m k)) (truth m b (position m k)) (truth_lt m a (position m k)) (truth_lt m b (position m k)) (truth_is L m sized a k) (truth_is L m sized b k)
truth_is L m sized (Two Or a b) k =
    digit_or (truth m a (position m k)) (truth m b (position m k)) (truth_lt m a (position m k)) (truth_lt m b (position m k)) (truth_is L m sized a k) (truth_is L m sized b k)
truth_is L m sized (Two Until a b) k =
    until_worked L m sized a b (truth m a) (truth m b) (truth_lt m a) (truth_lt m b) (truth_is L m sized a) (truth_is L m sized b) (m.p + m.c) k (omega arith)
truth_is L m sized (Two Weak a b) k =
    weak_worked L m sized a b (truth m a) (truth m b) (truth_lt m a) (truth_lt m b) (truth_is L m sized a) (truth_is L m sized b) (m.p + m.c) k (omega arith)

-- ---- the steps, worked out

-- The variables taken are those with an equation that gives the value.
pub taken_is : (qs : List Equation) (s t v : ℕ) → taken qs s t ∋ v ↔ Some (λ (q : Equation). (q.left ≡ v) × (value s q.right ≡ bit t v)) qs
unfolding taken
taken_is [] s t v = (λ h. omega (arith, bit_zero v), λ h. absurd h)
taken_is (q ∷ qs) s t v = go (eqb (value s q.right) (bit t q.left)) refl (taken_is qs s t v)
  where
    Gives : Equation → Type 0
    Gives q = (q.left ≡ v) × (value s q.right ≡ bit t v)

    go : (b : Bool) → eqb (value s q.right) (bit t q.left) ≡ b → (taken qs s t ∋ v ↔ Some Gives qs) → elim b [ true ↦ union (only q.left) (taken qs s t) | false ↦ taken qs s t ] ∋ v ↔ (Gives q ⊎ Some Gives qs)
    go true e f = (
      λ h. ⊎_elim (λ o. let z : v ≡ q.left = only-bit q.left v o in inl (sym z, eqb-true (value s q.right) (bit t q.left) e ∙ ap (bit t) (sym z))) (λ r. inr (f.0 r)) (union_cases (only q.left) (taken qs s t) v h),
      λ h. ⊎_elim (λ g. union_left (only q.left) (taken qs s t) v (subst (λ (u : ℕ). only q.left ∋ u) g.0 (bit-only q.left))) (λ r. union_right (only q.left) (taken qs s t) v (f.1 r)) h,
    )
    go false e f = (
      λ h. inr (f.0 h),
      ⊎_elim (λ g. absurd (eqb-false (value s q.right) (bit t q.left) e (g.1 ∙ ap (bit t) (sym g.0)))) f.1,
    )

-- The worked-out test of a step is the step, for every deck.
pub step_is : (d : Deck) (s t : ℕ) → allowed d s t ≡ true ↔ Step d s t
unfolding allowed
step_is d s t =
    let took = taken d.equations s t in (
      λ e v i. (taken_is d.equations s t v).0 (meet_subset d.vars took (eqb-true (meet d.vars took) d.vars e) v i),
      λ f. eq-eqb (meet d.vars took) d.vars (subset_meet d.vars took (λ v i. (taken_is d.equations s t v).1 (f v i))),
    )

-- ---- the verdict

-- What each verdict says.
abbrev Meant : Deck → Claim → Verdict → Type 0
Meant d m Breaking = RunOf d (claim_run m) × Breaks (claim_run m) d.property
Meant d m NotInitial = state_of m 0 among d.inits → ⊥
Meant d m (NoStep i) = (state_of m 0 among d.inits) × (i < m.p + m.c) × ((j : ℕ) → j < i → ClaimStep d m j) × (ClaimStep d m i → ⊥)
Meant d m Holding = RunOf d (claim_run m) × Holds (claim_run m) d.property 0

module _ (L : Limits) (d : Deck) (m : Claim) (sized : Sized L m) (inside : Each (λ (s : ℕ). s ⊆ d.vars) m.states) where
  all-steps : state_of m 0 among d.inits → ((i : ℕ) → i < m.p + m.c → ClaimStep d m i) → RunOf d (claim_run m)
  unfolding position
  all-steps s f = record {
    starts = s;
    within = λ k. each_default (λ (s : ℕ). s ⊆ d.vars) m.states (position m k) 0 inside (λ i h. absurd (omega (arith, bit_zero i)));
    steps = λ k. f (position m k) (position_lt L m sized k);
  }

  starts_of : RunOf d (claim_run m) → state_of m 0 among d.inits
  unfolding position
  starts_of r = r.starts

  steps_of : RunOf d (claim_run m) → (i : ℕ) → i < m.p + m.c → ClaimStep d m i
  unfolding position
  steps_of r i l = subst (ClaimStep d m) (position_is L m sized i l) (r.steps i)

  -- One claim has one verdict.
  meant_one : (v w : Verdict) → Meant d m v → Meant d m w → v ≡ w
  meant_one Breaking Breaking a b = refl
  meant_one Breaking NotInitial a b = absurd (b (starts_of a.0))
  meant_one Breaking (NoStep i) a b = absurd (b.3 (steps_of a.0 i b.1))
  meant_one Breaking Holding a b = absurd (a.1 b.1)
  meant_one NotInitial Breaking a b = absurd (a (starts_of b.0))
  meant_one NotInitial NotInitial a b = refl
  meant_one NotInitial (NoStep i) a b = absurd (a b.0)
  meant_one NotInitial Holding a b = absurd (a (starts_of b.0))
  meant_one (NoStep i) Breaking a b = absurd (a.3 (steps_of b.0 i a.1))
  meant_one (NoStep i) NotInitial a b = absurd (b a.0)
  meant_one (NoStep i) (NoStep j) a b =
      by_cases
      (dec_lt i j)
      (λ l. absurd (a.3 (b.2 i l)))
      (λ n. by_cases (dec_lt j i) (λ l. absurd (b.3 (a.2 j l))) (λ u. let z : i ≡ j = omega (arith, n, u) in ap NoStep z))
  meant_one (NoStep i) Holding a b = absurd (a.3 (steps_of b.0 i a.1))
  meant_one Holding Breaking a b = absurd (b.1 a.1)
  meant_one Holding NotInitial a b = absurd (b (starts_of a.0))
  meant_one Holding (NoStep i) a b = absurd (b.3 (steps_of a.0 i b.1))
  meant_one Holding Holding a b = refl

  steps_meant : state_of m 0 among d.inits → (n i : ℕ) → i + n ≡ m.p + m.c → ((j : ℕ) → j < i → ClaimStep d m j) → Meant d m (steps_from d m n i)
  unfolding steps_from position
  steps_meant s zero i e f = go (eqb (truth m d.property 0) 1) refl
    where
      run : RunOf d (claim_run m)
      run = all-steps s (λ j l. f j (omega arith))

      go : (t : Bool) → eqb (truth m d.property 0) 1 ≡ t → Meant d m (elim t [ true ↦ Holding | false ↦ Breaking ])
      go true q = (run, (truth_is L m sized d.property 0).1 (eqb-true (truth m d.property 0) 1 q))
      go false q = (run, λ h. eqb-false (truth m d.property 0) 1 q ((truth_is L m sized d.property 0).0 h))
  steps_meant s (suc n) i e f = go (allowed d (state_of m i) (state_of m (follower m i))) refl (λ g. steps_meant s n (suc i) (omega arith) g)
    where
      lower : ClaimStep d m i → (j : ℕ) → j < suc i → ClaimStep d m j
      lower t j l = by_cases (dec_lt j i) (f j) (λ u. let z : i ≡ j = omega arith in subst (ClaimStep d m) z t)

      go : (t : Bool) → allowed d (state_of m i) (state_of m (follower m i)) ≡ t → (((j : ℕ) → j < suc i → ClaimStep d m j) → Meant d m (steps_from d m n (suc i))) → Meant d m (elim t [ true ↦ steps_from d m n (suc i) | false ↦ NoStep i ])
      go true q g = g (lower ((step_is d (state_of m i) (state_of m (follower m i))).0 q))
      go false q g = (s, omega arith, f, λ t. let w = (step_is d (state_of m i) (state_of m (follower m i))).1 t in let z : ◌≡◌ {A = ℕ} 0 1 = cc in omega arith)

  meant : Meant d m (verdict d m)
  unfolding verdict
  meant = go (stands (state_of m 0) d.inits) refl
    where
      go : (t : Bool) → stands (state_of m 0) d.inits ≡ t → Meant d m (elim t [ true ↦ steps_from d m (m.p + m.c) 0 | false ↦ NotInitial ])
      go true q = steps_meant (true_stands (state_of m 0) d.inits q) (m.p + m.c) 0 (omega arith) (λ j l. absurd (omega arith))
      go false q = false_stands (state_of m 0) d.inits q

  exactly : (v : Verdict) → verdict d m ≡ v ↔ Meant d m v
  exactly v = (λ e. subst (Meant d m) e meant, λ h. meant_one (verdict d m) v meant h)

  -- A claim is accepted exactly when its run is a run of the deck and breaks the property.
  pub accepted_exactly_when : verdict d m ≡ Breaking ↔ (RunOf d (claim_run m) × Breaks (claim_run m) d.property)
  accepted_exactly_when = exactly Breaking

  -- 20 exactly when the first state is not initial.
  pub refused_20_exactly_when : verdict d m ≡ NotInitial ↔ (state_of m 0 among d.inits → ⊥)
  refused_20_exactly_when = exactly NotInitial

  -- 21 at i exactly when the first state is initial and i is the lowest step that the deck does not allow.
  pub refused_21_exactly_when : (i : ℕ) → verdict d m ≡ NoStep i ↔ ((state_of m 0 among d.inits) × (i < m.p + m.c) × ((j : ℕ) → j < i → ClaimStep d m j) × (ClaimStep d m i → ⊥))
  refused_21_exactly_when i = exactly (NoStep i)

  -- 22 exactly when the run is a run of the deck and the property holds on it.
  pub refused_22_exactly_when : verdict d m ≡ Holding ↔ (RunOf d (claim_run m) × Holds (claim_run m) d.property 0)
  refused_22_exactly_when = exactly Holding
