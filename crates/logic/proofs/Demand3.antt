-- What entitles us to check the pieces and sign for the deck: runs of the deck and of its pieces, and demand 3.
use mathlib.Core.Path.{◌≡◌, refl, sym, ap, ap₂, ◌∙◌, subst}
use mathlib.Core.Logic.{inl, inr, ⊎_elim, by_cases, ◌↔◌}
use mathlib.Core.Bool.{Bool, true, false}
use mathlib.Core.List.{List, [], ◌∷◌, map, nil≢cons}
use Prim.Native.Nat.{ℕ, zero, suc, ◌+◌, ◌-◌, ◌*◌, ◌<◌, ◌≤◌, min, max}
use native.Mathlib.Omega.{arith}
use native.Mathlib.Decide.{ℕ_discrete, le_ind}
use native.Mathlib.Nat.{le_refl}
use lib.Dec.{eqb}
use borrow.Author.Tests.{eq-eqb, ne_eqb, eqb-true, eqb-false}
use Rattle.lists.specs.Lists.{Each, Some, ◌among◌, keep}
use Rattle.lists.proofs.Laws.{each_at, each_map, each_or_some, some_find, find_some, some_of_map, map-some, keep_pass, keep_fail}
use Rattle.sets.specs.Sets.{bit, ◌∋◌, ◌⊆◌, has, only, union, meet}
use Rattle.sets.proofs.Laws.{subset_le, bit-meet_in, bit_zero, bit-union, bit-only, only-bit, not_in, member_dec, has_true, has_false, subset_trans, union_left, union_right, union-least, meet_right}
use Rattle.logic.specs.Expressions.{Expr, Const, Var, One, Two, Not, Next, Future, Always, And, Or, Until, Weak, written, value}
use Rattle.logic.specs.Decks.{Equation, Deck, Limits, Allowed, Accepted}
use Rattle.logic.specs.Meaning.{Run, Holds, Takes, Step, RunOf, Loops, Breaks, Broken}
use Rattle.logic.specs.Cones.{IsCone}
use Rattle.logic.specs.Pieces.{split, cone_of, equations_of, piece, pieces}
use Rattle.logic.proofs.Truth.{only-written, holds_dec, some_below}
use Rattle.logic.proofs.Operators.{value_lt}
use Rattle.logic.proofs.Cone.{Carried, equations_for, cone_is, cone-closed, cone_in}
use Rattle.logic.proofs.Pieces.{split_and, split_parts, PartOf, piece-least, equations_kept, kept_equations, among_projected, projected_among}

-- ---- values

-- States that agree on the variables written give an expression one value.
pub value_agree : (e : Expr) (s t : ℕ) → ((v : ℕ) → written e ∋ v → bit s v ≡ bit t v) → value s e ≡ value t e
unfolding value written
value_agree (Const b) s t h = refl
value_agree (Var v) s t h = h v (bit-only v)
value_agree (One Not e) s t h = ap (λ (n : ℕ). 1 - n) (value_agree e s t h)
value_agree (One Next e) s t h = refl
value_agree (One Future e) s t h = refl
value_agree (One Always e) s t h = refl
value_agree (Two And a b) s t h =
    ap₂ (λ (m n : ℕ). min m n) (value_agree a s t (λ v i. h v (union_left (written a) (written b) v i))) (value_agree b s t (λ v i. h v (union_right (written a) (written b) v i)))
value_agree (Two Or a b) s t h =
    ap₂ (λ (m n : ℕ). max m n) (value_agree a s t (λ v i. h v (union_left (written a) (written b) v i))) (value_agree b s t (λ v i. h v (union_right (written a) (written b) v i)))
value_agree (Two Until a b) s t h = refl
value_agree (Two Weak a b) s t h = refl

-- What an equation of a cone's variable gives depends on the cone alone.
cone-value : (d : Deck) (e : Expr) (q : Equation) (s t : ℕ)
    → q among d.equations → cone_of d e ∋ q.left → ((v : ℕ) → cone_of d e ∋ v → bit s v ≡ bit t v) → value s q.right ≡ value t q.right
cone-value d e q s t m i h =
    value_agree q.right s t (λ v j. h v (each_at (Carried (cone_of d e)) d.equations q (cone-closed d.equations (written e)) m i v j))

-- ---- a run of the deck, seen on the cone

-- The run, seen on the set c.
abbrev pub seen : Run → ℕ → Run
seen r c k = meet (r k) c

-- On the cone, deck and piece give a variable the same values.
pub takes_alike : (d : Deck) (e : Expr) (s t v x : ℕ) → cone_of d e ∋ v → ((u : ℕ) → cone_of d e ∋ u → bit s u ≡ bit t u) → Takes d s v x ↔ Takes (piece d e) t v x
unfolding piece
takes_alike d e s t v x i h = (there, back)
  where
    there : Takes d s v x → Takes (piece d e) t v x
    there k =
        let f = some_find (λ (q : Equation). (q.left ≡ v) × (value s q.right ≡ x)) d.equations k in
        let j : cone_of d e ∋ f.0.left = subst (λ (u : ℕ). cone_of d e ∋ u) (sym f.2.0) i in
        find_some (λ (q : Equation). (q.left ≡ v) × (value t q.right ≡ x)) (equations_of (cone_of d e) d.equations) f.0
        (equations_kept (cone_of d e) d.equations f.0 f.1 j) (f.2.0, sym (cone-value d e f.0 s t f.1 j h) ∙ f.2.1)

    back : Takes (piece d e) t v x → Takes d s v x
    back k =
        let f = some_find (λ (q : Equation). (q.left ≡ v) × (value t q.right ≡ x)) (equations_of (cone_of d e) d.equations) k in
        let m = kept_equations (cone_of d e) d.equations f.0 f.1 in
        find_some (λ (q : Equation). (q.left ≡ v) × (value s q.right ≡ x)) d.equations f.0 m.0 (f.2.0, cone-value d e f.0 s t m.0 m.1 h ∙ f.2.1)

-- A run of the deck, seen on the cone, is a run of the piece.
pub run_seen : (L : Limits) (d : Deck) (e : Expr) → Accepted L d → written e ⊆ d.vars → (r : Run) → RunOf d r → RunOf (piece d e) (seen r (cone_of d e))
unfolding piece
run_seen L d e a w r h =
    record {
      starts = among_projected (cone_of d e) d.inits (r 0) h.starts;
      within = λ k. meet_right (r k) (cone_of d e);
      steps = λ k v i.
          (takes_alike d e (r k) (meet (r k) (cone_of d e)) v (bit (meet (r (suc k)) (cone_of d e)) v) i (λ u j. sym (bit-meet_in (r k) (cone_of d e) u j))).0
          (subst (λ (x : ℕ). Takes d (r k) v x) (sym (bit-meet_in (r (suc k)) (cone_of d e) v i)) (h.steps k v (cone_in L d (written e) a w v i)));
    }

pub loops_seen : (r : Run) (c : ℕ) → Loops r → Loops (seen r c)
loops_seen r c (p, n, l, f) = (p, n, l, λ k h. ap (λ (s : ℕ). meet s c) (f k h))

-- ---- a run of the piece, extended to the deck

-- The set of v alone where x is 1, nothing where it is not.
abbrev given : ℕ → ℕ → ℕ
given v x = elim (eqb x 1) [ true ↦ only v | false ↦ 0 ]

given_same : (v x : ℕ) → x < 2 → bit (given v x) v ≡ x
given_same v x l = go (eqb x 1) refl
  where
    go : (b : Bool) → eqb x 1 ≡ b → bit (elim b [ true ↦ only v | false ↦ 0 ]) v ≡ x
    go true e = bit-only v ∙ sym (eqb-true x 1 e)
    go false e = let n : (x ≡ 1 → ⊥) = eqb-false x 1 e in omega (arith, bit_zero v)

given_other : (v x i : ℕ) → (i ≡ v → ⊥) → bit (given v x) i ≡ 0
given_other v x i n = go (eqb x 1)
  where
    go : (b : Bool) → bit (elim b [ true ↦ only v | false ↦ 0 ]) i ≡ 0
    go true = not_in (only v) i (λ h. n (only-bit v i h))
    go false = bit_zero i

-- For each variable outside c the value that its first equation has in s.
unfoldable pub valued : ℕ → List Equation → ℕ → ℕ
valued c [] s = 0
valued c (q ∷ qs) s =
    elim (has c q.left) [
      | true ↦ valued c qs s
      | false ↦ union (given q.left (value s q.right)) (valued (union c (only q.left)) qs s)
    ]

valued_known : (c : ℕ) (q : Equation) (qs : List Equation) (s : ℕ) → c ∋ q.left → valued c (q ∷ qs) s ≡ valued c qs s
unfolding valued
valued_known c q qs s h = simp (has_true c q.left h, valued)

valued_new : (c : ℕ) (q : Equation) (qs : List Equation) (s : ℕ)
    → (c ∋ q.left → ⊥) → valued c (q ∷ qs) s ≡ union (given q.left (value s q.right)) (valued (union c (only q.left)) qs s)
unfolding valued
valued_new c q qs s h = simp (has_false c q.left h, valued)

valued_off : (c : ℕ) (qs : List Equation) (s v : ℕ) → c ∋ v → bit (valued c qs s) v ≡ 0
unfolding valued
valued_off c [] s v i = bit_zero v
valued_off c (q ∷ qs) s v i =
    by_cases
    (member_dec c q.left)
    (λ h. ap (λ (t : ℕ). bit t v) (valued_known c q qs s h) ∙ valued_off c qs s v i)
    (λ n.
    ap (λ (t : ℕ). bit t v) (valued_new c q qs s n)
    ∙ bit-union (given q.left (value s q.right)) (valued (union c (only q.left)) qs s) v
    ∙ ap₂ (λ (x y : ℕ). max x y) (given_other q.left (value s q.right) v (λ e. n (subst (λ (u : ℕ). c ∋ u) e i))) (valued_off (union c (only q.left)) qs s v (union_left c (only q.left) v i)))

valued_in : (c : ℕ) (qs : List Equation) (s t : ℕ) → Each (λ (q : Equation). t ∋ q.left) qs → valued c qs s ⊆ t
unfolding valued
valued_in c [] s t h = λ v i. absurd (omega (arith, i, bit_zero v))
valued_in c (q ∷ qs) s t h =
    by_cases
    (member_dec c q.left)
    (λ k. subst (λ (u : ℕ). u ⊆ t) (sym (valued_known c q qs s k)) (valued_in c qs s t h.1))
    (λ n.
    subst (λ (u : ℕ). u ⊆ t) (sym (valued_new c q qs s n))
    (union-least (given q.left (value s q.right)) (valued (union c (only q.left)) qs s) t
    (λ v i. by_cases (ℕ_discrete v q.left) (λ e. subst (λ (u : ℕ). t ∋ u) (sym e) h.0) (λ m. absurd (omega (arith, i, given_other q.left (value s q.right) v m))))
    (valued_in (union c (only q.left)) qs s t h.1)))

-- A variable outside c takes the value that its first equation has.
valued_first : (c : ℕ) (q : Equation) (qs : List Equation) (s : ℕ) → (c ∋ q.left → ⊥) → bit (valued c (q ∷ qs) s) q.left ≡ value s q.right
valued_first c q qs s n =
    let rest = valued (union c (only q.left)) qs s in
    ap (λ (t : ℕ). bit t q.left) (valued_new c q qs s n)
    ∙ bit-union (given q.left (value s q.right)) rest q.left
    ∙ omega (arith, given_same q.left (value s q.right) (value_lt s q.right), valued_off (union c (only q.left)) qs s q.left (union_right c (only q.left) q.left (bit-only q.left)))

valued_later : (c : ℕ) (q : Equation) (qs : List Equation) (s v : ℕ)
    → (v ≡ q.left → ⊥) → (c ∋ q.left → ⊥) → bit (valued c (q ∷ qs) s) v ≡ bit (valued (union c (only q.left)) qs s) v
valued_later c q qs s v m n =
    let rest = valued (union c (only q.left)) qs s in
    ap (λ (t : ℕ). bit t v) (valued_new c q qs s n)
    ∙ bit-union (given q.left (value s q.right)) rest v
    ∙ omega (arith, given_other q.left (value s q.right) v m)

outside : (c w v : ℕ) → (c ∋ v → ⊥) → (v ≡ w → ⊥) → union c (only w) ∋ v → ⊥
outside c w v n m i = omega (arith, i, bit-union c (only w) v, not_in c v n, not_in (only w) v (λ h. m (only-bit w v h)))

valued_takes : (c : ℕ) (qs : List Equation) (s v : ℕ)
    → (c ∋ v → ⊥) → Some (λ (q : Equation). q.left ≡ v) qs → Some (λ (q : Equation). (q.left ≡ v) × (value s q.right ≡ bit (valued c qs s) v)) qs
valued_takes c [] s v n k = elim k [ ]
valued_takes c (q ∷ qs) s v n k =
    by_cases
    (ℕ_discrete v q.left)
    (λ e. inl (sym e, sym (valued_first c q qs s (λ i. n (subst (λ (u : ℕ). c ∋ u) (sym e) i))) ∙ ap (λ (u : ℕ). bit (valued c (q ∷ qs) s) u) (sym e)))
    (λ m.
    let rest : Some (λ (o : Equation). o.left ≡ v) qs = ⊎_elim (λ e. absurd (m (sym e))) (λ j. j) k in
    inr
    (by_cases
    (member_dec c q.left)
    (λ i. subst (λ (t : ℕ). Some (λ (o : Equation). (o.left ≡ v) × (value s o.right ≡ bit t v)) qs) (sym (valued_known c q qs s i)) (valued_takes c qs s v n rest))
    (λ j.
    subst (λ (x : ℕ). Some (λ (o : Equation). (o.left ≡ v) × (value s o.right ≡ x)) qs) (sym (valued_later c q qs s v m j))
    (valued_takes (union c (only q.left)) qs s v (outside c q.left v n m) rest))))

-- The step from s that takes t's values on c: every other variable takes its first equation's value.
unfoldable pub step_with : Deck → ℕ → ℕ → ℕ → ℕ
step_with d c t s = union t (valued c d.equations s)

pub step_on : (d : Deck) (c t s v : ℕ) → c ∋ v → bit (step_with d c t s) v ≡ bit t v
unfolding step_with
step_on d c t s v i = bit-union t (valued c d.equations s) v ∙ omega (arith, valued_off c d.equations s v i)

step_off : (d : Deck) (c t s v : ℕ) → t ⊆ c → (c ∋ v → ⊥) → bit (step_with d c t s) v ≡ bit (valued c d.equations s) v
unfolding step_with
step_off d c t s v f n = bit-union t (valued c d.equations s) v ∙ omega (arith, not_in t v (λ i. n (f v i)))

valued_by_first : (c : ℕ) (qs : List Equation) (s v : ℕ) (q : Equation) (more : List Equation)
    → (c ∋ v → ⊥) → equations_for v qs ≡ q ∷ more → bit (valued c qs s) v ≡ value s q.right
unfolding keep
valued_by_first c [] s v q more n e = absurd (nil≢cons e)
valued_by_first c (o ∷ qs) s v q more n e =
    by_cases
    (ℕ_discrete v o.left)
    (λ h.
    let same : o ∷ equations_for v qs ≡ q ∷ more = sym (keep_pass (λ (x : Equation). eqb x.left v) o qs (eq-eqb o.left v (sym h))) ∙ e in
    let this : o ≡ q = cc in
    ap (bit (valued c (o ∷ qs) s)) h ∙ valued_first c o qs s (λ i. n (subst (λ (u : ℕ). c ∋ u) (sym h) i)) ∙ ap (λ (x : Equation). value s x.right) this)
    (λ m.
    let later : equations_for v qs ≡ q ∷ more = sym (keep_fail (λ (x : Equation). eqb x.left v) o qs (ne_eqb o.left v (λ h. m (sym h)))) ∙ e in
    by_cases
    (member_dec c o.left)
    (λ i. ap (λ (t : ℕ). bit t v) (valued_known c o qs s i) ∙ valued_by_first c qs s v q more n later)
    (λ j. valued_later c o qs s v m j ∙ valued_by_first (union c (only o.left)) qs s v q more (outside c o.left v n m) later))

-- Every other variable takes its first equation's value.
pub step_first : (d : Deck) (c t s v : ℕ) (q : Equation) (more : List Equation)
    → t ⊆ c → (c ∋ v → ⊥) → equations_for v d.equations ≡ q ∷ more → bit (step_with d c t s) v ≡ value s q.right
step_first d c t s v q more f n e = step_off d c t s v f n ∙ valued_by_first c d.equations s v q more n e

-- The step stays within the variables.
pub step_within : (L : Limits) (d : Deck) (c t s : ℕ) → Accepted L d → t ⊆ d.vars → step_with d c t s ⊆ d.vars
unfolding step_with
step_within L d c t s a f =
    union-least t (valued c d.equations s) d.vars f
    (valued_in c d.equations s d.vars
    (each_map (Allowed L d.vars) (λ (q : Equation). d.vars ∋ q.left) d.equations (λ q h. h.its) a.equations-allowed))

-- A step of the piece, taken along from a state that agrees on the cone, is a step of the deck.
pub step_extended : (L : Limits) (d : Deck) (e : Expr) → Accepted L d → (s t u : ℕ) → ((v : ℕ) → cone_of d e ∋ v → bit s v ≡ bit t v)
    → u ⊆ cone_of d e → Step (piece d e) t u → Step d s (step_with d (cone_of d e) u s)
unfolding piece
step_extended L d e a s t u h f g v i =
    by_cases
    (member_dec (cone_of d e) v)
    (λ j. subst (λ (x : ℕ). Takes d s v x) (sym (step_on d (cone_of d e) u s v j)) ((takes_alike d e s t v (bit u v) j h).1 (g v j)))
    (λ n. subst (λ (x : ℕ). Takes d s v x) (sym (step_off d (cone_of d e) u s v f n)) (valued_takes (cone_of d e) d.equations s v n (a.equations-all v i)))

-- general: more places than values

-- The value n is taken out: l stands for it.
abbrev instead : ℕ → ℕ → ℕ → ℕ
instead n l x = elim (eqb x n) [ true ↦ l | false ↦ x ]

instead_lt : (n l x : ℕ) → x < suc n → l < suc n → (x ≡ l → ⊥) → instead n l x < n
instead_lt n l x h k m = go (eqb x n) refl
  where
    go : (b : Bool) → eqb x n ≡ b → elim b [ true ↦ l | false ↦ x ] < n
    go true e = let q : x ≡ n = eqb-true x n e in omega arith
    go false e = let q : (x ≡ n → ⊥) = eqb-false x n e in omega arith

instead_same : (n l x y : ℕ) → (x ≡ l → ⊥) → (y ≡ l → ⊥) → instead n l x ≡ instead n l y → x ≡ y
instead_same n l x y h k = go (eqb x n) (eqb y n) refl refl
  where
    go : (a b : Bool) → eqb x n ≡ a → eqb y n ≡ b → ◌≡◌ {A = ℕ} (elim a [ true ↦ l | false ↦ x ]) (elim b [ true ↦ l | false ↦ y ]) → x ≡ y
    go true true p q e = eqb-true x n p ∙ sym (eqb-true y n q)
    go true false p q e = absurd (k (sym e))
    go false true p q e = absurd (h e)
    go false false p q e = e

pub pigeonhole : (n : ℕ) (f : ℕ → ℕ) → ((m : ℕ) → m ≤ n → f m < n) → (i : ℕ) × (j : ℕ) × (i < j) × (j ≤ n) × (f i ≡ f j)
pigeonhole zero f h = absurd (omega (arith, h 0 (le_refl 0)))
pigeonhole (suc n) f h = go (some_below (λ (i : ℕ). f i ≡ f (suc n)) (λ i. ℕ_discrete (f i) (f (suc n))) (suc n)) (pigeonhole n)
  where
    go : Dec ((i : ℕ) × (i < suc n) × (f i ≡ f (suc n)))
        → ((g : ℕ → ℕ) → ((m : ℕ) → m ≤ n → g m < n) → (i : ℕ) × (j : ℕ) × (i < j) × (j ≤ n) × (g i ≡ g j))
        → (i : ℕ) × (j : ℕ) × (i < j) × (j ≤ suc n) × (f i ≡ f j)
    go (yes (i, l, e)) ih = (i, suc n, l, le_refl (suc n), e)
    go (no none) ih =
        let (i, j, l, k, e) = ih (λ (m : ℕ). instead n (f (suc n)) (f m)) (λ m l. instead_lt n (f (suc n)) (f m) (h m (omega arith)) (h (suc n) (le_refl (suc n))) (λ q. none (m, omega arith, q))) in
        (i, j, l, omega arith, instead_same n (f (suc n)) (f i) (f j) (λ q. none (i, omega arith, q)) (λ q. none (j, omega arith, q)) e)

-- ---- the extended run

-- From s on, each state by the step that takes the values of r on c.
unfoldable pub extended : Deck → ℕ → Run → ℕ → Run
extended d c r s zero = s
extended d c r s (suc k) = step_with d c (r (suc k)) (extended d c r s k)

pub extended_agrees : (d : Deck) (c : ℕ) (r : Run) (s : ℕ) → ((v : ℕ) → c ∋ v → bit s v ≡ bit (r 0) v) → (k v : ℕ) → c ∋ v → bit (extended d c r s k) v ≡ bit (r k) v
unfolding extended
extended_agrees d c r s h zero v i = h v i
extended_agrees d c r s h (suc k) v i = step_on d c (r (suc k)) (extended d c r s k) v i

pub loop_times : (r : Run) (p c : ℕ) → ((k : ℕ) → p ≤ k → r (k + c) ≡ r k) → (n k : ℕ) → p ≤ k → r (k + n * c) ≡ r k
loop_times r p c f zero k h = ap r (omega arith)
loop_times r p c f (suc n) k h =
    let e : k + suc n * c ≡ (k + n * c) + c = omega arith in ap r e ∙ f (k + n * c) (omega arith) ∙ loop_times r p c f n k h

-- The next state is a function of r's next state and of the state: where both come again, the extended run repeats.
extended_repeats : (d : Deck) (c : ℕ) (r : Run) (s p n : ℕ) → ((k : ℕ) → p ≤ k → r (k + n) ≡ r k)
    → (i m : ℕ) → p ≤ i → extended d c r s (i + m * n) ≡ extended d c r s i → (k : ℕ) → i ≤ k → extended d c r s (k + m * n) ≡ extended d c r s k
unfolding extended
extended_repeats d c r s p n f i m h e =
    le_ind {n = i} (λ (k : ℕ). extended d c r s (k + m * n) ≡ extended d c r s k) e
    (λ k l ih.
    let q : suc k + m * n ≡ suc (k + m * n) = omega arith in
    ap (extended d c r s) q ∙ ap₂ (step_with d c) (sym (ap r q) ∙ loop_times r p n f m (suc k) (omega arith)) ih)

-- States within a set are finite in number: the extended run of a looping run loops.
pub extended_loops : (d : Deck) (c : ℕ) (r : Run) (s t : ℕ) → ((k : ℕ) → extended d c r s k ⊆ t) → Loops r → Loops (extended d c r s)
extended_loops d c r s t w (p, n, l, f) = go (pigeonhole (suc t) (λ (m : ℕ). extended d c r s (p + m * n)) (λ m h. omega (arith, subset_le (extended d c r s (p + m * n)) t (w (p + m * n)))))
  where
    go : (i : ℕ) × (j : ℕ) × (i < j) × (j ≤ suc t) × (extended d c r s (p + i * n) ≡ extended d c r s (p + j * n)) → Loops (extended d c r s)
    go (i, j, h, k, e) =
        let m = j - suc i in
        let q : j ≡ i + suc m = omega arith in
        let x : p + j * n ≡ (p + i * n) + suc m * n = ap (λ (y : ℕ). p + y * n) q ∙ omega arith in
        (p + i * n, suc m * n, omega arith, extended_repeats d c r s p n f (p + i * n) (suc m) (omega arith) (sym (ap (extended d c r s) x) ∙ sym e))

extended_within : (L : Limits) (d : Deck) (c : ℕ) (r : Run) (s : ℕ) → Accepted L d → ((k : ℕ) → r k ⊆ d.vars) → s ⊆ d.vars → (k : ℕ) → extended d c r s k ⊆ d.vars
unfolding extended
extended_within L d c r s a f g zero = g
extended_within L d c r s a f g (suc k) = step_within L d c (r (suc k)) (extended d c r s k) a (f (suc k))

-- From any initial state of the deck that is the piece's first one on the cone, a run of the piece extends to a run of the deck.
pub extended_run : (L : Limits) (d : Deck) (e : Expr) → Accepted L d → written e ⊆ d.vars → (r : Run) → RunOf (piece d e) r
    → (s : ℕ) → s among d.inits → r 0 ≡ meet s (cone_of d e) → RunOf d (extended d (cone_of d e) r s)
unfolding piece extended
extended_run L d e a w r h s m q =
    record {
      starts = m;
      within = extended_within L d (cone_of d e) r s a inside (each_at (λ (t : ℕ). t ⊆ d.vars) d.inits s a.inits_in m);
      steps = λ k. step_extended L d e a (extended d (cone_of d e) r s k) (r k) (r (suc k)) (extended_agrees d (cone_of d e) r s first k) (h.within (suc k)) (h.steps k);
    }
  where
    inside : (k : ℕ) → r k ⊆ d.vars
    inside k = subset_trans (r k) (cone_of d e) d.vars (h.within k) (cone_in L d (written e) a w)

    first : (v : ℕ) → cone_of d e ∋ v → bit s v ≡ bit (r 0) v
    first v i = sym (ap (λ (t : ℕ). bit t v) q ∙ bit-meet_in s (cone_of d e) v i)

-- A looping run of a piece extends to a looping run of the whole deck that agrees with it on the cone at every place.
pub run_extended : (L : Limits) (d : Deck) (e : Expr) → Accepted L d → written e ⊆ d.vars → (r : Run) → RunOf (piece d e) r → Loops r
    → (R : Run) × RunOf d R × Loops R × ((k v : ℕ) → cone_of d e ∋ v → bit (R k) v ≡ bit (r k) v)
unfolding piece
run_extended L d e a w r h l =
    let (s, m, q) = projected_among (cone_of d e) d.inits (r 0) h.starts in
    let run = extended_run L d e a w r h s m q in (
      extended d (cone_of d e) r s,
      run,
      extended_loops d (cone_of d e) r s d.vars run.within l,
      extended_agrees d (cone_of d e) r s (λ v i. sym (ap (λ (t : ℕ). bit t v) q ∙ bit-meet_in s (cone_of d e) v i)),
    )

-- ---- runs that break the property

-- Runs that agree on the cone give the conjunct the same truth.
cone-truth : (d : Deck) (e : Expr) (r r' : Run) → ((k v : ℕ) → cone_of d e ∋ v → bit (r k) v ≡ bit (r' k) v) → Holds r e 0 ↔ Holds r' e 0
cone-truth d e r r' h = only-written e r r' 0 (λ v k i l. h k v ((cone_is d.equations (written e)).holds v i))

-- A looping run breaks the property exactly when it breaks one of the conjuncts.
pub breaks_split : (r : Run) (e : Expr) → Loops r → Breaks r e ↔ Some (Breaks r) (split e)
breaks_split r e l = (
  λ b. ⊎_elim (λ ps. absurd (b ((split_and r e 0).1 ps))) (λ s. s) (each_or_some (λ (a : Expr). Holds r a 0) (Breaks r) (split e) (λ a. by_cases (holds_dec a r l 0) (λ h. inl h) (λ n. inr n))),
  λ s h. let f = some_find (Breaks r) (split e) s in f.2 (each_at (λ (a : Expr). Holds r a 0) (split e) f.0 ((split_and r e 0).0 h) f.1),
)

-- A conjunct is broken by a looping run of the deck exactly when its piece is broken.
pub broken_piece : (L : Limits) (d : Deck) (e : Expr) → Accepted L d → written e ⊆ d.vars → ((r : Run) × RunOf d r × Loops r × Breaks r e) ↔ Broken (piece d e)
unfolding piece
broken_piece L d e a w = (there, back)
  where
    there : (r : Run) × RunOf d r × Loops r × Breaks r e → Broken (piece d e)
    there (r, h, l, b) = (
      seen r (cone_of d e),
      run_seen L d e a w r h,
      loops_seen r (cone_of d e) l,
      λ k. b ((cone-truth d e (seen r (cone_of d e)) r (λ i v j. bit-meet_in (r i) (cone_of d e) v j)).0 k),
    )

    back : Broken (piece d e) → (r : Run) × RunOf d r × Loops r × Breaks r e
    back (r, h, l, b) = let (R, H, M, same) = run_extended L d e a w r h l in (R, H, M, λ k. b ((cone-truth d e R r same).0 k))

conjunct_in : (L : Limits) (d : Deck) (e : Expr) → Accepted L d → e among split d.property → written e ⊆ d.vars
conjunct_in L d e a m =
    subset_trans (written e) (written d.property) d.vars (each_at (PartOf d.property) (split d.property) e (split_parts d.property) m).writes a.property_in

-- ---- demand 3

-- Each reduced deck keeps the least set of variables that holds its property's variables and every variable written in an equation of one it holds.
pub demand_3_least : (d : Deck) → Each (λ (q : Deck). IsCone d.equations (written q.property) q.vars) (pieces d)
demand_3_least = piece-least

-- Some run of the whole deck that ends in a repeating loop breaks the property exactly when such a run of at least one reduced deck breaks that deck's property.
pub demand_3 : (L : Limits) (d : Deck) → Accepted L d → Broken d ↔ Some Broken (pieces d)
unfolding pieces
demand_3 L d a = (there, back)
  where
    there : Broken d → Some Broken (map (piece d) (split d.property))
    there (r, h, l, b) =
        let (e, m, k) = some_find (Breaks r) (split d.property) ((breaks_split r d.property l).0 b) in
        some_of_map (piece d) Broken (split d.property) (find_some (λ (c : Expr). Broken (piece d c)) (split d.property) e m ((broken_piece L d e a (conjunct_in L d e a m)).0 (r, h, l, k)))

    back : Some Broken (map (piece d) (split d.property)) → Broken d
    back s =
        let (e, m, k) = some_find (λ (c : Expr). Broken (piece d c)) (split d.property) (map-some (piece d) Broken (split d.property) s) in
        let (r, h, l, b) = (broken_piece L d e a (conjunct_in L d e a m)).1 k in
        (r, h, l, (breaks_split r d.property l).1 (find_some (Breaks r) (split d.property) e m b))
