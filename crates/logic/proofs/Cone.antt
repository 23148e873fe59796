-- The cone worked out is the least closed set, the only one, and depends on the equations of its own members alone.
use mathlib.Core.Path.{◌≡◌, refl, sym, subst}
use mathlib.Core.Logic.{◌⊎◌, inl, inr, ⊎_elim}
use mathlib.Core.Bool.{Bool, true, false, false≢true}
use mathlib.Core.List.{List, [], ◌∷◌}
use Prim.Native.Nat.{ℕ, zero, suc, ◌+◌, ◌<◌, ◌≤◌}
use native.Mathlib.Omega.{arith}
use native.Mathlib.Decide.{dec_lt}
use lib.Dec.{eqb}
use lib.ListN.{length}
use borrow.Author.Tests.{eq-eqb}
use Rattle.lists.specs.Lists.{Each, ◌among◌, keep}
use Rattle.lists.proofs.Laws.{each_at, each_all, each_map, among_keep, keep_among}
use Rattle.sets.specs.Sets.{◌∋◌, ◌⊆◌, has, union, meet}
use Rattle.sets.proofs.Laws.{has_true, true_has, bit_zero, subset_refl, subset_trans, subset_antisym, union_left, union_right, union-least, meet_left, meet_right, meet-most}
use Rattle.logic.specs.Expressions.{written}
use Rattle.logic.specs.Decks.{Equation, Limits, Deck, Allowed, Accepted}
use Rattle.logic.specs.Cones.{Closed, IsCone, grown, passes, cone}

-- ---- one pass

-- If the equation's variable is in t, so is what the equation writes: Closed says this of each equation.
abbrev pub Carried : ℕ → Equation → Type 0
Carried t q = t ∋ q.left → written q.right ⊆ t

-- What comes in for one equation: w, where b says so.
abbrev brought : Bool → ℕ → ℕ → ℕ
brought b s w = elim b [ true ↦ union s w | false ↦ s ]

brought_holds : (b : Bool) (s w : ℕ) → s ⊆ brought b s w
brought_holds true s w = union_left s w
brought_holds false s w = subset_refl s

brought_takes : (b : Bool) (s w : ℕ) → b ≡ true → w ⊆ brought b s w
brought_takes true s w h = union_right s w
brought_takes false s w h = absurd (false≢true h)

brought_least : (b : Bool) (s w t : ℕ) → s ⊆ t → (b ≡ true → w ⊆ t) → brought b s w ⊆ t
brought_least true s w t f g = union-least s w t f (g refl)
brought_least false s w t f g = f

-- The set behind one equation.
abbrev entered : Equation → ℕ → ℕ
entered q s = brought (has s q.left) s (written q.right)

entered_holds : (q : Equation) (s : ℕ) → s ⊆ entered q s
entered_holds q s = brought_holds (has s q.left) s (written q.right)

pub grown-holds : (qs : List Equation) (s : ℕ) → s ⊆ grown qs s
unfolding grown
grown-holds [] s = subset_refl s
grown-holds (q ∷ qs) s = subset_trans s (entered q s) (grown qs (entered q s)) (entered_holds q s) (grown-holds qs (entered q s))

-- What the equations of the set's variables write is in behind the pass.
pub grown_takes : (qs : List Equation) (s : ℕ) → Each (λ (q : Equation). s ∋ q.left → written q.right ⊆ grown qs s) qs
unfolding grown
grown_takes [] s = tt
grown_takes (q ∷ qs) s = (
  λ h.
      subset_trans (written q.right) (entered q s) (grown qs (entered q s)) (brought_takes (has s q.left) s (written q.right) (has_true s q.left h)) (grown-holds qs (entered q s)),
  each_map
      (λ (o : Equation). entered q s ∋ o.left → written o.right ⊆ grown qs (entered q s))
      (λ (o : Equation). s ∋ o.left → written o.right ⊆ grown qs (entered q s))
      qs
      (λ o f h. f (entered_holds q s o.left h))
      (grown_takes qs (entered q s)),
)

pub grown-least : (qs : List Equation) (s t : ℕ) → s ⊆ t → Closed qs t → grown qs s ⊆ t
unfolding grown
grown-least [] s t f c = f
grown-least (q ∷ qs) s t f c =
    grown-least qs (entered q s) t (brought_least (has s q.left) s (written q.right) t f (λ h. c.0 (f q.left (true_has s q.left h)))) c.1

-- ---- as many passes as equations

pub passes-holds : (n : ℕ) (qs : List Equation) (s : ℕ) → s ⊆ passes n qs s
unfolding passes
passes-holds zero qs s = subset_refl s
passes-holds (suc n) qs s = subset_trans s (grown qs s) (passes n qs (grown qs s)) (grown-holds qs s) (passes-holds n qs (grown qs s))

pub passes-least : (n : ℕ) (qs : List Equation) (s t : ℕ) → s ⊆ t → Closed qs t → passes n qs s ⊆ t
unfolding passes
passes-least zero qs s t f c = f
passes-least (suc n) qs s t f c = passes-least n qs (grown qs s) t (grown-least qs s t f c) c

-- A closed set stays as it is.
pub passes-closed : (n : ℕ) (qs : List Equation) (s : ℕ) → Closed qs s → passes n qs s ≡ s
passes-closed n qs s c = subset_antisym (passes n qs s) s (passes-least n qs s s (subset_refl s) c) (passes-holds n qs s)

-- The number of equations whose variable is in the set.
abbrev counted : Bool → ℕ → ℕ
counted b n = elim b [ true ↦ suc n | false ↦ n ]

unfoldable live : List Equation → ℕ → ℕ
live [] s = 0
live (q ∷ qs) s = counted (has s q.left) (live qs s)

live_most : (qs : List Equation) (s : ℕ) → live qs s ≤ length qs
unfolding live
live_most [] s = omega arith
live_most (q ∷ qs) s = go (has s q.left) (live_most qs s)
  where
    go : (b : Bool) → live qs s ≤ length qs → counted b (live qs s) ≤ suc (length qs)
    go true h = omega arith
    go false h = omega arith

live_grows : (qs : List Equation) (s t : ℕ) → s ⊆ t → live qs s ≤ live qs t
unfolding live
live_grows [] s t f = omega arith
live_grows (q ∷ qs) s t f = go (has s q.left) (has t q.left) (λ h. has_true t q.left (f q.left (true_has s q.left h))) (live_grows qs s t f)
  where
    go : (a b : Bool) → (a ≡ true → b ≡ true) → live qs s ≤ live qs t → counted a (live qs s) ≤ counted b (live qs t)
    go true true f h = omega arith
    go true false f h = absurd (false≢true (f refl))
    go false true f h = omega arith
    go false false f h = h

-- A larger set with no more such equations has the same.
live_same : (qs : List Equation) (s t : ℕ) → s ⊆ t → live qs t ≤ live qs s → Each (λ (q : Equation). t ∋ q.left → s ∋ q.left) qs
unfolding live
live_same [] s t f h = tt
live_same (q ∷ qs) s t f h =
    let r = go (has s q.left) (has t q.left) (λ e. has_true t q.left (f q.left (true_has s q.left e))) h in
    (λ i. true_has s q.left (r.0 (has_true t q.left i)), live_same qs s t f r.1)
  where
    go : (a b : Bool) → (a ≡ true → b ≡ true) → counted b (live qs t) ≤ counted a (live qs s) → (b ≡ true → a ≡ true) × (live qs t ≤ live qs s)
    go true true g h = (λ e. refl, omega arith)
    go true false g h = absurd (false≢true (g refl))
    go false true g h = absurd (omega (arith, live_grows qs s t f))
    go false false g h = (λ e. e, h)

-- A pass that adds no equation's variable leaves a closed set.
grown-closed : (qs : List Equation) (s : ℕ) → live qs (grown qs s) ≤ live qs s → Closed qs (grown qs s)
grown-closed qs s h =
    each_all (Carried (grown qs s)) qs
    (λ q m i.
    each_at (λ (q : Equation). s ∋ q.left → written q.right ⊆ grown qs s) qs q (grown_takes qs s) m
    (each_at (λ (q : Equation). grown qs s ∋ q.left → s ∋ q.left) qs q (live_same qs s (grown qs s) (grown-holds qs s) h) m i))

-- A set with no equation's variable is closed.
none_closed : (qs : List Equation) (s : ℕ) → live qs s ≡ 0 → Closed qs s
none_closed qs s h =
    each_map (λ (q : Equation). s ∋ q.left → 0 ∋ q.left) (Carried s) qs
    (λ q f i. absurd (omega (arith, f i, bit_zero q.left)))
    (live_same qs 0 s (λ i z. absurd (omega (arith, z, bit_zero i))) (omega arith))

-- Each pass closes the set or adds the variable of one more equation at least.
passes_close : (n : ℕ) (qs : List Equation) (s : ℕ) → Closed qs (passes n qs s) ⊎ (n + live qs s ≤ live qs (passes n qs s))
unfolding passes
passes_close zero qs s = inr (omega arith)
passes_close (suc n) qs s = go (dec_lt (live qs s) (live qs (grown qs s))) (passes_close n qs (grown qs s))
  where
    go : Dec (live qs s < live qs (grown qs s))
        → Closed qs (passes n qs (grown qs s)) ⊎ (n + live qs (grown qs s) ≤ live qs (passes n qs (grown qs s)))
        → Closed qs (passes n qs (grown qs s)) ⊎ (suc n + live qs s ≤ live qs (passes n qs (grown qs s)))
    go d (inl c) = inl c
    go (yes l) (inr h) = inr (omega arith)
    go (no l) (inr h) =
        let c = grown-closed qs s (omega arith) in
        inl (subst (λ (t : ℕ). Closed qs t) (sym (passes-closed n qs (grown qs s) c)) c)

-- ---- the cone

pub cone-closed : (qs : List Equation) (s : ℕ) → Closed qs (cone qs s)
unfolding cone
cone-closed qs s = ⊎_elim (λ c. c) (λ h. let c = none_closed qs s (omega (arith, live_most qs (passes (length qs) qs s))) in subst (λ (t : ℕ). Closed qs t) (sym (passes-closed (length qs) qs s c)) c) (passes_close (length qs) qs s)

pub cone_is : (qs : List Equation) (s : ℕ) → IsCone qs s (cone qs s)
unfolding cone
cone_is qs s = record { holds = passes-holds (length qs) qs s; closed = cone-closed qs s; least = passes-least (length qs) qs s }

-- There is only one.
pub cone-only : (qs : List Equation) (s c c' : ℕ) → IsCone qs s c → IsCone qs s c' → c ≡ c'
cone-only qs s c c' h h' = subset_antisym c c' (h.least c' h'.holds h'.closed) (h'.least c h.holds h.closed)

pub cone-within : (qs : List Equation) (s t : ℕ) → s ⊆ t → Closed qs t → cone qs s ⊆ t
cone-within qs s t = (cone_is qs s).least t

-- The cone of some of an accepted deck's variables is among them.
pub cone_in : (L : Limits) (d : Deck) (s : ℕ) → Accepted L d → s ⊆ d.vars → cone d.equations s ⊆ d.vars
cone_in L d s a f =
    cone-within d.equations s d.vars f
    (each_map (Allowed L d.vars) (Carried d.vars) d.equations (λ q h i. h.uses) a.equations-allowed)

pub cone-grows : (qs : List Equation) (s t : ℕ) → s ⊆ t → cone qs s ⊆ cone qs t
cone-grows qs s t f = cone-within qs s (cone qs t) (subset_trans s t (cone qs t) f (cone_is qs t).holds) (cone-closed qs t)

pub cone_of_nothing : (qs : List Equation) → cone qs 0 ≡ 0
cone_of_nothing qs =
    subset_antisym (cone qs 0) 0
    (cone-within qs 0 0 (subset_refl 0) (each_all (Carried 0) qs (λ q m i. absurd (omega (arith, i, bit_zero q.left)))))
    (cone_is qs 0).holds

pub cone_of_closed : (qs : List Equation) (s : ℕ) → Closed qs s → cone qs s ≡ s
cone_of_closed qs s c = subset_antisym (cone qs s) s (cone-within qs s s (subset_refl s) c) (cone_is qs s).holds

-- The equations of one variable, in order.
abbrev pub equations_for : ℕ → List Equation → List Equation
equations_for v qs = keep (λ (q : Equation). eqb q.left v) qs

for_among : (v : ℕ) (qs qs' : List Equation) → equations_for v qs ≡ equations_for v qs' → (q : Equation) → q.left ≡ v → q among qs → q among qs'
for_among v qs qs' e q h m =
    (keep_among (λ (q : Equation). eqb q.left v) q qs'
    (subst (λ (l : List Equation). q among l) e (among_keep (λ (q : Equation). eqb q.left v) q qs (eq-eqb q.left v h) m))).0

-- The cone depends on the equations of its own members alone.
pub cone_agree : (qs qs' : List Equation) (s : ℕ) → ((v : ℕ) → cone qs s ∋ v → equations_for v qs ≡ equations_for v qs') → cone qs' s ≡ cone qs s
cone_agree qs qs' s same = cone-only qs' s (cone qs' s) (cone qs s) (cone_is qs' s) (record { holds = (cone_is qs s).holds; closed = closed; least = least })
  where
    closed : Closed qs' (cone qs s)
    closed =
        each_all (Carried (cone qs s)) qs'
        (λ q m i.
        each_at (Carried (cone qs s)) qs q (cone-closed qs s) (for_among q.left qs' qs (sym (same q.left i)) q refl m) i)

    least : (t : ℕ) → s ⊆ t → Closed qs' t → cone qs s ⊆ t
    least t f c =
        subset_trans (cone qs s) (meet t (cone qs s)) t
        (cone-within qs s (meet t (cone qs s)) (meet-most t (cone qs s) s f (cone_is qs s).holds)
        (each_all (Carried (meet t (cone qs s))) qs
        (λ q m i.
        let j = meet_right t (cone qs s) q.left i in
        meet-most t (cone qs s) (written q.right)
        (each_at (Carried t) qs' q c (for_among q.left qs qs' (same q.left j) q refl m) (meet_left t (cone qs s) q.left i))
        (each_at (Carried (cone qs s)) qs q (cone-closed qs s) m j))))
        (meet_left t (cone qs s))
