-- The verdict on a claimed run (RULES 4.5, 7.5), worked out.
use Rattle.std.specs.Prelude.{Bool, true, false, List, [], ◌∷◌, ℕ, zero, suc, ◌+◌, ◌-◌, min, max, eqb}
use Rattle.lists.specs.Lists.{stands}
use Rattle.sets.specs.Sets.{bit, only, union, meet}
use Rattle.logic.specs.Expressions.{Expr, Const, Var, One, Two, Not, Next, Future, Always, And, Or, Until, Weak, digit, value}
use Rattle.logic.specs.Decks.{Equation, Deck}
use Rattle.logic.specs.Meaning.{Claim, state_of, follower}

-- Accepted; 20: the first state is not initial; 21: a step is not allowed, with the lowest such step; 22: the property holds.
pub data Verdict : Type 0 where
  Breaking NotInitial : Verdict
  NoStep : ℕ → Verdict
  Holding : Verdict

-- The values of `(aUb)` along the claim, n states deep: b, or a and the same one state on; behind the last of them stands z.
unfoldable pub unrolled : Claim → ℕ → (ℕ → ℕ) → (ℕ → ℕ) → ℕ → ℕ → ℕ
unrolled m z a b zero i = z
unrolled m z a b (suc n) i = max (b i) (min (a i) (unrolled m z a b n (follower m i)))

-- Whether the property is true where the claim's run stands in state i, 0 or 1. From any state, p + c states on all that can come have come.
unfoldable pub truth : Claim → Expr → ℕ → ℕ
truth m (Const b) i = digit b
truth m (Var v) i = bit (state_of m i) v
truth m (One Not a) i = 1 - truth m a i
truth m (One Next a) i = truth m a (follower m i)
truth m (One Future a) i = unrolled m 0 (λ j. 1) (truth m a) (m.p + m.c) i
truth m (One Always a) i = unrolled m 1 (truth m a) (λ j. 0) (m.p + m.c) i
truth m (Two And a b) i = min (truth m a i) (truth m b i)
truth m (Two Or a b) i = max (truth m a i) (truth m b i)
truth m (Two Until a b) i = unrolled m 0 (truth m a) (truth m b) (m.p + m.c) i
truth m (Two Weak a b) i = unrolled m 1 (truth m a) (truth m b) (m.p + m.c) i

-- The variables to which one of the equations gives, in s, the value that they have in t.
unfoldable pub taken : List Equation → ℕ → ℕ → ℕ
taken [] s t = 0
taken (q ∷ qs) s t = elim (eqb (value s q.right) (bit t q.left)) [ true ↦ union (only q.left) (taken qs s t) | false ↦ taken qs s t ]

-- Whether the deck allows the step from s to t: every variable is among those.
unfoldable pub allowed : Deck → ℕ → ℕ → Bool
allowed d s t = eqb (meet d.vars (taken d.equations s t)) d.vars

-- Steps i to i + n - 1 in their order, and then the property at place 0. Step i leaves state i.
unfoldable pub steps_from : Deck → Claim → ℕ → ℕ → Verdict
steps_from d m zero i = elim (eqb (truth m d.property 0) 1) [ true ↦ Holding | false ↦ Breaking ]
steps_from d m (suc n) i = elim (allowed d (state_of m i) (state_of m (follower m i))) [ true ↦ steps_from d m n (suc i) | false ↦ NoStep i ]

-- The first state, the steps with the closing one, the property: in this order.
unfoldable pub verdict : Deck → Claim → Verdict
verdict d m = elim (stands (state_of m 0) d.inits) [ true ↦ steps_from d m (m.p + m.c) 0 | false ↦ NotInitial ]
