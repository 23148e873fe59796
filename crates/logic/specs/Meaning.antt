-- What a property says of a run, and which runs a deck has (RULES 4).
use Rattle.std.specs.Prelude.{◌≡◌, ◌⊎◌, true, false, List, ℕ, zero, suc, ◌+◌, ◌<◌, ◌≤◌, T, ltb, length, get_or}
use Rattle.lists.specs.Lists.{Some, ◌among◌}
use Rattle.sets.specs.Sets.{bit, ◌∋◌, ◌⊆◌}
use Rattle.logic.specs.Expressions.{Expr, Const, Var, One, Two, Not, Next, Future, Always, And, Or, Until, Weak, value}
use Rattle.logic.specs.Decks.{Equation, Deck, Limits}

-- A run gives a state at every place 0, 1, 2, … and never ends.
abbrev pub Run : Type 0
Run = ℕ → ℕ

-- The property is true at place k of the run.
abbrev pub Holds : Run → Expr → ℕ → Type 0
Holds r (Const b) k = T b
Holds r (Var v) k = r k ∋ v
Holds r (One Not a) k = Holds r a k → ⊥
Holds r (One Next a) k = Holds r a (suc k)
Holds r (One Future a) k = (i : ℕ) × (k ≤ i) × Holds r a i
Holds r (One Always a) k = (i : ℕ) → k ≤ i → Holds r a i
Holds r (Two And a b) k = Holds r a k × Holds r b k
Holds r (Two Or a b) k = Holds r a k ⊎ Holds r b k
Holds r (Two Until a b) k = (i : ℕ) × (k ≤ i) × Holds r b i × ((j : ℕ) → k ≤ j → j < i → Holds r a j)
Holds r (Two Weak a b) k = ((i : ℕ) × (k ≤ i) × Holds r b i × ((j : ℕ) → k ≤ j → j < i → Holds r a j)) ⊎ ((j : ℕ) → k ≤ j → Holds r a j)

-- From state s the variable v may take the value x: one of its equations has it in s.
abbrev pub Takes : Deck → ℕ → ℕ → ℕ → Type 0
Takes d s v x = Some (λ (q : Equation). (q.left ≡ v) × (value s q.right ≡ x)) d.equations

-- A step from s to t: each variable takes the value that one of its equations has in s, chosen for each variable separately.
abbrev pub Step : Deck → ℕ → ℕ → Type 0
Step d s t = (v : ℕ) → d.vars ∋ v → Takes d s v (bit t v)

-- A run of the deck: it starts in an initial state, has no value outside the variables, and goes on by steps, each chosen anew.
pub record RunOf (d : Deck) (r : Run) : Type 0 where
  pub starts : r 0 among d.inits
  pub within : (k : ℕ) → r k ⊆ d.vars
  pub steps : (k : ℕ) → Step d (r k) (r (suc k))

-- The run ends in a repeating loop: from place p on it is the same c places later.
abbrev pub Loops : Run → Type 0
Loops r = (p : ℕ) × (c : ℕ) × (1 ≤ c) × ((k : ℕ) → p ≤ k → r (k + c) ≡ r k)

-- The run breaks the property: it is not true at place 0.
abbrev pub Breaks : Run → Expr → Type 0
Breaks r e = Holds r e 0 → ⊥

-- Some run of the deck that ends in a repeating loop breaks the deck's property.
abbrev pub Broken : Deck → Type 0
Broken d = (r : Run) × RunOf d r × Loops r × Breaks r d.property

-- A claimed run: p + c states; after the last the run returns to state p.
pub record Claim : Type 0 where
  pub p : ℕ
  pub c : ℕ
  pub states : List ℕ

-- The sizes of a claim: c is at least 1, there are p + c states, no more than allowed.
pub record Sized (L : Limits) (m : Claim) : Type 0 where
  pub some : 1 ≤ m.c
  pub all : length m.states ≡ m.p + m.c
  pub most : m.p + m.c ≤ L.states

-- State i of the claim.
abbrev pub state_of : Claim → ℕ → ℕ
state_of m i = get_or m.states i 0

-- The number of the state that follows state i: the next one, and behind the last one p.
unfoldable pub follower : Claim → ℕ → ℕ
follower m i = elim (ltb (suc i) (m.p + m.c)) [ true ↦ suc i | false ↦ m.p ]

-- Step i of the claim, from state i to the one that follows it, is a step of the deck.
abbrev pub ClaimStep : Deck → Claim → ℕ → Type 0
ClaimStep d m i = Step d (state_of m i) (state_of m (follower m i))

-- The number of the claim's state at place k of its run.
unfoldable pub position : Claim → ℕ → ℕ
position m zero = 0
position m (suc k) = follower m (position m k)

-- The claim as an infinite run.
abbrev pub claim_run : Claim → Run
claim_run m k = state_of m (position m k)
