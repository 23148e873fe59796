-- Conditions in an order: which one is the first that holds.
use Rattle.std.specs.Prelude.{◌≡◌, ◌⊎◌, List, [], ◌∷◌, ℕ, zero, suc}
use Rattle.decks.specs.declared.Refusal.{Refusal}

-- Conditions, each with the answer it gives, in the order in which they count.
pub data Conditions : Type 1 where
  Done : Conditions
  Try : Type 0 → Refusal → Conditions → Conditions

-- The answer is that of the first condition that holds: it holds, and none before it does.
abbrev pub FirstOf : Conditions → Refusal → Type 0
FirstOf Done a = ⊥
FirstOf (Try P b cs) a = (P × (a ≡ b)) ⊎ ((P → ⊥) × FirstOf cs a)

-- No condition holds.
abbrev pub NoneOf : Conditions → Type 0
NoneOf Done = Unit
NoneOf (Try P b cs) = (P → ⊥) × NoneOf cs

-- The one conditions, and behind them the others.
unfoldable pub followed : Conditions → Conditions → Conditions
followed Done ds = ds
followed (Try P b cs) ds = Try P b (followed cs ds)

-- One by one from number n on: the conditions of each, from those that stand before it, the nearest first.
unfoldable pub one_by_one : {A : Type 0} → (ℕ → List A → A → Conditions) → ℕ → List A → List A → Conditions
one_by_one faults n back [] = Done
one_by_one faults n back (x ∷ xs) = followed (faults n back x) (one_by_one faults (suc n) (x ∷ back) xs)

-- All of a list in the order from the nearest back.
unfoldable pub backwards : {A : Type 0} → List A → List A → List A
backwards back [] = back
backwards back (x ∷ xs) = backwards (x ∷ back) xs

-- k conditions, one for each number from v on.
unfoldable pub rising : (ℕ → Type 0) → (ℕ → Refusal) → ℕ → ℕ → Conditions
rising P b zero v = Done
rising P b (suc k) v = Try (P v) (b v) (rising P b k (suc v))
