-- Refusals of a deck, of cards as of frames.
use mathlib.Core.Bool.{not}
use mathlib.Core.List.{List, [], ◌∷◌}
use Prim.Native.Nat.{ℕ, suc}
use native.Mathlib.Omega.{arith}
use lib.Dec.{eqb}
use lib.Count.{trailing_le}
use Rattle.lists.specs.Lists.{Each}
use Rattle.sets.specs.Sets.{without, lowest_of, width}
use Rattle.logic.specs.Decks.{Deck}
use Rattle.decks.specs.declared.Refusal.TheVariants.{NoEquation}
use Rattle.decks.specs.Answers.{Outcome, Got}
use Rattle.decks.specs.Readings.{walk, left_set, complete}
use Rattle.checking.proofs.Numbered.{Numbered, refuse-numbered, behind-numbered}

module _ {A S : Type 0} (f : ℕ → A → S → Outcome S) where
  -- One by one, where each can be told by itself.
  pub each_numbered : (P : A → Type 0) → ((n : ℕ) (x : A) (s : S) → P x → Numbered (f n x s)) → (n : ℕ) (xs : List A) (s : S) → Each P xs → Numbered (walk f n xs s)
  unfolding walk
  each_numbered P h n [] s p = tt
  each_numbered P h n (x ∷ xs) s p = behind-numbered f n xs (f n x s) (h n x s p.0) (λ t. each_numbered P h (suc n) xs t p.1)

pub complete-numbered : (d : Deck) → Numbered (complete d)
unfolding complete
complete-numbered d =
    let missing : ℕ = without d.vars (left_set d.equations) in
    refuse-numbered (not (eqb missing 0)) (NoEquation (lowest_of missing)) (Got d) (omega (arith, trailing_le width missing)) tt
