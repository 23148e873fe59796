-- 15 is given exactly where a variable has no equation, and names the lowest.
use mathlib.Core.Path.{◌≡◌, refl, sym, subst}
use Prim.Native.Nat.{ℕ, ◌^◌, ◌<◌}
use native.Mathlib.Omega.{arith}
use Rattle.sets.specs.Sets.{◌∋◌}
use Rattle.sets.proofs.Laws.{member_lt}
use Rattle.logic.specs.Decks.{Deck, base}
use Rattle.decks.specs.declared.Refusal.TheVariants.{NoEquation}
use Rattle.decks.specs.Answers.{Outcome, Got, Refused}
use Rattle.decks.specs.Readings.{complete}
use Rattle.decks.proofs.Complete.{HasEquation, all-complete, refused_lowest}
use Rattle.refusals.specs.Order.{FirstOf, rising}
use Rattle.refusals.proofs.OrderLaws.{Meets, rising-first, rising_none}

-- Vv is a variable of the deck and has no equation.
abbrev pub Without : Deck → ℕ → Type 0
Without d v = (d.vars ∋ v) × (HasEquation d.equations v → ⊥)

pub complete_meets : (d : Deck) → d.vars < 2 ^ base.variables → Meets (rising (Without d) NoEquation base.variables 0) (λ e. e ≡ d) (complete d)
unfolding Meets
complete_meets d h = go (complete d) refl
  where
    go : (r : Outcome Deck) → complete d ≡ r → Meets (rising (Without d) NoEquation base.variables 0) (λ e. e ≡ d) r
    go (Got e) p = let (same, all) = all-complete d e p in (rising_none (Without d) NoEquation base.variables 0 (λ v l h (m, n). n (all v m)), sym same)
    go (Refused a) p =
        let (v, e, (m, n, low)) = refused_lowest d a h p in
        subst (FirstOf (rising (Without d) NoEquation base.variables 0)) (sym e)
        (rising-first (Without d) NoEquation base.variables 0 v (omega arith) (member_lt base.variables d.vars v h m) (m, n) (λ w l k (i, j). j (low w k i)))
