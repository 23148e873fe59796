-- The conditions of a claim in frames in the order of RULES 7.4.
use Rattle.std.specs.Prelude.{◌≡◌, ◌⊎◌, List, [], ◌∷◌, ◌++◌, ℕ, suc, ◌+◌, ◌^◌, ◌<◌, ◌≤◌, length}
use Rattle.lists.specs.Lists.{ended, unended}
use Rattle.sets.specs.Sets.{◌⊆◌}
use Rattle.logic.specs.Decks.{base}
use Rattle.logic.specs.Meaning.{Claim}
use Rattle.decks.specs.declared.Refusal.TheVariants.{TooLong, BadFrame, Outside}
use Rattle.frames.specs.Hex.{pair, pairs}
use Rattle.frames.specs.Written.{set_bytes, claim_kind, state_kind, claim_count_kind}
use Rattle.frames.specs.Read.{ClaimSofar, ClaimDue, StatesDue, ClaimWhole}
use Rattle.refusals.specs.Order.{Conditions, Done, Try, followed, one_by_one, backwards}

-- What a line holds: 11 with p and c; behind the claim so far, 12 with a state, or 15 with a count.
pub data ClaimFrame : Type 0 where
  Sizes : ℕ → ℕ → ClaimFrame
  State : Claim → ℕ → ClaimFrame
  Closing : Claim → ℕ → ClaimFrame

-- Line n is a frame that may stand here, and holds this: c at least 1 and p+c at most 1,024; p+c states; and then the number of frames before it.
abbrev pub Holds : ClaimSofar → ℕ → List ℕ → ClaimFrame → Type 0
Holds so n l (Sizes p c) = (so ≡ ClaimDue) × (l ≡ pair claim_kind ++ (pairs 2 p ++ pairs 2 c)) × (p < 256 ^ 2) × (c < 256 ^ 2) × (1 ≤ c) × (p + c ≤ base.states)
Holds so n l (State m s) = (so ≡ StatesDue m) × (length m.states < m.p + m.c) × (l ≡ pair state_kind ++ pairs set_bytes s) × (s < 256 ^ set_bytes)
Holds so n l (Closing m x) = (so ≡ StatesDue m) × (m.p + m.c ≤ length m.states) × (l ≡ pair claim_count_kind ++ pairs 2 x) × (x < 256 ^ 2) × (x + 1 ≡ n)

-- The claim with it.
abbrev pub added : ClaimFrame → ClaimSofar
added (Sizes p c) = StatesDue (record { p = p; c = c; states = [] })
added (State m s) = StatesDue (record { p = m.p; c = m.c; states = m.states ++ (s ∷ []) })
added (Closing m x) = ClaimWhole m

-- 9: a state bit outside the deck's set.
abbrev pub UsesOutside : ℕ → ClaimFrame → Type 0
UsesOutside vars (Sizes p c) = ⊥
UsesOutside vars (State m s) = s ⊆ vars → ⊥
UsesOutside vars (Closing m x) = ⊥

-- The lines, the nearest first, are each a frame that may stand there and without a fault, and the claim so far is this.
abbrev pub Framing : ℕ → List (List ℕ) → ClaimSofar → Type 0
Framing vars [] so = so ≡ ClaimDue
Framing vars (l ∷ back) so =
    (was : ClaimSofar) × (f : ClaimFrame) × Framing vars back was × Holds was (suc (length back)) l f × (UsesOutside vars f → ⊥) × (so ≡ added f)

-- The claim of the lines before it has P.
abbrev pub Behind : ℕ → List (List ℕ) → (ClaimSofar → Type 0) → Type 0
Behind vars back P = (so : ClaimSofar) × Framing vars back so × P so

-- Line n behind those given: 16, then 9.
abbrev pub claim_faults : ℕ → ℕ → List (List ℕ) → List ℕ → Conditions
claim_faults vars n back l =
    Try (Behind vars back (λ so. (f : ClaimFrame) → Holds so (suc (length back)) l f → ⊥)) (BadFrame 2 n)
    (Try (Behind vars back (λ so. (f : ClaimFrame) × Holds so (suc (length back)) l f × UsesOutside vars f)) (Outside 2 n) Done)

-- 16 at place 0: a line without byte 10 stands behind the others, or another frame is due.
abbrev pub ClaimEndsEarly : ℕ → List ℕ → Type 0
ClaimEndsEarly vars text = (unended text ≡ [] → ⊥) ⊎ Behind vars (backwards [] (ended text)) (λ so. (m : Claim) → so ≡ ClaimWhole m → ⊥)

-- 1; line by line 16, then 9; 16 for an early end.
abbrev pub claim_order : ℕ → List ℕ → Conditions
claim_order vars text =
    Try (base.text < length text) (TooLong 2) (followed (one_by_one (claim_faults vars) 1 [] (ended text)) (Try (ClaimEndsEarly vars text) (BadFrame 2 0) Done))

-- Its lines give this claim.
abbrev pub Gives : ℕ → List ℕ → Claim → Type 0
Gives vars text m = Behind vars (backwards [] (ended text)) (λ so. so ≡ ClaimWhole m)
