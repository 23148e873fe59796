-- Claims there and back: a written claim reads as that claim; what reads as a claim is that claim written, with its sizes and within the variables.
use mathlib.Core.Path.{◌≡◌, ap, ◌∙◌}
use mathlib.Core.Logic.{◌↔◌}
use mathlib.Core.List.{List, []}
use Prim.Native.Nat.{ℕ, ◌^◌, ◌<◌}
use borrow.Author.Tests.{lt-ltb, le-ltb}
use lib.ListN.{length}
use Rattle.lists.specs.Lists.{Each, ended, unended}
use Rattle.lists.proofs.Laws.{ended-joined, unended-joined}
use Rattle.sets.specs.Sets.{◌⊆◌}
use Rattle.logic.specs.Decks.{base}
use Rattle.logic.specs.Meaning.{Claim, Sized}
use Rattle.decks.specs.declared.Refusal.TheVariants.{TooLong}
use Rattle.decks.specs.Answers.{Got, Refused}
use Rattle.frames.specs.Written.{claim_frames}
use Rattle.frames.specs.Read.{claim_end, read_claim}
use Rattle.decks.proofs.Outcomes.{got_given}
use Rattle.frames.proofs.SizeLaws.{claim_within-text}
use Rattle.frames.proofs.ClaimLaws.{claim_lines, claim_frames_joined, claim_lines_free, claim_walk, Returns, claim_given}

-- A written claim within the variables reads as that claim.
pub claim_written_read : (vars : ℕ) (m : Claim)
    → vars < 2 ^ base.variables
    → Sized base m
    → Each (λ (s : ℕ). s ⊆ vars) m.states
    → read_claim vars (claim_frames m) ≡ Got m
unfolding read_claim claim_end
claim_written_read vars m small ok within =
    let lines : ended (claim_frames m) ≡ claim_lines m = ap ended (claim_frames_joined m) ∙ ended-joined (claim_lines m) (claim_lines_free m) in
    let none : unended (claim_frames m) ≡ [] = ap unended (claim_frames_joined m) ∙ unended-joined (claim_lines m) in
    simp (le-ltb base.text (length (claim_frames m)) (claim_within-text m ok), lines, claim_walk vars small m ok within, none)

-- What reads as a claim is that claim written.
pub claim_read_written : (vars : ℕ) (t : List ℕ) (m : Claim) → read_claim vars t ≡ Got m → t ≡ claim_frames m
claim_read_written vars t m e = (got_given (Returns vars t) (read_claim vars t) m (claim_given vars t) e).0

-- What reads as a claim has a claim's sizes, and its states are within the variables.
pub claim_read_sized : (vars : ℕ) (t : List ℕ) (m : Claim) → read_claim vars t ≡ Got m → Sized base m × Each (λ (s : ℕ). s ⊆ vars) m.states
claim_read_sized vars t m e = let r = got_given (Returns vars t) (read_claim vars t) m (claim_given vars t) e in (r.1, r.2)

-- 1 goes before everything else.
pub claim_too_long : (vars : ℕ) (t : List ℕ) → base.text < length t → read_claim vars t ≡ Refused (TooLong 2)
unfolding read_claim
claim_too_long vars t h = simp (lt-ltb base.text (length t) h, read_claim)

-- A text reads as a claim exactly when it is the claim's frames and the claim keeps its sizes and the variables.
pub claim_read_exactly_when : (vars : ℕ) (t : List ℕ) (m : Claim)
    → vars < 2 ^ base.variables
    → (read_claim vars t ≡ Got m) ↔ ((t ≡ claim_frames m) × Sized base m × Each (λ (s : ℕ). s ⊆ vars) m.states)
claim_read_exactly_when vars t m small = (
  got_given (Returns vars t) (read_claim vars t) m (claim_given vars t),
  λ r. ap (read_claim vars) r.0 ∙ claim_written_read vars m small r.1 r.2,
)
