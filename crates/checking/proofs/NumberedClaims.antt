-- Every refusal of a claim has a number, and names a text and a place within it.
use mathlib.Core.Path.{◌≡◌, refl}
use mathlib.Core.Bool.{Bool, true, false, not}
use mathlib.Core.List.{List, [], ◌∷◌}
use mathlib.Core.Option.{Option, none, some}
use Prim.Native.Nat.{ℕ, ◌+◌, ◌/◌, ◌%◌, ◌≤◌}
use native.Mathlib.Omega.{arith}
use lib.Dec.{ltb, eqb, lit≤}
use lib.ListN.{length, drop}
use Rattle.lists.specs.Lists.{ended, unended, fronted}
use Rattle.sets.specs.Sets.{inside}
use Rattle.logic.specs.Decks.{base}
use Rattle.logic.specs.Meaning.{Claim}
use Rattle.decks.specs.declared.Refusal.TheVariants.{Outside, BadFrame}
use Rattle.decks.specs.Answers.{Outcome, Got, Refused}
use Rattle.decks.specs.Readings.{walk}
use Rattle.frames.specs.Hex.{number}
use Rattle.frames.specs.Written.{set_bytes, claim_kind, state_kind, claim_count_kind}
use Rattle.frames.specs.Read.{whole_number, kind_of, count_line, ClaimSofar, ClaimDue, StatesDue, ClaimWhole, sizes_line, state_line, claim_line, claim_end, read_claim}
use Rattle.checking.proofs.Numbered.{farthest, Numbered, refuse-numbered, afterwards-numbered, text-numbered, walk-numbered}

-- ---- lines

-- A text has no more lines than bytes.
fronted-long : (b : ℕ) (ls : List (List ℕ)) → length (fronted b ls) ≡ length ls
unfolding fronted
fronted-long b [] = refl
fronted-long b (l ∷ ls) = refl

pub lines_few : (text : List ℕ) → length (ended text) ≤ length text
unfolding ended
lines_few [] = lit≤ tt
lines_few (b ∷ bs) = go (eqb b 10) (lines_few bs)
  where
    go : (t : Bool) → length (ended bs) ≤ length bs → length {A = List ℕ} (elim t [ true ↦ [] ∷ ended bs | false ↦ fronted b (ended bs) ]) ≤ length (b ∷ bs)
    go true h = omega arith
    go false h = omega (arith, fronted-long b (ended bs))

-- Whichever of two ways a test takes.
pub either_numbered : {A : Type 0} (t : Bool) (x y : Outcome A) → Numbered x → Numbered y → Numbered {A = A} (elim t [ true ↦ x | false ↦ y ])
either_numbered true x y h k = h
either_numbered false x y h k = k

-- Line n of text t, where it is not as it has to be.
module _ (n t : ℕ) (its : (t ≤ 2) × (n ≤ farthest)) where
  pub number-numbered : (k : ℕ) (cs : List ℕ) → Numbered (whole_number t n k cs)
  unfolding whole_number
  number-numbered k cs = go (number k cs)
    where
      go : (o : Option ℕ) → Numbered {A = ℕ} (elim o [ none ↦ Refused (BadFrame t n) | some x ↦ Got x ])
      go none = its
      go (some x) = tt

  pub count-numbered : {S : Type 0} (cs : List ℕ) (s : S) → Numbered (count_line t n cs s)
  unfolding count_line
  count-numbered cs s = afterwards-numbered (whole_number t n 2 cs) _ (number-numbered 2 cs) (λ x. refuse-numbered (not (eqb (x + 1) n)) (BadFrame t n) (Got s) its tt)

-- ---- claims

module _ (n : ℕ) (h : n ≤ farthest) where
  -- Line n is not as it has to be.
  two : (2 ≤ 2) × (n ≤ farthest)
  two = (lit≤ tt, h)

  sizes_numbered : (cs : List ℕ) → Numbered (sizes_line n cs)
  unfolding sizes_line
  sizes_numbered cs =
      afterwards-numbered (whole_number 2 n 4 cs) _ (number-numbered n 2 two 4 cs)
      (λ x.
      refuse-numbered (eqb (x % 65536) 0) (BadFrame 2 n) _ two
      (refuse-numbered (ltb base.states (x / 65536 + x % 65536)) (BadFrame 2 n) _ two tt))

  state_numbered : (vars : ℕ) (cs : List ℕ) (m : Claim) → Numbered (state_line vars n cs m)
  unfolding state_line
  state_numbered vars cs m =
      afterwards-numbered (whole_number 2 n set_bytes cs) _ (number-numbered n 2 two set_bytes cs) (λ s. refuse-numbered (not (inside s vars)) (Outside 2 n) _ two tt)

  claim_line_numbered : (vars : ℕ) (l : List ℕ) (s : ClaimSofar) → Numbered (claim_line vars n l s)
  unfolding claim_line
  claim_line_numbered vars l ClaimDue = refuse-numbered (not (eqb (kind_of l) claim_kind)) (BadFrame 2 n) _ two (sizes_numbered (drop 2 l))
  claim_line_numbered vars l (StatesDue m) =
      either_numbered (ltb (length m.states) (m.p + m.c)) _ _
      (refuse-numbered (not (eqb (kind_of l) state_kind)) (BadFrame 2 n) _ two (state_numbered vars (drop 2 l) m))
      (refuse-numbered (not (eqb (kind_of l) claim_count_kind)) (BadFrame 2 n) _ two (count-numbered n 2 two (drop 2 l) (ClaimWhole m)))
  claim_line_numbered vars l (ClaimWhole m) = two

claim_end_numbered : (cs : List ℕ) (s : ClaimSofar) → Numbered (claim_end cs s)
unfolding claim_end
claim_end_numbered [] ClaimDue = two 0 (lit≤ tt)
claim_end_numbered [] (StatesDue m) = two 0 (lit≤ tt)
claim_end_numbered [] (ClaimWhole m) = tt
claim_end_numbered (c ∷ cs) s = two 0 (lit≤ tt)

pub claim_numbered : (vars : ℕ) (text : List ℕ) → Numbered (read_claim vars text)
unfolding read_claim
claim_numbered vars text =
    text-numbered 2 text _ (lit≤ tt)
    (λ short.
    afterwards-numbered (walk (claim_line vars) 1 (ended text) ClaimDue) _
    (walk-numbered (claim_line vars) (λ n l s h. claim_line_numbered n h vars l s) 1 (ended text) ClaimDue (omega (arith, short, lines_few text)))
    (λ s. claim_end_numbered (unended text) s))
