-- Laws of checking: the rows that a claim is checked in, and one law for each way that a check returns.
use mathlib.Core.Path.{◌≡◌, refl, sym, ap, ◌∙◌, subst}
use mathlib.Core.List.{List}
use Prim.Native.Nat.{ℕ, ◌+◌, ◌*◌, ◌<◌, ◌≤◌}
use native.Mathlib.Omega.{arith}
use lib.ListN.{length, take, replicate, length-replicate}
use lib.Seq.{length-take-le}
use Rattle.std.specs.Prelude.{Result, Ok, Err}
use Rattle.logic.specs.Decks.{Deck, Accepted, base}
use Rattle.logic.specs.Meaning.{Claim, Sized}
use Rattle.logic.specs.Verdicts.{verdict}
use Rattle.decks.specs.declared.Refusal.{Refusal}
use Rattle.decks.specs.declared.Deck.{Deck as Stored}
use Rattle.decks.specs.Answers.{Outcome, Got, Refused}
use Rattle.decks.specs.Stored.{stored}
use Rattle.decks.specs.Lent.{ReadInto}
use Rattle.decks.proofs.Outcomes.{err_eq}
use Rattle.frames.specs.Read.{read_claim}
use Rattle.frames.proofs.ClaimTheorems.{claim_read_sized}
use Rattle.truths.specs.Worked.{claim_of}
use Rattle.steps.specs.Steps.{Zeros}
use Rattle.claims.specs.Checked.{verdict_answer, claim_checked, deck_checked}
use Rattle.claims.proofs.Verdict.{claim_lent, zeros_all, zeros_part}
use Rattle.claimreading.specs.declared.ClaimRead.{ClaimRead}
use Rattle.claimreading.specs.Held.{RoomFor, claim_read, ClaimCame}
use Rattle.replies.specs.Readable.{Readable}

ok_err : {A E P : Type 0} {x : A} {a : E} → ◌≡◌ {A = Result A E} (Ok x) (Err a) → P
ok_err e = let z : ◌≡◌ {A = ℕ} 0 1 = cc in absurd (omega arith)

ok_eq : {A E : Type 0} {x y : A} → ◌≡◌ {A = Result A E} (Ok x) (Ok y) → x ≡ y
ok_eq e = cc

-- ---- claims in lent rows

-- Rows of n places are enough for a text shorter than 19 * n, and 1,024 for every text.
pub short_room : (n bytes : ℕ) → bytes < 19 * n → RoomFor bytes (replicate n 0)
short_room n bytes h i l k = omega (arith, length-replicate {A = ℕ} n 0)

pub long_room : (bytes : ℕ) → RoomFor bytes (replicate base.states 0)
long_room bytes i l k = omega (arith, length-replicate {A = ℕ} base.states 0)

-- The first of a row of zeros are zeros.
zeros_first : (k n : ℕ) (row : List ℕ) → row ≡ replicate n 0 → Zeros (take k row)
zeros_first k n row e = zeros_part k row (subst Zeros (sym e) (zeros_all n))

module _ (vars : ℕ) (claim : List ℕ) (r : Result ClaimRead Refusal) (states : List ℕ) (came : ClaimCame (read_claim vars claim) r states) where
  -- A claim that was read, with its states in the row.
  abbrev Claimed : ClaimRead → Type 0
  Claimed m = (M : Claim) × (read_claim vars claim ≡ Got M) × Sized base M × (m ≡ record { p = M.p; c = M.c }) × (claim_of m.p (take (m.p + m.c) states) ≡ M) × (m.p + m.c ≤ length states)

  pub claimed : (m : ClaimRead) → r ≡ Ok m → Claimed m
  claimed m e = go (read_claim vars claim) refl came
    where
      go : (o : Outcome Claim) → read_claim vars claim ≡ o → ClaimCame o r states → Claimed m
      go (Refused a) q h = ok_err (sym e ∙ h.read_is)
      go (Got M) q h =
          let sized = (claim_read_sized vars claim M q).0 in
          let same : m ≡ record { p = M.p; c = M.c } = ok_eq (sym e ∙ h.read_is) in (
            M,
            q,
            sized,
            same,
            ap (λ (x : ClaimRead). claim_of x.p (take (x.p + x.c) states)) same ∙ ap (λ (l : List ℕ). claim_of M.p (take (M.p + M.c) l)) h.row_holds.0 ∙ claim_lent (length states) M sized,
            omega (arith, sized.all, h.row_holds.1, ap (λ (x : ClaimRead). x.p) same, ap (λ (x : ClaimRead). x.c) same),
          )

  pub claim_refused : (a : Refusal) → r ≡ Err a → (D : Deck) → vars ≡ D.vars → Err a ≡ claim_checked D (read_claim D.vars claim)
  claim_refused a e D v = go (read_claim vars claim) came ∙ ap (λ (k : ℕ). claim_checked D (read_claim k claim)) v
    where
      go : (o : Outcome Claim) → ClaimCame o r states → Err a ≡ claim_checked D o
      go (Got M) h = ok_err (sym h.read_is ∙ e)
      go (Refused b) h = ap Err (err_eq (sym e ∙ h.read_is))

  module _ (m : ClaimRead) (e : r ≡ Ok m) where
    pub count_most : m.p + m.c ≤ base.states
    count_most = let (M, q, sized, same, its, fit) = claimed m e in omega (arith, sized.most, ap (λ (x : ClaimRead). x.p) same, ap (λ (x : ClaimRead). x.c) same)

    pub within : (n : ℕ) → length states ≡ n → m.p + m.c ≤ n
    within n l = let (M, q, sized, same, its, w) = claimed m e in omega (arith, w, l)

    -- The rows to work in, as they were lent.
    pub verdict_asked : (n : ℕ) (words marks : List ℕ) → length states ≡ n → words ≡ replicate n 0 → marks ≡ replicate n 0
        → (m.p < length (take (m.p + m.c) states))
        × Zeros (take (m.p + m.c) words)
        × Zeros (take (m.p + m.c) marks)
        × (length (take (m.p + m.c) words) ≡ length (take (m.p + m.c) states))
        × (length (take (m.p + m.c) marks) ≡ length (take (m.p + m.c) states))
    verdict_asked n words marks l w k =
        let (M, q, sized, same, its, fit) = claimed m e in
        let first : (row : List ℕ) → length row ≡ n → length (take (m.p + m.c) row) ≡ m.p + m.c = λ row h. length-take-le (m.p + m.c) row (omega (arith, h, l)) in
        let all = first states l in
        let zeros : (row : List ℕ) → row ≡ replicate n 0 → length row ≡ n = λ row h. ap (λ (x : List ℕ). length x) h ∙ length-replicate {A = ℕ} n 0 in (
          omega (arith, all, sized.some, ap (λ (x : ClaimRead). x.c) same),
          zeros_first (m.p + m.c) n words w,
          zeros_first (m.p + m.c) n marks k,
          first words (zeros words w) ∙ sym all,
          first marks (zeros marks k) ∙ sym all,
        )

    pub verdict-done : (v : Result (Unit {0}) Refusal) (D : Deck) → vars ≡ D.vars → v ≡ verdict_answer (verdict D (claim_of m.p (take (m.p + m.c) states))) → v ≡ claim_checked D (read_claim D.vars claim)
    verdict-done v D u h =
        let (M, q, sized, same, its, fit) = claimed m e in
        h ∙ ap (λ (x : Claim). verdict_answer (verdict D x)) its ∙ ap (claim_checked D) (sym q) ∙ ap (λ (k : ℕ). claim_checked D (read_claim k claim)) u

-- ---- the deck that was read

module _ (r : Result (Unit {0}) Refusal) (s : Stored) where
  pub deck_there : r ≡ Ok tt → (o : Outcome Deck) × Readable o × ReadInto o r s → (D : Deck) × Accepted base D × (s ≡ stored D)
  deck_there e (o, ok, h) = go o ok h
    where
      go : (o : Outcome Deck) → Readable o → ReadInto o r s → (D : Deck) × Accepted base D × (s ≡ stored D)
      go (Got D) ok h = (D, ok, h.stands_in)
      go (Refused a) ok h = ok_err (sym e ∙ h.said_is)

  pub deck_refused : (a : Refusal) (claim : List ℕ) → r ≡ Err a → (o : Outcome Deck) → ReadInto o r s → Err a ≡ deck_checked o claim
  deck_refused a claim e (Got D) h = ok_err (sym h.said_is ∙ e)
  deck_refused a claim e (Refused b) h = sym e ∙ h.said_is

  pub check_done : (claim : List ℕ) (v : Result (Unit {0}) Refusal) → r ≡ Ok tt
      → ((D : Deck) → Accepted base D → s ≡ stored D → v ≡ claim_checked D (read_claim D.vars claim))
      → (o : Outcome Deck)
      → Readable o
      → ReadInto o r s
      → v ≡ deck_checked o claim
  check_done claim v e g (Got D) ok h = g D ok h.stands_in
  check_done claim v e g (Refused a) ok h = ok_err (sym e ∙ h.said_is)
