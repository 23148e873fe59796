-- A claim checked against a deck, from their texts: the deck's refusals, then the claim's, then 20, 21, 22, or accepted (RULES 7.5).
use Rattle.std.specs.Prelude.{List, ℕ, Result, Ok, Err}
use Rattle.logic.specs.Decks.{Deck}
use Rattle.logic.specs.Meaning.{Claim}
use Rattle.logic.specs.Verdicts.{Verdict, Breaking, NotInitial as NotInitialState, NoStep as NoSuchStep, Holding as HoldingProperty, verdict}
use Rattle.decks.specs.declared.Refusal.{Refusal}
use Rattle.decks.specs.declared.Refusal.TheVariants.{NotInitial, NoStep, Holding}
use Rattle.decks.specs.Answers.{Outcome, Got, Refused}
use Rattle.frames.specs.Read.{read_deck, read_claim}

-- What a verdict comes to: accepted, or its refusal.
abbrev pub verdict_answer : Verdict → Result (Unit {0}) Refusal
verdict_answer Breaking = Ok tt
verdict_answer NotInitialState = Err NotInitial
verdict_answer (NoSuchStep i) = Err (NoStep i)
verdict_answer HoldingProperty = Err Holding

-- The claim's text, once the deck is read.
abbrev pub claim_checked : Deck → Outcome Claim → Result (Unit {0}) Refusal
claim_checked d (Got m) = verdict_answer (verdict d m)
claim_checked d (Refused a) = Err a

abbrev pub deck_checked : Outcome Deck → List ℕ → Result (Unit {0}) Refusal
deck_checked (Got d) claim = claim_checked d (read_claim d.vars claim)
deck_checked (Refused a) claim = Err a

-- A deck goes before a claim, and both before 20, 21, 22.
unfoldable pub checked : List ℕ → List ℕ → Result (Unit {0}) Refusal
checked deck claim = deck_checked (read_deck deck) claim
