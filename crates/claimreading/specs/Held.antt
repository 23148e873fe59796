-- What the reader of claims holds of the lines so far.
use Rattle.std.specs.Prelude.{◌≡◌, List, [], ℕ, ◌+◌, ◌*◌, ◌<◌, ◌≤◌, length, Result, Ok, Err}
use Rattle.lists.specs.Lists.{padded}
use Rattle.logic.specs.Decks.{base}
use Rattle.logic.specs.Meaning.{Claim}
use Rattle.decks.specs.declared.Refusal.{Refusal}
use Rattle.decks.specs.Answers.{Outcome, Got, Refused}
use Rattle.frames.specs.Read.{ClaimSofar, ClaimDue, StatesDue, ClaimWhole}
use Rattle.claimreading.specs.declared.Held.{Held}
use Rattle.claimreading.specs.declared.Due.TheVariants.{Sizes, States, Nothing}
use Rattle.claimreading.specs.declared.ClaimRead.{ClaimRead}

-- Which frames are due, p, c, and the number of states so far.
abbrev pub held_of : ClaimSofar → Held
held_of ClaimDue = record { due = Sizes; p = 0; c = 0; count = 0 }
held_of (StatesDue m) = record { due = States; p = m.p; c = m.c; count = length m.states }
held_of (ClaimWhole m) = record { due = Nothing; p = m.p; c = m.c; count = length m.states }

-- The states so far.
abbrev pub states_of : ClaimSofar → List ℕ
states_of ClaimDue = []
states_of (StatesDue m) = m.states
states_of (ClaimWhole m) = m.states

-- The row holds the states so far, zeros behind them.
pub record HoldsStates (s : ClaimSofar) (states : List ℕ) : Type 0 where
  pub states_are : states ≡ padded (length states) (states_of s)
  pub states-fit : length (states_of s) ≤ length states

-- The row has room for every state that so many bytes can have: each takes 19 of them, and a claim has 1,024 at most.
abbrev pub RoomFor : ℕ → List ℕ → Type 0
RoomFor bytes states = (i : ℕ) → i < base.states → 19 * i + 19 ≤ bytes → i < length states

-- What a line says.
abbrev pub line_of : Outcome ClaimSofar → Result Held Refusal
line_of (Got s) = Ok (held_of s)
line_of (Refused a) = Err a

-- The states behind a line that was not refused.
abbrev pub StatesAfter : Outcome ClaimSofar → List ℕ → Type 0
StatesAfter (Got s) states = HoldsStates s states
StatesAfter (Refused a) states = Unit

-- What a line came to, with the states behind it.
pub record Came (o : Outcome ClaimSofar) (r : Result Held Refusal) (states : List ℕ) : Type 0 where
  pub line_is : r ≡ line_of o
  pub states_are : StatesAfter o states

-- What a reader of claims says.
abbrev pub claim_read : Outcome Claim → Result ClaimRead Refusal
claim_read (Got m) = Ok (record { p = m.p; c = m.c })
claim_read (Refused a) = Err a

-- The row behind a reading that was not refused: the states of the claim, zeros behind them.
abbrev pub StatesHeld : Outcome Claim → List ℕ → Type 0
StatesHeld (Got m) states = (states ≡ padded (length states) m.states) × (length m.states ≤ length states)
StatesHeld (Refused a) states = Unit

-- What a reading of a claim came to, with the row behind it.
pub record ClaimCame (o : Outcome Claim) (r : Result ClaimRead Refusal) (states : List ℕ) : Type 0 where
  pub read_is : r ≡ claim_read o
  pub row_holds : StatesHeld o states
