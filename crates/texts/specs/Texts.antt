-- What the writers of decks and claims give: texts into buffers.
use Rattle.std.specs.Prelude.{true, false, List, ℕ, ltb, length, Result, Ok, Err}
use Rattle.lists.specs.Lists.{splice}
use Rattle.logic.specs.Decks.{Deck}
use Rattle.logic.specs.Meaning.{Claim}
use Rattle.decks.specs.declared.Refusal.{Refusal}
use Rattle.decks.specs.declared.Refusal.TheVariants.{NoRoom}
use Rattle.frames.specs.Written.{deck_frames, claim_frames}

-- What is answered, the bytes written or a refusal, and the buffer afterwards.
pub record Filled : Type 0 where
  pub report : Result ℕ Refusal
  pub buffer : List ℕ

-- A text that needs more bytes than lent is 17 with the bytes needed, and no byte changes; else it stands in the buffer's first bytes.
unfoldable pub filled : List ℕ → List ℕ → Filled
filled text out =
    elim (ltb (length out) (length text)) [
      | true ↦ record { report = Err (NoRoom (length text)); buffer = out }
      | false ↦ record { report = Ok (length text); buffer = splice 0 text out }
    ]

abbrev pub deck_written : Deck → List ℕ → Filled
deck_written d out = filled (deck_frames d) out

abbrev pub claim_written : Claim → List ℕ → Filled
claim_written m out = filled (claim_frames m) out
