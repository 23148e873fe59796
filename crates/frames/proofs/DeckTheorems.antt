-- Frames there and back: a written accepted deck reads as that deck; what reads as a deck is that deck written, and the deck is accepted.
use mathlib.Core.Path.{◌≡◌, sym, ap, ◌∙◌}
use mathlib.Core.Logic.{◌↔◌}
use mathlib.Core.List.{List, []}
use Prim.Native.Nat.{ℕ, ◌<◌}
use borrow.Author.Tests.{lt-ltb, le-ltb}
use lib.ListN.{length}
use Rattle.lists.specs.Lists.{ended, unended}
use Rattle.lists.proofs.Laws.{ended-joined, unended-joined}
use Rattle.logic.specs.Decks.{Deck, Accepted, base}
use Rattle.decks.specs.declared.Refusal.TheVariants.{TooLong}
use Rattle.decks.specs.Answers.{Got, Refused}
use Rattle.frames.specs.Written.{deck_frames}
use Rattle.frames.specs.Read.{deck_end, read_deck}
use Rattle.decks.proofs.Outcomes.{got_given}
use Rattle.decks.proofs.Complete.{complete-all}
use Rattle.frames.proofs.SizeLaws.{deck-within-text}
use Rattle.frames.proofs.DeckLaws.{deck_lines, deck_frames_joined, deck_lines_free}
use Rattle.frames.proofs.DeckWritten.{deck-walk}
use Rattle.frames.proofs.DeckRead.{Returns, deck_given}

-- A written accepted deck reads as that deck.
pub deck-written_read : (d : Deck) → Accepted base d → read_deck (deck_frames d) ≡ Got d
unfolding read_deck deck_end
deck-written_read d ok =
    let lines : ended (deck_frames d) ≡ deck_lines d = ap ended (deck_frames_joined d) ∙ ended-joined (deck_lines d) (deck_lines_free d) in
    let none : unended (deck_frames d) ≡ [] = ap unended (deck_frames_joined d) ∙ unended-joined (deck_lines d) in
    simp (
      le-ltb base.text (length (deck_frames d)) (deck-within-text d ok),
      lines,
      deck-walk d ok,
      none,
      complete-all d ok.equations-all,
    )

-- What reads as a deck is that deck written.
pub deck_read_written : (t : List ℕ) (d : Deck) → read_deck t ≡ Got d → t ≡ deck_frames d
deck_read_written t d e = (got_given (Returns t) (read_deck t) d (deck_given t) e).0

-- What reads as a deck is accepted.
pub deck_read_accepted : (t : List ℕ) (d : Deck) → read_deck t ≡ Got d → Accepted base d
deck_read_accepted t d e = (got_given (Returns t) (read_deck t) d (deck_given t) e).1

-- 1 goes before everything else.
pub deck_too_long : (t : List ℕ) → base.text < length t → read_deck t ≡ Refused (TooLong 1)
unfolding read_deck
deck_too_long t h = simp (lt-ltb base.text (length t) h, read_deck)

-- A text reads as a deck exactly when it is the deck's frames and the deck is accepted.
pub deck_read_exactly_when : (t : List ℕ) (d : Deck) → (read_deck t ≡ Got d) ↔ ((t ≡ deck_frames d) × Accepted base d)
deck_read_exactly_when t d = (got_given (Returns t) (read_deck t) d (deck_given t), λ r. ap read_deck r.0 ∙ deck-written_read d r.1)

-- Two accepted decks with the same frames are one deck.
pub deck_frames_injective : (d e : Deck) → Accepted base d → Accepted base e → deck_frames d ≡ deck_frames e → d ≡ e
deck_frames_injective d e p q h =
    let same : Got d ≡ Got e = sym (deck-written_read d p) ∙ ap read_deck h ∙ deck-written_read e q in cc
