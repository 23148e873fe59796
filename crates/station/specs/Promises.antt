-- What every public operation promises: number, text, place, what is returned, and every byte of the lent buffer, on refusals as on success (RULES 1.2 to 1.4).
use Rattle.std.specs.Prelude.{◌≡◌, List, ℕ}
use Rattle.decks.specs.declared.Reply.{Reply}
use Rattle.decks.specs.Answers.{reply_to}
use Rattle.frames.specs.Read.{read_deck}
use Rattle.cards.specs.Read.{read_cards}
use Rattle.claims.specs.Checked.{checked}
use Rattle.replies.specs.declared.DeckReply.{DeckReply}
use Rattle.replies.specs.declared.CountReply.{CountReply}
use Rattle.replies.specs.Replies.{read_reply, write_reply, write_buffer, reduce_reply, reduce_buffer, cone_reply}

-- Reading a deck of cards, or of frames.
abbrev pub ReadsCards : List ℕ → DeckReply → Type 0
ReadsCards text r = r ≡ read_reply (read_cards text)

abbrev pub ReadsFrames : List ℕ → DeckReply → Type 0
ReadsFrames text r = r ≡ read_reply (read_deck text)

-- Writing it as frames into a lent buffer.
abbrev pub WritesCards : List ℕ → List ℕ → CountReply → List ℕ → Type 0
WritesCards text out r after = (r ≡ write_reply (read_cards text) out) × (after ≡ write_buffer (read_cards text) out)

abbrev pub WritesFrames : List ℕ → List ℕ → CountReply → List ℕ → Type 0
WritesFrames text out r after = (r ≡ write_reply (read_deck text) out) × (after ≡ write_buffer (read_deck text) out)

-- Splitting its property and writing all reduced decks.
abbrev pub ReducesCards : List ℕ → List ℕ → CountReply → List ℕ → Type 0
ReducesCards text out r after = (r ≡ reduce_reply (read_cards text) out) × (after ≡ reduce_buffer (read_cards text) out)

abbrev pub ReducesFrames : List ℕ → List ℕ → CountReply → List ℕ → Type 0
ReducesFrames text out r after = (r ≡ reduce_reply (read_deck text) out) × (after ≡ reduce_buffer (read_deck text) out)

-- The cone of a set in a deck of frames.
abbrev pub FindsCone : List ℕ → ℕ → CountReply → Type 0
FindsCone text s r = r ≡ cone_reply (read_deck text) s

-- Checking a claimed run against a deck, both as frames.
abbrev pub ChecksClaim : List ℕ → List ℕ → Reply → Type 0
ChecksClaim deck claim r = r ≡ reply_to (checked deck claim)
