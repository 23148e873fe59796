-- The replies to what was read, and every byte of the lent buffer, on refusals as on success.
use Rattle.std.specs.Prelude.{List, ℕ, length, Result, Ok, Err}
use Rattle.logic.specs.Decks.{Deck}
use Rattle.decks.specs.declared.Refusal.{Refusal}
use Rattle.decks.specs.declared.Reply.{Reply}
use Rattle.decks.specs.declared.Deck.{Deck as Stored}
use Rattle.decks.specs.Answers.{Outcome, Got, Refused, fine, reply_of}
use Rattle.decks.specs.Stored.{stored, blank}
use Rattle.texts.specs.Texts.{deck_written}
use Rattle.cones.specs.declared.SizedCone.{SizedCone}
use Rattle.cones.specs.Cone.{cone_read}
use Rattle.pieces.specs.declared.Reduced.{Reduced}
use Rattle.pieces.specs.Reduced.{reduced, reduced_into}
use Rattle.replies.specs.declared.DeckReply.{DeckReply}
use Rattle.replies.specs.declared.CountReply.{CountReply}

-- ---- replies

-- A reply's number, text and place, and what is returned beside them.
abbrev pub deck_reply : Reply → Stored → DeckReply
deck_reply r d = record { number = r.number; text = r.text; place = r.place; deck = d }

abbrev pub count_reply : Reply → ℕ → ℕ → CountReply
count_reply r x y = record { number = r.number; text = r.text; place = r.place; first = x; second = y }

-- ---- reading

-- The deck that was read, or the refusal and the deck of zeros.
abbrev pub read_reply : Outcome Deck → DeckReply
read_reply (Got d) = deck_reply fine (stored d)
read_reply (Refused a) = deck_reply (reply_of a) blank

-- ---- writing: bytes and 0

abbrev pub written_reply : Result ℕ Refusal → CountReply
written_reply (Ok bytes) = count_reply fine bytes 0
written_reply (Err a) = count_reply (reply_of a) 0 0

abbrev pub write_reply : Outcome Deck → List ℕ → CountReply
write_reply (Got d) out = written_reply (deck_written d out).report
write_reply (Refused a) out = count_reply (reply_of a) 0 0

abbrev pub write_buffer : Outcome Deck → List ℕ → List ℕ
write_buffer (Got d) out = (deck_written d out).buffer
write_buffer (Refused a) out = out

-- ---- reducing: pieces and bytes

abbrev pub reduced_reply : Result Reduced Refusal → CountReply
reduced_reply (Ok r) = count_reply fine r.pieces r.bytes
reduced_reply (Err a) = count_reply (reply_of a) 0 0

abbrev pub reduce_reply : Outcome Deck → List ℕ → CountReply
reduce_reply (Got d) out = reduced_reply (reduced d (length out))
reduce_reply (Refused a) out = count_reply (reply_of a) 0 0

abbrev pub reduce_buffer : Outcome Deck → List ℕ → List ℕ
reduce_buffer (Got d) out = reduced_into d out
reduce_buffer (Refused a) out = out

-- ---- the cone of a set: the set and its size

abbrev pub sized_reply : Result SizedCone Refusal → CountReply
sized_reply (Ok r) = count_reply fine r.set r.size
sized_reply (Err a) = count_reply (reply_of a) 0 0

abbrev pub cone_reply : Outcome Deck → ℕ → CountReply
cone_reply (Got d) s = sized_reply (cone_read d s)
cone_reply (Refused a) s = count_reply (reply_of a) 0 0
