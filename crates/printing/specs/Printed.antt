-- What the program prints: what was asked for, or one frame FF with number, text and place (RULES 8.2).
use Rattle.std.specs.Prelude.{◌≡◌, true, false, List, [], ◌∷◌, ◌++◌, ℕ, ◌%◌, ltb, eqb, length, Result, Ok, Err}
use Rattle.logic.specs.Expressions.{decimal}
use Rattle.logic.specs.Decks.{Deck}
use Rattle.decks.specs.declared.Refusal.{Refusal}
use Rattle.decks.specs.declared.Refusal.TheVariants.{NoRoom}
use Rattle.decks.specs.declared.Reply.{Reply}
use Rattle.decks.specs.Answers.{Outcome, Got, Refused, reply_of, reply_to}
use Rattle.frames.specs.Hex.{pairs}
use Rattle.frames.specs.Written.{frame, deck_frames}
use Rattle.pieces.specs.Reduced.{piece_bytes}
use Rattle.texts.specs.Texts.{Filled, filled}
use Rattle.claims.specs.Checked.{checked}
use Rattle.replies.specs.declared.CountReply.{CountReply}
use Rattle.replies.specs.Replies.{cone_reply}

-- ---- what is printed

-- How many bytes are printed: none where there is no room.
abbrev pub bytes_of : Result ℕ Refusal → ℕ
bytes_of (Ok n) = n
bytes_of (Err a) = 0

-- What is promised of the bytes printed and of the buffer that holds them first.
pub record Prints (f : Filled) (bytes : ℕ) (buffer : List ℕ) : Type 0 where
  pub bytes_are : bytes ≡ bytes_of f.report
  pub buffer_is : buffer ≡ f.buffer

-- ---- the frame FF

abbrev pub refusal_kind : ℕ
refusal_kind = 255

-- Number and text in one byte each, place in four, high first.
unfoldable pub refusal_frame : ℕ → ℕ → ℕ → List ℕ
refusal_frame number text place = frame refusal_kind (pairs 1 number ++ (pairs 1 text ++ pairs 4 place))

abbrev pub reply_frame : CountReply → List ℕ
reply_frame r = refusal_frame r.number r.text r.place

abbrev pub answer_frame : Reply → List ℕ
answer_frame r = refusal_frame r.number r.text r.place

-- ---- a deck's text, or FF

-- The bytes printed from a buffer of so many bytes.
unfoldable pub printed_as : (Deck → List ℕ) → Outcome Deck → ℕ → List ℕ
printed_as text (Got d) room = elim (ltb room (length (text d))) [ true ↦ answer_frame (reply_of (NoRoom (length (text d)))) | false ↦ text d ]
printed_as text (Refused a) room = answer_frame (reply_of a)

-- The pieces of what was read.
abbrev pub printed : Outcome Deck → ℕ → List ℕ
printed o room = printed_as piece_bytes o room

-- The deck that was read, as frames.
abbrev pub deck_printed : Outcome Deck → ℕ → List ℕ
deck_printed o room = printed_as deck_frames o room

-- How many bytes are printed, and the buffer that holds them first: none, and the buffer as it was, where not even FF has room.
abbrev pub printed_into : Outcome Deck → List ℕ → Filled
printed_into o out = filled (printed o (length out)) out

abbrev pub deck_printed_into : Outcome Deck → List ℕ → Filled
deck_printed_into o out = filled (deck_printed o (length out)) out

-- What a reply leaves to print: the bytes that were written, which the buffer holds first, or FF.
unfoldable pub replied : CountReply → ℕ → List ℕ → Filled
replied r bytes out = elim (eqb r.number 0) [ true ↦ record { report = Ok bytes; buffer = out } | false ↦ filled (reply_frame r) out ]

-- ---- a cone, or FF

-- A blank, a size, which is below 100, and the end of the line.
unfoldable pub size_text : ℕ → List ℕ
size_text n = 32 ∷ (decimal (n % 100) ++ (10 ∷ []))

-- A set in sixteen digits and its size.
unfoldable pub cone_line : ℕ → ℕ → List ℕ
cone_line set size = pairs 8 set ++ size_text size

unfoldable pub cone_printed : CountReply → List ℕ
cone_printed r = elim (eqb r.number 0) [ true ↦ cone_line r.first r.second | false ↦ reply_frame r ]

abbrev pub cone_printed_into : Outcome Deck → ℕ → List ℕ → Filled
cone_printed_into o s out = filled (cone_printed (cone_reply o s)) out

-- ---- a verdict: always one frame FF

abbrev pub verdict_into : List ℕ → List ℕ → List ℕ → Filled
verdict_into deck claim out = filled (answer_frame (reply_to (checked deck claim))) out
