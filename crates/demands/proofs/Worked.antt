-- The worked deck with its claims and cones, and the decks without variables (RULES 9.1 to 9.4): one table, over the bytes of the texts.
use mathlib.Core.Path.{refl}
use mathlib.Core.List.{List, [], ◌∷◌, ◌++◌, map}
use Prim.Native.Nat.{ℕ, ◌-◌}
use Prim.Native.String.{String}
use lib.ListN.{length, replicate}
use lib.Count.{ones, ones_in, count_trailing_zeros}
use Rattle.lists.specs.Lists.{Each, ended, unended, fronted, stands, joined, keep, firsts, others}
use Rattle.lists.specs.Texts.{bytes}
use Rattle.logic.specs.Expressions.{nodes, written, temporal, value, code}
use Rattle.logic.specs.Decks.{total_nodes}
use Rattle.logic.specs.Meaning.{follower}
use Rattle.logic.specs.Cones.{grown, passes, cone}
use Rattle.logic.specs.Pieces.{split, piece, pieces}
use Rattle.logic.specs.Verdicts.{unrolled, truth, taken, allowed, steps_from, verdict}
use Rattle.decks.specs.declared.Reply.{Reply}
use Rattle.decks.specs.Answers.{fine}
use Rattle.decks.specs.Readings.{walk, left_set, complete}
use Rattle.frames.specs.Hex.{hex_digit, pairs, digit_of, byte_of, number_from}
use Rattle.frames.specs.Written.{code_byte, node_pairs, state_frames, equation_frames, deck_frames}
use Rattle.frames.specs.Read.{sign_of, read_expr, whole_expr, whole_number, kind_of, set_line, init_line, last_left, with_equation, equation_line, property_line, count_line, frame_line, deck_line, deck_end, read_deck, sizes_line, state_line, claim_line, claim_end, read_claim}
use Rattle.cards.specs.Card.{columns, every, kind_of as card_kind, opened, card_in_form}
use Rattle.cards.specs.Statement.{gathered}
use Rattle.cards.specs.Grammar.{second_digit, read_number, sign_of as card_sign, joint_of, past, past_joint, read_expr as card_expr}
use Rattle.cards.specs.Typed.{rising_from, deck_of}
use Rattle.cards.specs.Read.{behind, whole_expr as whole_card_expr, whole_number as whole_card_number, vars_statement, read_binary, init_statement, with_equation as with_card_equation, equation_statement, prop_statement, end_statement, equation_or_prop, due_statement, statement_read, cards_end, read_cards}
use Rattle.texts.specs.Texts.{filled}
use Rattle.cones.specs.Cone.{cone_read}
use Rattle.pieces.specs.Reduced.{all_frames, reduced, reduced_into}
use Rattle.claims.specs.Checked.{checked}
use Rattle.replies.specs.Replies.{count_reply}
use Rattle.station.specs.Promises.{WritesCards, ReducesCards, FindsCone, ChecksClaim}

-- ---- lines of the table

-- Lines as a text.
unfoldable pub text : List String → List ℕ
text lines = joined (map bytes lines)

-- A lent buffer, and the same with a text in its first bytes.
unfoldable pub lent : List ℕ
lent = replicate 400 7

unfoldable pub over : List ℕ → List ℕ
over t = t ++ replicate (400 - length t) 7

-- A number, the text at fault, and a place.
abbrev pub says : ℕ → ℕ → ℕ → Reply
says n t p = record { number = n; text = t; place = p }

-- What is asked, and what is answered.
pub data Line : Type 0 where
  -- cards are accepted, and written as these frames
  Written : List ℕ → List ℕ → Line
  -- cards are reduced to so many pieces with these bytes
  Reduced : List ℕ → ℕ → List ℕ → Line
  -- the cone of a set in a deck of frames, and its size
  Cone : List ℕ → ℕ → ℕ → ℕ → Line
  -- a claim checked against a deck of frames
  Checked : List ℕ → List ℕ → Reply → Line

-- The operation's promise is met by the answer.
abbrev pub Answered : Line → Type 0
Answered (Written cards frames) = WritesCards cards lent (count_reply fine (length frames) 0) (over frames)
Answered (Reduced cards n frames) = ReducesCards cards lent (count_reply fine n (length frames)) (over frames)
Answered (Cone deck s c n) = FindsCone deck s (count_reply fine c n)
Answered (Checked deck claim r) = ChecksClaim deck claim r

-- ---- texts

unfoldable pub worked : List ℕ
worked = text (
    "      VARS 4"
    ∷ "      INIT 0000"
    ∷ "      INIT 0011"
    ∷ "      V0=~V0"
    ∷ "      V1=(V0&V1)"
    ∷ "      V1=V0"
    ∷ "      V2=V3"
    ∷ "      V3=~V2"
    ∷ "      PROP (G~V1 & F V2)"
    ∷ "      END"
    ∷ [])

unfoldable pub worked_frames : List ℕ
worked_frames = text (
    "01000000000000000F"
    ∷ "020000000000000000"
    ∷ "02000000000000000C"
    ∷ "03004200"
    ∷ "0301430001"
    ∷ "030100"
    ∷ "030203"
    ∷ "03034202"
    ∷ "04434742014602"
    ∷ "050009"
    ∷ [])

unfoldable pub piece_one : List ℕ
piece_one = text ("010000000000000003" ∷ "020000000000000000" ∷ "03004200" ∷ "0301430001" ∷ "030100" ∷ "04474201" ∷ "050006" ∷ [])

unfoldable pub piece_two : List ℕ
piece_two = text ("01000000000000000C" ∷ "020000000000000000" ∷ "02000000000000000C" ∷ "030203" ∷ "03034202" ∷ "044602" ∷ "050006" ∷ [])

-- The deck without variables and with this property, as cards and as frames.
unfoldable pub empty : String → List ℕ
empty property = text ("      VARS 0" ∷ "      INIT" ∷ property ∷ "      END" ∷ [])

unfoldable pub empty_frames : String → List ℕ
empty_frames property = text ("010000000000000000" ∷ "020000000000000000" ∷ property ∷ "050003" ∷ [])

-- p = 0, c = 1, state 0.
unfoldable pub resting : List ℕ
resting = text ("1100000001" ∷ "120000000000000000" ∷ "150002" ∷ [])

-- ---- the table

unfoldable pub rows : List Line
rows =
    -- The worked deck as frames, and its pieces.
    Written worked worked_frames
    ∷ Reduced worked 2 (piece_one ++ piece_two)
    -- Piece one, p=1, c=2, states 0, 1, 2: accepted.
    ∷ Checked piece_one (text ("1100010002" ∷ "120000000000000000" ∷ "120000000000000001" ∷ "120000000000000002" ∷ "150004" ∷ [])) (says 0 0 0)
    -- p=0, c=2, states 0, 1: 22.
    ∷ Checked piece_one (text ("1100000002" ∷ "120000000000000000" ∷ "120000000000000001" ∷ "150003" ∷ [])) (says 22 2 0)
    -- p=0, c=1, state 0: 21, place 0.
    ∷ Checked piece_one resting (says 21 2 0)
    -- p=0, c=1, state 1: 20.
    ∷ Checked piece_one (text ("1100000001" ∷ "120000000000000001" ∷ "150002" ∷ [])) (says 20 2 0)
    -- Piece two, p=0, c=4, states 0, 8, C, 4: 22.
    ∷ Checked piece_two (text ("1100000004" ∷ "120000000000000000" ∷ "120000000000000008" ∷ "12000000000000000C" ∷ "120000000000000004" ∷ "150005" ∷ [])) (says 22 2 0)
    -- Cone of {V1} is {V0, V1}, size 2; of {V3} is {V2, V3}; of nothing, nothing.
    ∷ Cone worked_frames 2 3 2
    ∷ Cone worked_frames 8 12 2
    ∷ Cone worked_frames 0 0 0
    -- `VARS 0`, `INIT`, `PROP 0`, `END`: accepted; claim p=0, c=1, state 0 accepted.
    ∷ Written (empty "      PROP 0") (empty_frames "0440")
    ∷ Checked (empty_frames "0440") resting (says 0 0 0)
    -- The same with `PROP (0W0)`: accepted too. With `PROP (1W0)`: 22. With `PROP (1U0)`: accepted.
    ∷ Written (empty "      PROP (0W0)") (empty_frames "04494040")
    ∷ Checked (empty_frames "04494040") resting (says 0 0 0)
    ∷ Written (empty "      PROP (1W0)") (empty_frames "04494140")
    ∷ Checked (empty_frames "04494140") resting (says 22 2 0)
    ∷ Written (empty "      PROP (1U0)") (empty_frames "04484140")
    ∷ Checked (empty_frames "04484140") resting (says 0 0 0)
    ∷ []

pub table : Each Answered rows
unfolding rows text lent over worked worked_frames piece_one piece_two empty empty_frames resting joined bytes ended unended fronted stands keep firsts others nodes written temporal value code total_nodes follower grown passes cone split piece pieces unrolled truth taken allowed steps_from verdict walk left_set complete hex_digit pairs digit_of byte_of number_from code_byte node_pairs state_frames equation_frames deck_frames sign_of read_expr whole_expr whole_number kind_of set_line init_line last_left with_equation equation_line property_line count_line frame_line deck_line deck_end read_deck sizes_line state_line claim_line claim_end read_claim columns every card_kind opened card_in_form gathered second_digit read_number card_sign joint_of past past_joint card_expr rising_from deck_of behind whole_card_expr whole_card_number vars_statement read_binary init_statement with_card_equation equation_statement prop_statement end_statement equation_or_prop due_statement statement_read cards_end read_cards filled cone_read all_frames reduced reduced_into checked ones ones_in count_trailing_zeros
table = ((refl, refl), ((refl, refl), (refl, (refl, (refl, (refl, (refl, (refl, (refl, (refl, ((refl, refl), (refl, ((refl, refl), (refl, ((refl, refl), (refl, ((refl, refl), (refl, tt))))))))))))))))))
