-- The worked deck (RULES 9.1): what the program prints.
use mathlib.Core.Path.{◌≡◌, refl}
use mathlib.Core.List.{List, [], ◌∷◌, ◌++◌}
use Prim.Native.Nat.{ℕ}
use lib.Count.{ones, ones_in, count_trailing_zeros}
use Rattle.lists.specs.Lists.{ended, unended, fronted, stands, joined, keep, firsts, others}
use Rattle.lists.specs.Texts.{bytes}
use Rattle.logic.specs.Expressions.{nodes, written, temporal, value, code}
use Rattle.logic.specs.Decks.{total_nodes}
use Rattle.logic.specs.Meaning.{follower}
use Rattle.logic.specs.Cones.{grown, passes, cone}
use Rattle.logic.specs.Pieces.{split, piece, pieces}
use Rattle.logic.specs.Verdicts.{unrolled, truth, taken, allowed, steps_from, verdict}
use Rattle.decks.specs.Readings.{walk, left_set, complete}
use Rattle.frames.specs.Hex.{hex_digit, pairs, digit_of, byte_of, number_from}
use Rattle.frames.specs.Written.{code_byte, node_pairs, state_frames, equation_frames, deck_frames}
use Rattle.frames.specs.Read.{sign_of, read_expr, whole_expr, whole_number, kind_of, set_line, init_line, last_left, with_equation, equation_line, property_line, count_line, frame_line, deck_line, deck_end, read_deck, sizes_line, state_line, claim_line, claim_end, read_claim}
use Rattle.cards.specs.Card.{columns, every, kind_of as card_kind, opened, card_in_form}
use Rattle.cards.specs.Statement.{gathered}
use Rattle.cards.specs.Grammar.{second_digit, read_number, sign_of as card_sign, joint_of, past, past_joint, read_expr as card_expr}
use Rattle.cards.specs.Typed.{rising_from, deck_of}
use Rattle.cards.specs.Read.{behind, whole_expr as whole_card_expr, whole_number as whole_card_number, vars_statement, read_binary, init_statement, with_equation as with_card_equation, equation_statement, prop_statement, end_statement, equation_or_prop, due_statement, statement_read, cards_end, read_cards}
use Rattle.texts.specs.Texts.{filled}
use Rattle.cones.specs.Cone.{cone_read}
use Rattle.pieces.specs.Reduced.{all_frames, reduced, reduced_into}
use Rattle.claims.specs.Checked.{checked}
use Rattle.demands.proofs.Worked.{text, worked, piece_one, piece_two}
use Rattle.printing.specs.Printed.{refusal_frame, printed_as, printed}

unfoldable pub tabbed : List ℕ
tabbed = text ("      VARS 0" ∷ "      INIT" ∷ []) ++ (9 ∷ text ("     PROP 0" ∷ "      END" ∷ []))

-- The worked deck prints its pieces whole; a tab in card 3 prints `FF020100000003`.
pub worked_printed : (printed (read_cards worked) 65536 ≡ piece_one ++ piece_two) × (printed (read_cards tabbed) 65536 ≡ text ("FF020100000003" ∷ []))
unfolding tabbed printed_as refusal_frame text worked piece_one piece_two joined bytes ended unended fronted stands keep firsts others nodes written temporal value code total_nodes follower grown passes cone split piece pieces unrolled truth taken allowed steps_from verdict walk left_set complete hex_digit pairs digit_of byte_of number_from code_byte node_pairs state_frames equation_frames deck_frames sign_of read_expr whole_expr whole_number kind_of set_line init_line last_left with_equation equation_line property_line count_line frame_line deck_line deck_end read_deck sizes_line state_line claim_line claim_end read_claim columns every card_kind opened card_in_form gathered second_digit read_number card_sign joint_of past past_joint card_expr rising_from deck_of behind whole_card_expr whole_card_number vars_statement read_binary init_statement with_card_equation equation_statement prop_statement end_statement equation_or_prop due_statement statement_read cards_end read_cards filled cone_read all_frames reduced reduced_into checked ones ones_in count_trailing_zeros
worked_printed = (refl, refl)
