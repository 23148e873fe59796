-- Computed cases: the first piece of the worked deck (RULES 9.1), and which refusal each text meets first.
use mathlib.Core.Path.{◌≡◌, refl}
use mathlib.Core.Bool.{false}
use mathlib.Core.List.{List, [], ◌∷◌, ◌++◌}
use Prim.Native.Nat.{ℕ, zero, suc}
use lib.Count.{count_trailing_zeros}
use lib.ListN.{replicate}
use Rattle.lists.specs.Lists.{Each, ended, unended, fronted, stands, joined}
use Rattle.lists.specs.Texts.{bytes}
use Rattle.logic.specs.Expressions.{Const, nodes, written, temporal, code}
use Rattle.logic.specs.Decks.{Deck, total_nodes}
use Rattle.logic.specs.Meaning.{Claim}
use Rattle.logic.proofs.Cases.{first}
use Rattle.decks.specs.declared.Refusal.TheVariants.{Outside, Temporal, TooDeep, ManyInitials, ManyEquations, ManyNodes, NoEquation, BadFrame}
use Rattle.decks.specs.Answers.{Outcome, Got, Refused}
use Rattle.frames.specs.Hex.{hex_digit, pairs, digit_of, byte_of, number_from}
use Rattle.frames.specs.Written.{code_byte, node_pairs, state_frames, equation_frames, deck_frames}
use Rattle.frames.specs.Read.{sign_of, read_expr, whole_expr, whole_number, kind_of, set_line, init_line, last_left, with_equation, equation_line, property_line, count_line, frame_line, deck_line, deck_end, read_deck, sizes_line, state_line, claim_line, claim_end, read_claim}
use Rattle.decks.specs.Readings.{walk, left_set, complete}

first_text : List ℕ
unfolding joined bytes
first_text = joined (bytes "010000000000000003" ∷ bytes "020000000000000000" ∷ bytes "03004200" ∷ bytes "0301430001" ∷ bytes "030100" ∷ bytes "04474201" ∷ bytes "050006" ∷ [])

first-written : deck_frames first ≡ first_text
unfolding first_text joined bytes deck_frames state_frames equation_frames node_pairs code_byte pairs hex_digit code
first-written = refl

first_read : read_deck first_text ≡ Got first
unfolding first_text joined bytes read_deck ended unended fronted stands deck_end complete left_set deck_line frame_line count_line property_line equation_line with_equation last_left init_line set_line walk kind_of whole_number whole_expr read_expr sign_of number_from byte_of digit_of nodes written temporal total_nodes
first_read = refl

-- ---- texts

-- The same characters n times.
unfoldable repeated : ℕ → List ℕ → List ℕ
repeated zero cs = []
repeated (suc n) cs = cs ++ repeated n cs

-- The pairs of a tree of `&` over `0`: 2 ^ (n + 1) - 1 nodes.
unfoldable tree : ℕ → List ℕ
unfolding bytes
tree zero = bytes "40"
tree (suc n) = bytes "43" ++ (tree n ++ tree n)

-- The lines of n different states, the last of them 0.
unfoldable states : ℕ → List (List ℕ)
unfolding bytes
states zero = []
states (suc n) = (bytes "02" ++ pairs 8 n) ∷ states n

-- A text, its lines and what stands behind the last, and what it is read as.
record Case (A : Type 0) : Type 0 where
  lines : List (List ℕ)
  behind : List ℕ
  answer : Outcome A

abbrev gives : {A : Type 0} → List (List ℕ) → Outcome A → Case A
gives ls a = record { lines = ls; behind = []; answer = a }

-- A deck of V0 with the state 0, and the lines that follow.
abbrev one : List (List ℕ) → List (List ℕ)
one ls = bytes "010000000000000001" ∷ bytes "020000000000000000" ∷ ls

-- A deck of V0, V1 and V2 with the state 0, and the lines that follow.
abbrev three : List (List ℕ) → List (List ℕ)
three ls = bytes "010000000000000007" ∷ bytes "020000000000000000" ∷ ls

-- The deck without variables and with the property `0`.
abbrev empty : List (List ℕ) → List (List ℕ)
empty ls = bytes "010000000000000000" ∷ bytes "020000000000000000" ∷ bytes "0440" ∷ ls

deck_cases : List (Case Deck)
deck_cases =
    -- accepted
    gives (empty (bytes "050003" ∷ [])) (Got (record { vars = 0; inits = 0 ∷ []; equations = []; property = Const false }))
    -- 9: a state, a left side, a right side, the property
    ∷ gives (bytes "010000000000000001" ∷ bytes "020000000000000002" ∷ []) (Refused (Outside 1 2))
    ∷ gives (one (bytes "030100" ∷ [])) (Refused (Outside 1 3))
    ∷ gives (one (bytes "030001" ∷ [])) (Refused (Outside 1 3))
    ∷ gives (one (bytes "030000" ∷ bytes "0401" ∷ [])) (Refused (Outside 1 4))
    -- 10, and 9 before it
    ∷ gives (one (bytes "03004500" ∷ [])) (Refused (Temporal 3))
    ∷ gives (one (bytes "03004501" ∷ [])) (Refused (Outside 1 3))
    -- 11 at level 33; level 32 passes, and the text ends early
    ∷ gives (one ((bytes "0300" ++ repeated 32 (bytes "42") ++ bytes "00") ∷ [])) (Refused (TooDeep 3))
    ∷ gives (one ((bytes "0300" ++ repeated 31 (bytes "42") ++ bytes "00") ∷ [])) (Refused (BadFrame 1 0))
    -- 11 before 16 to its right, 16 at level 33, 16 before 11 to its right, a falling variable before 11
    ∷ gives (one ((bytes "0300" ++ repeated 32 (bytes "42") ++ bytes "00zz") ∷ [])) (Refused (TooDeep 3))
    ∷ gives (one ((bytes "0300" ++ repeated 32 (bytes "42") ++ bytes "4A") ∷ [])) (Refused (BadFrame 1 3))
    ∷ gives (one ((bytes "0300434A" ++ repeated 32 (bytes "42") ++ bytes "00") ∷ [])) (Refused (BadFrame 1 3))
    ∷ gives (three (bytes "030101" ∷ (bytes "0300" ++ repeated 32 (bytes "42") ++ bytes "00") ∷ [])) (Refused (BadFrame 1 4))
    -- 11 before 9 of its line, 16 before 9 of its line, 9 before 16 of the next
    ∷ gives (one ((bytes "0301" ++ repeated 32 (bytes "42") ++ bytes "00") ∷ [])) (Refused (TooDeep 3))
    ∷ gives (one (bytes "03010000" ∷ [])) (Refused (BadFrame 1 3))
    ∷ gives (bytes "010000000000000000" ∷ bytes "020000000000000001" ∷ bytes "zz" ∷ []) (Refused (Outside 1 2))
    -- 12 at the 65th state, and 16 before it; 64 pass
    ∷ gives (bytes "01000000000000007F" ∷ states 65) (Refused (ManyInitials 66))
    ∷ gives (bytes "01000000000000007F" ∷ (states 64 ++ (bytes "020000000000000001" ∷ []))) (Refused (BadFrame 1 66))
    ∷ gives (bytes "01000000000000007F" ∷ states 64) (Refused (BadFrame 1 0))
    -- 13 at the 257th equation; 256 pass
    ∷ gives (one (replicate 257 (bytes "030000"))) (Refused (ManyEquations 259))
    ∷ gives (one (replicate 256 (bytes "030000"))) (Refused (BadFrame 1 0))
    -- 14 of the equations: 2,049 nodes; 2,048 pass
    ∷ gives (one (replicate 8 (bytes "0300" ++ tree 7) ++ ((bytes "0300" ++ repeated 8 (bytes "42") ++ bytes "00") ∷ []))) (Refused (ManyNodes 11))
    ∷ gives (one (replicate 8 (bytes "0300" ++ tree 7) ++ ((bytes "0300" ++ repeated 7 (bytes "42") ++ bytes "00") ∷ []))) (Refused (BadFrame 1 0))
    -- 14 of the property: 129 nodes; 128 pass
    ∷ gives (one (bytes "030000" ∷ (bytes "044242" ++ tree 6) ∷ [])) (Refused (ManyNodes 4))
    ∷ gives (one (bytes "030000" ∷ (bytes "0442" ++ tree 6) ∷ [])) (Refused (BadFrame 1 0))
    -- 15: the lowest variable without an equation
    ∷ gives (three (bytes "030000" ∷ bytes "0440" ∷ bytes "050004" ∷ [])) (Refused (NoEquation 1))
    ∷ gives (three (bytes "030100" ∷ bytes "0440" ∷ bytes "050004" ∷ [])) (Refused (NoEquation 0))
    -- 16: equal 02s, a falling 03, a variable 40, a frame that is not due
    ∷ gives (one (bytes "020000000000000000" ∷ [])) (Refused (BadFrame 1 3))
    ∷ gives (three (bytes "030101" ∷ bytes "030000" ∷ [])) (Refused (BadFrame 1 4))
    ∷ gives (one (bytes "034000" ∷ [])) (Refused (BadFrame 1 3))
    ∷ gives (bytes "010000000000000000" ∷ bytes "0440" ∷ []) (Refused (BadFrame 1 2))
    ∷ gives (one (bytes "030000" ∷ bytes "020000000000000001" ∷ [])) (Refused (BadFrame 1 4))
    -- 16: lower case, odd digits, too short, a blank, no expression
    ∷ gives (bytes "01000000000000000a" ∷ []) (Refused (BadFrame 1 1))
    ∷ gives (bytes "0100000000000000010" ∷ []) (Refused (BadFrame 1 1))
    ∷ gives (bytes "0100000000000001" ∷ []) (Refused (BadFrame 1 1))
    ∷ gives (bytes "01000000000000000 " ∷ []) (Refused (BadFrame 1 1))
    ∷ gives (one (bytes "0300" ∷ [])) (Refused (BadFrame 1 3))
    -- 16: a wrong count, a line behind 05, an empty one too
    ∷ gives (empty (bytes "050004" ∷ [])) (Refused (BadFrame 1 4))
    ∷ gives (empty (bytes "050003" ∷ bytes "050003" ∷ [])) (Refused (BadFrame 1 5))
    ∷ gives (empty (bytes "050003" ∷ [] ∷ [])) (Refused (BadFrame 1 5))
    -- 16 at 0: no text, no 05, a line without byte 10, before 05 and behind it
    ∷ gives [] (Refused (BadFrame 1 0))
    ∷ gives (empty []) (Refused (BadFrame 1 0))
    ∷ record { lines = empty []; behind = bytes "050003"; answer = Refused (BadFrame 1 0) }
    ∷ record { lines = empty (bytes "050003" ∷ []); behind = bytes "0"; answer = Refused (BadFrame 1 0) }
    -- 16 at 0 before 15
    ∷ record { lines = one (bytes "0440" ∷ bytes "050003" ∷ []); behind = bytes "0"; answer = Refused (BadFrame 1 0) }
    ∷ []

deck_cases_lem : Each (λ (c : Case Deck). read_deck (joined c.lines ++ c.behind) ≡ c.answer) deck_cases
unfolding deck_cases repeated tree states pairs hex_digit joined bytes read_deck ended unended fronted stands deck_end complete left_set deck_line frame_line count_line property_line equation_line with_equation last_left init_line set_line walk kind_of whole_number whole_expr read_expr sign_of number_from byte_of digit_of nodes written temporal total_nodes count_trailing_zeros
deck_cases_lem = (refl, (refl, (refl, (refl, (refl, (refl, (refl, (refl, (refl, (refl, (refl, (refl, (refl, (refl, (refl, (refl, (refl, (refl, (refl, (refl, (refl, (refl, (refl, (refl, (refl, (refl, (refl, (refl, (refl, (refl, (refl, (refl, (refl, (refl, (refl, (refl, (refl, (refl, (refl, (refl, (refl, (refl, (refl, (refl, (refl, tt)))))))))))))))))))))))))))))))))))))))))))))

-- On a deck of V0 and V1.
claim_cases : List (Case Claim)
claim_cases =
    -- accepted: p = 1, c = 2 and three states
    gives (bytes "1100010002" ∷ bytes "120000000000000000" ∷ bytes "120000000000000001" ∷ bytes "120000000000000002" ∷ bytes "150004" ∷ []) (Got (record { p = 1; c = 2; states = 0 ∷ 1 ∷ 2 ∷ [] }))
    -- 9
    ∷ gives (bytes "1100000001" ∷ bytes "120000000000000004" ∷ []) (Refused (Outside 2 2))
    -- 16: c = 0, p + c = 1,025; 1,024 pass, and the text ends early
    ∷ gives (bytes "1100010000" ∷ []) (Refused (BadFrame 2 1))
    ∷ gives (bytes "1100010400" ∷ []) (Refused (BadFrame 2 1))
    ∷ gives (bytes "11000103FF" ∷ []) (Refused (BadFrame 2 0))
    -- 16: a state too many, one too few, a wrong count, a line behind 15
    ∷ gives (bytes "1100000001" ∷ bytes "120000000000000000" ∷ bytes "120000000000000000" ∷ []) (Refused (BadFrame 2 3))
    ∷ gives (bytes "1100000002" ∷ bytes "120000000000000000" ∷ bytes "150002" ∷ []) (Refused (BadFrame 2 3))
    ∷ gives (bytes "1100000001" ∷ bytes "120000000000000000" ∷ bytes "150003" ∷ []) (Refused (BadFrame 2 3))
    ∷ gives (bytes "1100000001" ∷ bytes "120000000000000000" ∷ bytes "150002" ∷ [] ∷ []) (Refused (BadFrame 2 4))
    -- 16 at 0: no text, a line without byte 10
    ∷ gives [] (Refused (BadFrame 2 0))
    ∷ record { lines = bytes "1100000001" ∷ bytes "120000000000000000" ∷ []; behind = bytes "150002"; answer = Refused (BadFrame 2 0) }
    ∷ []

claim_cases_lem : Each (λ (c : Case Claim). read_claim 3 (joined c.lines ++ c.behind) ≡ c.answer) claim_cases
unfolding claim_cases joined bytes read_claim ended unended fronted stands claim_end claim_line state_line sizes_line count_line walk kind_of whole_number number_from byte_of digit_of
claim_cases_lem = (refl, (refl, (refl, (refl, (refl, (refl, (refl, (refl, (refl, (refl, (refl, tt)))))))))))
