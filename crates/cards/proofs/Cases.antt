-- Computed cases: the worked deck of RULES 9.1, and texts of cards for each refusal, with the answers that they get.
use mathlib.Core.Path.{◌≡◌, refl}
use mathlib.Core.Bool.{true, false}
use mathlib.Core.List.{List, [], ◌∷◌, ◌++◌, map}
use Prim.Native.Nat.{ℕ, zero, suc}
use Prim.Native.String.{String}
use lib.ListN.{replicate}
use lib.Count.{count_trailing_zeros}
use Rattle.lists.specs.Lists.{ended, unended, fronted, stands, joined, keep, firsts, others}
use Rattle.lists.specs.Texts.{bytes}
use Rattle.logic.specs.Expressions.{Expr, Const, Var, One, Two, Not, And, nodes, written, temporal, spelling}
use Rattle.logic.specs.Decks.{Equation, total_nodes}
use Rattle.std.specs.Prelude.{Ok}
use Rattle.logic.proofs.Cases.{worked}
use Rattle.decks.specs.declared.Reply.{Reply}
use Rattle.decks.specs.declared.Refusal.TheVariants.{TooManyCards, ManyEquations, ManyNodes}
use Rattle.decks.specs.Answers.{Got, Refused, reply_to, said}
use Rattle.decks.specs.Readings.{walk, left_set, complete}
use Rattle.cards.specs.Card.{blank, columns, every, Continuing, kind_of, Continued, opened, card_in_form}
use Rattle.cards.specs.Statement.{gathered}
use Rattle.cards.specs.Grammar.{second_digit, read_number, sign_of, joint_of, past, past_joint, read_expr}
use Rattle.cards.specs.Typed.{Typed, rising_from, deck_of}
use Rattle.cards.specs.Read.{behind, whole_expr, whole_number, vars_statement, read_binary, init_statement, with_equation, equation_statement, prop_statement, end_statement, equation_or_prop, due_statement, statement_read, cards_end, read_cards}

worked_text : List ℕ
unfolding joined bytes
worked_text = joined (bytes "      VARS 4" ∷ bytes "      INIT 0000" ∷ bytes "      INIT 0011" ∷ bytes "      V0=~V0" ∷ bytes "      V1=(V0&V1)" ∷ bytes "      V1=V0" ∷ bytes "      V2=V3" ∷ bytes "      V3=~V2" ∷ bytes "      PROP (G~V1 & F V2)" ∷ bytes "      END" ∷ [])

worked_read : read_cards worked_text ≡ Got worked
unfolding worked_text joined bytes read_cards ended unended fronted stands walk card_in_form opened kind_of every columns gathered statement_read due_statement equation_or_prop end_statement prop_statement equation_statement with_equation init_statement read_binary vars_statement whole_number whole_expr behind read_expr past_joint past joint_of sign_of read_number second_digit cards_end complete left_set deck_of rising_from keep firsts others nodes written temporal total_nodes
worked_read = refl

-- An equal initial state is dropped; equations stand by rising variable, each variable's in the order typed; the first binary digit is V0's.
mixed_text : List ℕ
unfolding joined bytes
mixed_text = joined (bytes "      VARS 2" ∷ bytes "      INIT 10" ∷ bytes "      INIT 10" ∷ bytes "      INIT 01" ∷ bytes "      V1=V0" ∷ bytes "      V0=1" ∷ bytes "      V1=1" ∷ bytes "      PROP V0" ∷ bytes "      END" ∷ [])

mixed_read : read_cards mixed_text ≡ Got (record { vars = 3; inits = 1 ∷ 2 ∷ []; equations = record { left = 0; right = Const true } ∷ record { left = 1; right = Var 0 } ∷ record { left = 1; right = Const true } ∷ []; property = Var 0 })
unfolding mixed_text joined bytes read_cards ended unended fronted stands walk card_in_form opened kind_of every columns gathered statement_read due_statement equation_or_prop end_statement prop_statement equation_statement with_equation init_statement read_binary vars_statement whole_number whole_expr behind read_expr past_joint past joint_of sign_of read_number second_digit cards_end complete left_set deck_of rising_from keep firsts others nodes written temporal total_nodes
mixed_read = refl

-- ---- continuations

nineteenth_continues : opened 20 Continuing (Continued 18) ≡ Got (Continued 19)
unfolding opened
nineteenth_continues = refl

twentieth_refused : opened 21 Continuing (Continued 19) ≡ Refused (TooManyCards 21)
unfolding opened
twentieth_refused = refl

-- ---- texts of cards and the answers that they get

abbrev text : List String → List ℕ
text cards = joined (map bytes cards)

-- A number, the text at fault, and a place.
abbrev says : ℕ → ℕ → ℕ → Reply
says n t p = record { number = n; text = t; place = p }

abbrev Row : Type 0
Row = List ℕ × Reply

-- Every text gets its answer.
abbrev Answered : List Row → Type 0
Answered rows = map (λ (r : Row). reply_to (said (read_cards r.0))) rows ≡ map (λ (r : Row). r.1) rows

-- A smallest deck.
abbrev after_vars : List String
after_vars = "      INIT" ∷ "      PROP 0" ∷ "      END" ∷ []

abbrev smallest : List String
smallest = "      VARS 0" ∷ after_vars

-- A deck of one variable with this card for its equation.
abbrev equation : String → List String
equation card = "      VARS 1" ∷ "      INIT 0" ∷ card ∷ "      PROP 0" ∷ "      END" ∷ []

-- Faults of cards, and which cards open, continue and close.
form_rows : List Row
unfolding joined bytes
form_rows =
    -- The smallest deck; without the last byte 10; and with columns 73 to 80 numbered.
    (text smallest, says 0 0 0) ∷
    (text ("      VARS 0" ∷ "      INIT" ∷ "      PROP 0" ∷ []) ++ bytes "      END", says 0 0 0) ∷
    (text ("      VARS 0                                                            00000010" ∷ after_vars), says 0 0 0) ∷
    -- 2: a tab; also on a comment, also behind column 80.
    (text ("      VARS 0" ∷ "      INIT" ∷ []) ++ (9 ∷ 10 ∷ []), says 2 1 3) ∷
    (bytes "C" ++ (9 ∷ 10 ∷ []) ++ text smallest, says 2 1 1) ∷
    (replicate 80 blank ++ (9 ∷ 10 ∷ []) ++ text smallest, says 2 1 1) ∷
    -- 3: 81 columns, trailing blanks counted, also on a comment; 80 pass.
    (replicate 81 blank ++ (10 ∷ []) ++ text smallest, says 3 1 1) ∷
    (bytes "C" ++ replicate 80 blank ++ (10 ∷ []) ++ text smallest, says 3 1 1) ∷
    (replicate 80 blank ++ (10 ∷ []) ++ text smallest, says 0 0 0) ∷
    -- 4: columns 1 to 5 not blank; a lower-case `c` begins no comment.
    (text ("    VARS 0" ∷ after_vars), says 4 1 1) ∷
    (text ("c" ∷ smallest), says 4 1 1) ∷
    -- 5: a `2` alone in column 73, on a blank card too; `123` in columns 73 to 75. On a comment they are free.
    (text ("      VARS 0                                                            2" ∷ after_vars), says 5 1 1) ∷
    (text (smallest ++ ("                                                                        2" ∷ [])), says 5 1 5) ∷
    (text ("      VARS 0                                                            123" ∷ after_vars), says 5 1 1) ∷
    (text ("*                                                                       2" ∷ smallest), says 0 0 0) ∷
    -- 6: a continuation with no statement open: at the begin, also behind a comment; behind a blank card, be it numbered, and whatever comments stand beside it.
    (text ("     1VARS 0" ∷ after_vars), says 6 1 1) ∷
    (text ("C" ∷ "     1VARS 0" ∷ after_vars), says 6 1 2) ∷
    (text ("      VARS 0" ∷ "" ∷ "     1" ∷ after_vars), says 6 1 3) ∷
    (text ("      VARS 0" ∷ "                                                                        00000020" ∷ "     1" ∷ after_vars), says 6 1 3) ∷
    (text ("      VARS 0" ∷ "C" ∷ "" ∷ "*" ∷ "     1" ∷ after_vars), says 6 1 5) ∷
    -- A comment closes nothing, be it one or several, before the first continuation, between two or behind the last.
    (text ("      VARS 0" ∷ "C" ∷ "     1" ∷ after_vars), says 0 0 0) ∷
    (text ("      VA" ∷ "C" ∷ "* RS 0" ∷ "     1RS" ∷ "C" ∷ "     2 0" ∷ "*" ∷ after_vars), says 0 0 0) ∷
    -- 7: 19 continuations pass, the twentieth does not. A continuation with a blank field continues. Comments are not counted.
    (text ("      VA" ∷ replicate 18 "     1" ++ "     9RS 0" ∷ after_vars), says 0 0 0) ∷
    (text ("      VA" ∷ replicate 19 "     1" ++ "     9RS 0" ∷ after_vars), says 7 1 21) ∷
    (text ("      VA" ∷ "C" ∷ replicate 18 "     1" ++ "*" ∷ "     9RS 0" ∷ after_vars), says 0 0 0) ∷
    (text ("      VA" ∷ "C" ∷ replicate 19 "     1" ++ "*" ∷ "     9RS 0" ∷ after_vars), says 7 1 23) ∷
    -- `0` in column 6 opens a statement: 8 where nothing is on it, also behind END.
    (text ("     0VARS 0" ∷ after_vars), says 0 0 0) ∷
    (text ("      VARS 0" ∷ "     0" ∷ after_vars), says 8 1 2) ∷
    (text (smallest ++ ("     0" ∷ [])), says 8 1 5) ∷
    -- Comments and blank cards may stand behind END.
    (text (smallest ++ ("C END" ∷ "" ∷ "* END" ∷ [])), says 0 0 0) ∷
    -- The text ends before a statement that is due: empty, comments and blank cards alone, END missing.
    ([], says 8 1 0) ∷
    (text ("C" ∷ "" ∷ []), says 8 1 0) ∷
    (text ("      VARS 0" ∷ "      INIT" ∷ "      PROP 0" ∷ []), says 8 1 0) ∷
    []

form_answers : Answered form_rows
unfolding form_rows joined bytes read_cards ended unended fronted stands walk card_in_form opened kind_of every columns gathered statement_read due_statement equation_or_prop end_statement prop_statement equation_statement with_equation init_statement read_binary vars_statement whole_number whole_expr behind read_expr past_joint past joint_of sign_of read_number second_digit cards_end complete left_set deck_of rising_from keep firsts others nodes written temporal total_nodes count_trailing_zeros
form_answers = refl

-- Faults of statements, and what is missing.
statement_rows : List Row
unfolding joined bytes
statement_rows =
    -- 8: a statement that is not due, at its card; its inside is not read.
    (text ("      VARS 0" ∷ "      INIT" ∷ "      END" ∷ []), says 8 1 3) ∷
    (text ("      VARS 1" ∷ "      INIT 0" ∷ "      V0=0" ∷ "      INIT 0" ∷ "      PROP 0" ∷ "      END" ∷ []), says 8 1 4) ∷
    (text ("      PROP ~~~~~~~~~~~~~~~~~~~~~~~~~~~~~~~~~0" ∷ []), says 8 1 1) ∷
    (text (smallest ++ ("      END" ∷ [])), says 8 1 5) ∷
    -- Numbers have one or two digits and no leading zero; n goes to 64; blanks are gone before: `VARS 1 2` is `VARS 12`.
    (text ("      VARS 65" ∷ []), says 8 1 1) ∷
    (text ("      VARS 01" ∷ []), says 8 1 1) ∷
    (text ("      VARS 1 2" ∷ "      INIT 0000 0000 0000" ∷ "      PROP 0" ∷ "      END" ∷ []), says 15 1 0) ∷
    (text ("      VARS 2" ∷ "      INIT 00" ∷ "      V01=0" ∷ []), says 8 1 3) ∷
    (text ("      VARS 1" ∷ "      INIT 0" ∷ "      V100=0" ∷ []), says 8 1 3) ∷
    -- INIT with too few or too many digits, or with another digit.
    (text ("      VARS 1" ∷ "      INIT" ∷ []), says 8 1 2) ∷
    (text ("      VARS 1" ∷ "      INIT 00" ∷ []), says 8 1 2) ∷
    (text ("      VARS 1" ∷ "      INIT 2" ∷ []), says 8 1 2) ∷
    -- `(V1)` alone is wrong; the first card of the statement is named.
    (text (equation "      V0=(V0)"), says 8 1 3) ∷
    (text ("      VARS 1" ∷ "      INIT 0" ∷ "      V0=(V0" ∷ "     1&" ∷ "      PROP 0" ∷ "      END" ∷ []), says 8 1 3) ∷
    -- 8 and 11, whichever is met first: 32 `~` and then `0)`, `)` or nothing.
    (text (equation "      V0=~~~~~~~~~~~~~~~~~~~~~~~~~~~~~~~~0)"), says 11 1 3) ∷
    (text (equation "      V0=~~~~~~~~~~~~~~~~~~~~~~~~~~~~~~~~)"), says 8 1 3) ∷
    (text (equation "      V0=~~~~~~~~~~~~~~~~~~~~~~~~~~~~~~~~"), says 8 1 3) ∷
    (text (equation "      V0=~~~~~~~~~~~~~~~~~~~~~~~~~~~~~~~0"), says 0 0 0) ∷
    -- 9: outside the variables, on the left too, and before 10.
    (text (equation "      V0=V1"), says 9 1 3) ∷
    (text (equation "      V1=0"), says 9 1 3) ∷
    (text (equation "      V0=XV1"), says 9 1 3) ∷
    (text ("      VARS 1" ∷ "      INIT 0" ∷ "      V0=0" ∷ "      PROP V1" ∷ []), says 9 1 4) ∷
    (text ("      VARS 64" ∷ "      INIT 0000000000000000000000000000000000000000000000000000000000000" ∷ "     1000" ∷ "      PROP V64" ∷ "      END" ∷ []), says 9 1 4) ∷
    (text ("      VARS 64" ∷ "      INIT 0000000000000000000000000000000000000000000000000000000000000" ∷ "     1000" ∷ "      PROP V63" ∷ "      END" ∷ []), says 15 1 0) ∷
    -- 10: `X F G U W` in an equation; 8 goes before.
    (text (equation "      V0=X0"), says 10 1 3) ∷
    (text (equation "      V0=X)"), says 8 1 3) ∷
    (text (equation "      V0=(0U0)"), says 10 1 3) ∷
    -- 12: 64 INIT pass, equal ones counted; the next does not.
    (text ("      VARS 0" ∷ replicate 64 "      INIT" ++ ("      PROP 0" ∷ "      END" ∷ [])), says 0 0 0) ∷
    (text ("      VARS 0" ∷ replicate 65 "      INIT" ++ ("      PROP 0" ∷ "      END" ∷ [])), says 12 1 66) ∷
    -- 15: the lowest variable without an equation.
    (text ("      VARS 2" ∷ "      INIT 00" ∷ "      V1=0" ∷ "      PROP 0" ∷ "      END" ∷ []), says 15 1 0) ∷
    (text ("      VARS 2" ∷ "      INIT 00" ∷ "      V0=0" ∷ "      PROP 0" ∷ "      END" ∷ []), says 15 1 1) ∷
    []

statement_answers : Answered statement_rows
unfolding statement_rows joined bytes read_cards ended unended fronted stands walk card_in_form opened kind_of every columns gathered statement_read due_statement equation_or_prop end_statement prop_statement equation_statement with_equation init_statement read_binary vars_statement whole_number whole_expr behind read_expr past_joint past joint_of sign_of read_number second_digit cards_end complete left_set deck_of rising_from keep firsts others nodes written temporal total_nodes count_trailing_zeros
statement_answers = refl

-- ---- the sizes of equations and of the property

-- `V0=e`.
abbrev of_v0 : Expr → Equation
of_v0 e = record { left = 0; right = e }

-- V0 with these equations typed so far.
abbrev typed_with : List Equation → Typed
typed_with qs = record { count = 1; inits = 0 ∷ []; equations = qs; property = Const false }

-- An expression of 2 ^ k constants, all on the level k + 1: 2 ^ suc k - 1 nodes.
unfoldable tree : ℕ → Expr
tree zero = Const false
tree (suc k) = Two And (tree k) (tree k)

-- 13: 256 equations pass, the next does not.
equations_256 : said (with_equation 7 (typed_with (replicate 255 (of_v0 (Const false)))) (of_v0 (Const false))) ≡ Ok tt
unfolding with_equation nodes written temporal total_nodes
equations_256 = refl

equations_257 : with_equation 7 (typed_with (replicate 256 (of_v0 (Const false)))) (of_v0 (Const false)) ≡ Refused (ManyEquations 7)
unfolding with_equation nodes written temporal total_nodes
equations_257 = refl

-- 14: 2,048 nodes over all equations pass, one more does not.
nodes_2048 : said (with_equation 7 (typed_with (replicate 15 (of_v0 (One Not (tree 6))))) (of_v0 (One Not (tree 6)))) ≡ Ok tt
unfolding tree with_equation nodes written temporal total_nodes
nodes_2048 = refl

nodes_2049 : with_equation 7 (typed_with (replicate 16 (of_v0 (One Not (tree 6))))) (of_v0 (Const false)) ≡ Refused (ManyNodes 7)
unfolding tree with_equation nodes written temporal total_nodes
nodes_2049 = refl

-- 14: a property of 128 nodes passes, one of 129 does not.
property_128 : said (prop_statement 9 (spelling (One Not (tree 6))) (typed_with [])) ≡ Ok tt
unfolding tree prop_statement spelling whole_expr read_expr past_joint past joint_of sign_of nodes written
property_128 = refl

property_129 : prop_statement 9 (spelling (One Not (One Not (tree 6)))) (typed_with []) ≡ Refused (ManyNodes 9)
unfolding tree prop_statement spelling whole_expr read_expr past_joint past joint_of sign_of nodes written
property_129 = refl
