-- Cards read: from the bytes of a text to a deck, or to one refusal, in the order of RULES 7.3. The statements that are due are those of RULES 2.6.
use Rattle.std.specs.Prelude.{true, false, not, ◌||◌, List, [], ◌∷◌, ◌++◌, ℕ, zero, suc, ◌+◌, ◌*◌, ◌^◌, ltb, eqb, length}
use Rattle.std.proofs.Math.Option.{Option, none, some}
use Prim.Native.Char.{code as character}
use Rattle.lists.specs.Texts.{bytes}
use Rattle.sets.specs.Sets.{has, inside}
use Rattle.logic.specs.Expressions.{Expr, Const, nodes, written, temporal}
use Rattle.logic.specs.Decks.{Equation, Deck, base, total_nodes}
use Rattle.decks.specs.declared.Refusal.TheVariants.{TooLong, NotDue, Outside, Temporal, TooDeep, ManyInitials, ManyEquations, ManyNodes}
use Rattle.decks.specs.Answers.{Outcome, Got, Refused, refuse, afterwards}
use Rattle.decks.specs.Readings.{Whole, Wrong, Deep, walk, complete}
use Rattle.cards.specs.Card.{cards_of, in_form}
use Rattle.cards.specs.Statement.{Statement, inked, statements_of}
use Rattle.cards.specs.Grammar.{Number, NoNumber, digit_value, read_number, read_expr}
use Rattle.cards.specs.Typed.{Typed, first_vars, deck_of}

-- What stands behind the word, where the text begins with it.
unfoldable pub behind : List ℕ → List ℕ → Option (List ℕ)
behind [] cs = some cs
behind (w ∷ ws) [] = none
behind (w ∷ ws) (c ∷ cs) = elim (eqb w c) [ true ↦ behind ws cs | false ↦ none ]

-- Which statements are due.
pub data Due : Type 0 where
  DueVars DueInit DueAny DueEquation DueEnd DueNone : Due

-- What the statements so far came to. The property is there from `PROP` on.
pub record Sofar : Type 0 where
  pub due : Due
  pub typed : Typed

abbrev pub begun : Sofar
begun = record { due = DueVars; typed = record { count = 0; inits = []; equations = []; property = Const false } }

-- The expression that fills the rest of the statement of card n, or 8 or 11, whichever is met first.
unfoldable pub whole_expr : ℕ → List ℕ → Outcome Expr
whole_expr n cs = elim (read_expr base.levels cs) [ Whole e [] ↦ Got e | Whole e (r ∷ rs) ↦ Refused (NotDue n) | Wrong rs ↦ Refused (NotDue n) | Deep rs ↦ Refused (TooDeep n) ]

-- The number that fills the rest of the statement of card n, no larger than most, or 8.
unfoldable pub whole_number : ℕ → ℕ → List ℕ → Outcome ℕ
whole_number n most cs =
    elim (read_number cs) [
      | Number v [] ↦ refuse (ltb most v) (NotDue n) (Got v)
      | Number v (r ∷ rs) ↦ Refused (NotDue n)
      | NoNumber rs ↦ Refused (NotDue n)
    ]

-- `VARS` n, with n from 0 to 64.
unfoldable pub vars_statement : ℕ → List ℕ → Typed → Outcome Sofar
vars_statement n cs t =
    afterwards (whole_number n base.variables cs)
    (λ v. Got (record { due = DueInit; typed = record { count = v; inits = t.inits; equations = t.equations; property = t.property } }))

-- The state that exactly k binary digits give, the first for Vi, beside the s of those before.
unfoldable pub read_binary : ℕ → ℕ → ℕ → List ℕ → Option ℕ
read_binary i zero s [] = some s
read_binary i zero s (c ∷ cs) = none
read_binary i (suc k) s [] = none
read_binary i (suc k) s (c ∷ cs) =
    elim (eqb c (character "0") || eqb c (character "1")) [ true ↦ read_binary (suc i) k (s + digit_value c * 2 ^ i) cs | false ↦ none ]

-- `INIT` with n binary digits; then 12, equal ones counted.
unfoldable pub init_statement : ℕ → List ℕ → Typed → Outcome Sofar
init_statement n cs t =
    elim (read_binary 0 t.count 0 cs) [
      | none ↦ Refused (NotDue n)
      | some s ↦
          refuse (ltb base.initials (length t.inits + 1)) (ManyInitials n)
          (Got (record { due = DueAny; typed = record { count = t.count; inits = t.inits ++ (s ∷ []); equations = t.equations; property = t.property } }))
    ]

-- One more equation, after 9, 10, 13 and 14.
unfoldable pub with_equation : ℕ → Typed → Equation → Outcome Sofar
with_equation n t q =
    refuse (not (has (first_vars t.count) q.left)) (Outside 1 n)
    (refuse (not (inside (written q.right) (first_vars t.count))) (Outside 1 n)
    (refuse (temporal q.right) (Temporal n)
    (refuse (ltb base.equations (length t.equations + 1)) (ManyEquations n)
    (refuse (ltb base.equation_nodes (total_nodes t.equations + nodes q.right)) (ManyNodes n)
    (Got (record { due = DueEquation; typed = record { count = t.count; inits = t.inits; equations = t.equations ++ (q ∷ []); property = t.property } }))))))

-- `Vi=` and an expression; cs stands behind the `V`.
unfoldable pub equation_statement : ℕ → List ℕ → Typed → Outcome Sofar
equation_statement n cs t =
    elim (read_number cs) [
      | NoNumber rs ↦ Refused (NotDue n)
      | Number v rs ↦
          elim (behind (bytes "=") rs) [
            | none ↦ Refused (NotDue n)
            | some es ↦ afterwards (whole_expr n es) (λ e. with_equation n t (record { left = v; right = e }))
          ]
    ]

-- `PROP` and an expression; 9, then 14.
unfoldable pub prop_statement : ℕ → List ℕ → Typed → Outcome Sofar
prop_statement n cs t =
    afterwards (whole_expr n cs)
    (λ e.
    refuse (not (inside (written e) (first_vars t.count))) (Outside 1 n)
    (refuse (ltb base.property_nodes (nodes e)) (ManyNodes n)
    (Got (record { due = DueEnd; typed = record { count = t.count; inits = t.inits; equations = t.equations; property = e } }))))

-- `END`.
unfoldable pub end_statement : ℕ → List ℕ → Typed → Outcome Sofar
end_statement n [] t = Got (record { due = DueNone; typed = t })
end_statement n (c ∷ cs) t = Refused (NotDue n)

-- Where the statement begins with the word, what stands behind it decides; otherwise the rest does.
abbrev pub on_word : List ℕ → List ℕ → (List ℕ → Outcome Sofar) → Outcome Sofar → Outcome Sofar
on_word w cs f other = elim (behind w cs) [ some rs ↦ f rs | none ↦ other ]

-- An equation or the property.
unfoldable pub equation_or_prop : ℕ → List ℕ → Typed → Outcome Sofar
equation_or_prop n cs t =
    on_word (bytes "V") cs (λ rs. equation_statement n rs t) (on_word (bytes "PROP") cs (λ rs. prop_statement n rs t) (Refused (NotDue n)))

-- A statement of card n where another may be due: 8 where none of the forms due begins it.
unfoldable pub due_statement : Due → ℕ → List ℕ → Typed → Outcome Sofar
due_statement DueVars n cs t = on_word (bytes "VARS") cs (λ rs. vars_statement n rs t) (Refused (NotDue n))
due_statement DueInit n cs t = on_word (bytes "INIT") cs (λ rs. init_statement n rs t) (Refused (NotDue n))
due_statement DueAny n cs t = on_word (bytes "INIT") cs (λ rs. init_statement n rs t) (equation_or_prop n cs t)
due_statement DueEquation n cs t = equation_or_prop n cs t
due_statement DueEnd n cs t = on_word (bytes "END") cs (λ rs. end_statement n rs t) (Refused (NotDue n))
due_statement DueNone n cs t = Refused (NotDue n)

-- The statements so far, and one more.
unfoldable pub statement_read : ℕ → Statement → Sofar → Outcome Sofar
statement_read i s so = due_statement so.due s.card (inked s.field) so.typed

-- Behind the last statement: 8 at place 0 for a missing one; then 15.
unfoldable pub cards_end : Sofar → Outcome Deck
cards_end s =
    elim s.due [
      | DueVars ↦ Refused (NotDue 0)
      | DueInit ↦ Refused (NotDue 0)
      | DueAny ↦ Refused (NotDue 0)
      | DueEquation ↦ Refused (NotDue 0)
      | DueEnd ↦ Refused (NotDue 0)
      | DueNone ↦ complete (deck_of s.typed)
    ]

-- A text of cards read as a deck: 1; every card; every statement; what is missing.
unfoldable pub read_cards : List ℕ → Outcome Deck
read_cards text =
    refuse (ltb base.text (length text)) (TooLong 1)
    (afterwards (in_form (cards_of text)) (λ o. afterwards (walk statement_read 1 (statements_of (cards_of text)) begun) cards_end))
