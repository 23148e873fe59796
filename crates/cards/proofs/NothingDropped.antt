-- Nothing dropped: a text of cards is accepted exactly where its characters are the spelling of what was typed, and the deck is what was typed.
use mathlib.Core.Path.{◌≡◌, refl, sym, ap, ◌∙◌, subst}
use mathlib.Core.Logic.{◌↔◌}
use mathlib.Core.List.{List, map}
use Prim.Native.Nat.{ℕ, ◌<◌, ◌≤◌}
use native.Mathlib.Omega.{arith}
use borrow.Author.Tests.{le-ltb, ltb-false}
use lib.Dec.{ltb}
use lib.ListN.{length}
use Rattle.lists.specs.Lists.{Each, Some, keep}
use Rattle.logic.specs.Decks.{Equation, Deck, Accepted, base}
use Rattle.decks.specs.declared.Refusal.TheVariants.{NotDue}
use Rattle.decks.specs.Answers.{Got, Refused}
use Rattle.decks.specs.Readings.{walk, complete}
use Rattle.cards.specs.Card.{cards_of, Open, Shut, in_form}
use Rattle.cards.specs.Statement.{Statement, inked, statements_of}
use Rattle.cards.specs.Typed.{Typed, spelt, deck_of, Fits}
use Rattle.cards.specs.Read.{Due, DueVars, DueInit, DueAny, DueEquation, DueEnd, DueNone, Sofar, begun, statement_read, cards_end, read_cards}
use Rattle.cards.specs.Columns.{CardsAre, deck_text, together, Formed}
use Rattle.decks.proofs.Outcomes.{Given, got_given, given_got, refuse_given, afterwards_given, got_eq}
use Rattle.decks.proofs.Complete.{complete-all, all-complete}
use Rattle.cards.proofs.TypedLaws.{of_variable, rising_own, typed-all_have, all_have_typed, fits-accepted}
use Rattle.cards.proofs.StatementLaws.{text_of, sofar, Stated, walk-spelt, spelt-walk}
use Rattle.cards.proofs.ColumnLaws.{cards_are}
use Rattle.cards.proofs.FormLaws.{cards_formed, statements-columns}

-- The statements of the text, without their blanks, are the spelling of t; t keeps the limits and is complete; d is the deck that t gives.
abbrev pub Says : List ℕ → Deck → Type 0
Says text d =
    (length text ≤ base.text)
    × ((o : Open) × (in_form (cards_of text) ≡ Got o))
    × ((t : Typed) × (map (λ (s : Statement). inked s.field) (statements_of (cards_of text)) ≡ spelt t) × Fits base t × (d ≡ deck_of t))

stated-fits : (t : Typed) → Stated t → ((v : ℕ) → v < t.count → Some (λ (q : Equation). q.left ≡ v) t.equations) → Fits base t
stated-fits t s all = record {
  vars-most = s.begins.vars-most;
  inits-some = s.inits-some;
  inits-most = s.begins.inits-most;
  inits_in = s.begins.inits_in;
  equations-most = s.begins.equations-most;
  equations-nodes = s.begins.equations-nodes;
  equations-allowed = s.begins.equations-allowed;
  equations-all = all;
  property_in = s.property_in;
  property-nodes = s.property-nodes;
  property-levels = s.property-levels;
}

-- Behind the last statement.
end_says : (text : List ℕ) (o : Open) (so : Sofar) → length text ≤ base.text → in_form (cards_of text) ≡ Got o → walk statement_read 1 (statements_of (cards_of text)) begun ≡ Got so → Given (Says text) (cards_end so)
unfolding cards_end
end_says text o so short form e = go so.due refl
  where
    done : so.due ≡ DueNone → (d : Deck) → complete (deck_of so.typed) ≡ Got d → Says text d
    done u d q =
        let w = walk-spelt 1 (statements_of (cards_of text)) so e u in
        let c = all-complete (deck_of so.typed) d q in
        (short, (o, form), (so.typed, w.0, stated-fits so.typed w.1 (all_have_typed so.typed c.1), sym c.0))

    go : (u : Due) → so.due ≡ u → Given (Says text) (elim u [
      | DueVars ↦ Refused (NotDue 0)
      | DueInit ↦ Refused (NotDue 0)
      | DueAny ↦ Refused (NotDue 0)
      | DueEquation ↦ Refused (NotDue 0)
      | DueEnd ↦ Refused (NotDue 0)
      | DueNone ↦ complete (deck_of so.typed)
    ])
    go DueVars p = tt
    go DueInit p = tt
    go DueAny p = tt
    go DueEquation p = tt
    go DueEnd p = tt
    go DueNone p = given_got (Says text) (complete (deck_of so.typed)) (done p)

read_says : (text : List ℕ) → Given (Says text) (read_cards text)
unfolding read_cards
read_says text =
    refuse_given (Says text) (ltb base.text (length text)) _ _ (λ short.
    afterwards_given (Says text) (in_form (cards_of text)) _ (λ o form.
    afterwards_given (Says text) (walk statement_read 1 (statements_of (cards_of text)) begun) cards_end (λ so e. end_says text o so (ltb-false base.text (length text) short) form e)))

says_read : (text : List ℕ) (d : Deck) → Says text d → read_cards text ≡ Got d
unfolding read_cards cards_end
says_read text d (short, (o, form), (t, texts, fits, is)) =
    simp (le-ltb base.text (length text) short, form, spelt-walk t fits 1 (statements_of (cards_of text)) texts)
    (complete-all (deck_of t) (typed-all_have t fits.equations-all) ∙ ap Got (sym is))

-- A text of cards is accepted as the deck d exactly when it is no longer than allowed, every card is in form, and the statements, without their blanks, are the spelling of something typed that keeps the limits and gives d.
pub nothing_dropped : (text : List ℕ) (d : Deck)
    → (read_cards text ≡ Got d)
    ↔ ((length text ≤ base.text)
    × ((o : Open) × (in_form (cards_of text) ≡ Got o))
    × ((t : Typed) × (map (λ (s : Statement). inked s.field) (statements_of (cards_of text)) ≡ spelt t) × Fits base t × (d ≡ deck_of t)))
nothing_dropped text d = (got_given (Says text) (read_cards text) d (read_says text), says_read text d)

-- What was typed is one: two spellings of the same statements, both within the limits, are of the same thing.
pub typed_once : (ss : List Statement) (t u : Typed) → Fits base t → Fits base u → map (λ (s : Statement). inked s.field) ss ≡ spelt t → map (λ (s : Statement). inked s.field) ss ≡ spelt u → t ≡ u
typed_once ss t u f g p q = let e : sofar DueNone t ≡ sofar DueNone u = got_eq (sym (spelt-walk t f 1 ss p) ∙ spelt-walk u g 1 ss q) in ap (λ (s : Sofar). s.typed) e

-- Of an accepted text, card by card and by column numbers alone: the characters of columns 7 to 72 that are no blanks, on all cards that are no comments, are the spelling of what was typed, one statement behind the other; and every card holds in its other columns only what RULES 2.2 allows.
pub nothing_dropped_by_columns : (text : List ℕ) (cards : List (List ℕ)) (d : Deck)
    → CardsAre text cards
    → read_cards text ≡ Got d
    → Each Formed cards × ((t : Typed) × (deck_text cards ≡ together (spelt t)) × Fits base t × (d ≡ deck_of t))
nothing_dropped_by_columns text cards d are e =
    let (short, (o, form), (t, texts, fits, is)) = (nothing_dropped text d).0 e in
    let cut = cards_are text cards are in
    let form : in_form cards ≡ Got o = ap in_form (sym cut) ∙ form in
    (cards_formed 1 cards Shut o form, (t, sym (statements-columns cards o form) ∙ ap together (ap (λ (cs : List (List ℕ)). map text_of (statements_of cs)) (sym cut) ∙ texts), fits, is))

-- What is read from cards is an accepted deck.
pub cards_accepted : (text : List ℕ) (d : Deck) → read_cards text ≡ Got d → Accepted base d
cards_accepted text d e = let s = (nothing_dropped text d).0 e in subst (Accepted base) (sym s.2.3) (fits-accepted base s.2.0 s.2.2)

-- The deck holds every variable's equations as they were typed, in the order typed.
pub equations_as_typed : (t : Typed) (v : ℕ) → v < t.count → keep (of_variable v) (deck_of t).equations ≡ keep (of_variable v) t.equations
unfolding deck_of
equations_as_typed t v h = rising_own v 0 t.count t.equations (omega arith) (omega arith)
