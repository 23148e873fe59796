-- Laws of the reader of cards: what the second pass returns of the statements, and the reader of both passes.
use mathlib.Core.Path.{◌≡◌, refl, sym, ap, ◌∙◌, subst}
use mathlib.Core.List.{List}
use Prim.Native.Nat.{ℕ, ◌<◌, ◌≤◌}
use lib.ListN.{length}
use borrow.Author.Tests.{lt-ltb, le-ltb}
use Rattle.std.specs.Prelude.{Result, Ok, Err}
use Rattle.lists.specs.Lists.{Each}
use Rattle.logic.specs.Decks.{Equation, Deck, base}
use Rattle.decks.specs.declared.Refusal.{Refusal}
use Rattle.decks.specs.declared.Refusal.TheVariants.{TooLong, NotDue}
use Rattle.decks.specs.declared.Deck.{Deck as Stored}
use Rattle.decks.specs.declared.Equations.{Equations}
use Rattle.decks.specs.Answers.{said, Outcome, Refused, afterwards}
use Rattle.decks.specs.Readings.{complete}
use Rattle.decks.specs.Lent.{Hold, ReadInto}
use Rattle.cards.specs.Card.{cards_of, in_form}
use Rattle.cards.specs.Statement.{statements_of}
use Rattle.cards.specs.Typed.{rising_from, deck_of}
use Rattle.cards.specs.Read.{Due, DueVars, DueInit, DueAny, DueEquation, DueEnd, DueNone, Sofar, cards_end, read_cards}
use Rattle.cards.proofs.TypedLaws.{allowed_lefts}
use Rattle.cards.proofs.StatementLaws.{walk-spelt}
use Rattle.firstpass.proofs.Laws.{passed_fine, passed_refused}
use Rattle.sorting.specs.Sorting.{Sortable}
use Rattle.cardlines.specs.contracts.Due.{the_type}
use Rattle.cardlines.specs.declared.Due.{Due as DueNow}
use Rattle.cardlines.specs.declared.Due.TheVariants.{Vars, Init, Any, Equation as AnEquation, End, Nothing}
use denote.Enum.Bare.{sameb}
use mathlib.Core.Bool.{true, false, not}
use Rattle.cardlines.specs.declared.Held.{Held}
use Rattle.cardlines.specs.Held.{due_is, PropertyHeld, Came}
use Rattle.cardlines.proofs.Laws.{due_back, due_known}
use Rattle.cardends.specs.Sorted.{Sorted}
use Rattle.cardreading.specs.Finished.{Ready}
use Rattle.cardreading.proofs.WalkLaws.{statements_read}

-- A refusal, whatever the deck holds.
refused_into : (o : Outcome Deck) (a : Refusal) (out : Stored) → o ≡ Refused a → ReadInto o (Err a) out
refused_into o a out e = subst (λ (p : Outcome Deck). ReadInto p (Err a) out) (sym e) (record { said_is = refl; stands_in = tt })

-- ---- behind the last statement

-- A statement that is due and missing.
end_missing : (s : Sofar) (u : Due) → s.due ≡ u → (u ≡ DueNone → ⊥) → cards_end s ≡ Refused (NotDue 0)
unfolding cards_end
end_missing s DueVars e h = simp (e, cards_end)
end_missing s DueInit e h = simp (e, cards_end)
end_missing s DueAny e h = simp (e, cards_end)
end_missing s DueEquation e h = simp (e, cards_end)
end_missing s DueEnd e h = simp (e, cards_end)
end_missing s DueNone e h = absurd (h refl)

end_complete : (s : Sofar) → s.due ≡ DueNone → cards_end s ≡ complete (deck_of s.typed)
unfolding cards_end
end_complete s e = simp (e, cards_end)

-- Whether `END` was read, as the code asks.
ended_now : (d : DueNow) → false ≡ not (sameb the_type d Nothing) → d ≡ Nothing
ended_now Vars e = absurd cc
ended_now Init e = absurd cc
ended_now Any e = absurd cc
ended_now AnEquation e = absurd cc
ended_now End e = absurd cc
ended_now Nothing e = refl

not_ended : (d : DueNow) → true ≡ not (sameb the_type d Nothing) → d ≡ Nothing → ⊥
not_ended d e q = let z : true ≡ false = e ∙ ap (λ (x : DueNow). not (sameb the_type x Nothing)) q in cc

-- ---- what is ready can be sorted

module _ (s : Sofar) (held : Held) (deck : Stored) (r : Ready s held deck) where
  sortable : Sortable s.typed.equations held.count deck.equations
  sortable =
      record {
        holds = r.holds.equations_are;
        lefts_below = subst (λ (n : ℕ). Each (λ (q : Equation). q.left < n) s.typed.equations) (sym (ap (λ (x : Held). x.count) r.holds.held_is)) (allowed_lefts base s.typed r.stated.begins.equations-allowed);
        few = r.stated.begins.equations-most;
        small = r.stated.begins.equations-nodes;
      }

  -- Whichever equations the deck held, these hold them by rising variable.
  sorted : (e : Equations) → ((qs : List Equation) → Sortable qs held.count deck.equations → Hold (rising_from 0 held.count qs) e) → Sorted s held (record deck { equations = e })
  unfolding deck_of
  sorted e f =
      record {
        held_is = r.holds.held_is;
        inits_are = r.holds.inits_are;
        initials_are = r.holds.initials_are;
        equations_are = subst (λ (n : ℕ). Hold (rising_from 0 n s.typed.equations) e) (ap (λ (x : Held). x.count) r.holds.held_is) (f s.typed.equations sortable);
        property_is = subst (λ (u : Due). PropertyHeld u s.typed.property deck.size deck.property) r.ended r.holds.property_is;
        stated = r.stated;
      }

-- ---- the second pass

abbrev pub second : List ℕ → Outcome Deck
second text = afterwards (statements_read text) cards_end

module _ (text : List ℕ) (held : Held) (deck : Stored) (c : Came (statements_read text) (Ok held) deck) where
  due_same : (d : Due) → held.due ≡ due_is d → c.0.due ≡ d
  due_same d e = sym (due_known c.0.due) ∙ ap due_back (ap (λ (x : Held). x.due) (sym c.2.held_is) ∙ e) ∙ due_known d

  pub statement_missing : (out : Stored) → true ≡ not (sameb the_type held.due Nothing) → ReadInto (second text) (Err (NotDue 0)) out
  statement_missing out d =
      refused_into (second text) (NotDue 0) out
      (ap (λ (o : Outcome Sofar). afterwards o cards_end) c.1 ∙ end_missing c.0 c.0.due refl (λ n. not_ended held.due d (ap (λ (x : Held). x.due) c.2.held_is ∙ ap due_is n)))

  module _ (d : false ≡ not (sameb the_type held.due Nothing)) where
    -- `END` was read.
    ready : Ready c.0 held deck
    ready =
        let none : c.0.due ≡ DueNone = due_same DueNone (ended_now held.due d) in
        record { holds = c.2; ended = none; stated = (walk-spelt 1 (statements_of (cards_of text)) c.0 c.1 none).1 }

    pub can_sort : (qs : List Equation) × Sortable qs held.count deck.equations
    can_sort = (c.0.typed.equations, sortable c.0 held deck ready)

    module _ (e : Equations) (f : (qs : List Equation) → Sortable qs held.count deck.equations → Hold (rising_from 0 held.count qs) e) where
      pub ready_sorted : (s : Sofar) × Sorted s held (record deck { equations = e })
      ready_sorted = (c.0, sorted c.0 held deck ready e f)

      pub deck_finished : (r : Result (Unit {0}) Refusal) (out : Stored) → ((s : Sofar) → Sorted s held (record deck { equations = e }) → ReadInto (complete (deck_of s.typed)) r out) → ReadInto (second text) r out
      deck_finished r out g =
          subst (λ (o : Outcome Deck). ReadInto o r out) (sym (ap (λ (o : Outcome Sofar). afterwards o cards_end) c.1 ∙ end_complete c.0 ready.ended)) (g c.0 (sorted c.0 held deck ready e f))

-- ---- both passes

module _ (text : List ℕ) where
  pub too_long : (out : Stored) → 64800 < length text → ReadInto (read_cards text) (Err (TooLong 1)) out
  unfolding read_cards
  too_long out h = refused_into (read_cards text) (TooLong 1) out (simp (lt-ltb 64800 (length text) h, read_cards))

  module _ (h : length text ≤ 64800) where
    pub not_in_form : (a : Refusal) (out : Stored) → Err a ≡ said (in_form (cards_of text)) → ReadInto (read_cards text) (Err a) out
    unfolding read_cards
    not_in_form a out e =
        let w : in_form (cards_of text) ≡ Refused a = passed_refused (cards_of text) a e in
        refused_into (read_cards text) a out (simp (le-ltb 64800 (length text) h, w, read_cards))

    pub in_form_read : (r : Result (Unit {0}) Refusal) (out : Stored) → Ok tt ≡ said (in_form (cards_of text)) → ReadInto (second text) r out → ReadInto (read_cards text) r out
    unfolding read_cards
    in_form_read r out e q =
        let (o, w) = passed_fine (cards_of text) e in
        let z : read_cards text ≡ second text = simp (le-ltb 64800 (length text) h, w, read_cards) in
        subst (λ (p : Outcome Deck). ReadInto p r out) (sym z) q
