-- A text of cards is refused exactly where one of its conditions is the first that holds.
use mathlib.Core.Path.{◌≡◌, refl, sym, ap, ◌∙◌, subst}
use mathlib.Core.Logic.{◌↔◌}
use mathlib.Core.List.{List, [], ◌∷◌}
use Prim.Native.Nat.{ℕ, ◌^◌, ◌<◌, ◌≤◌}
use native.Mathlib.Omega.{arith}
use borrow.Author.Tests.{eq-eqb, ltb-true, ltb-false}
use lib.Dec.{ltb}
use lib.ListN.{length}
use Rattle.lists.specs.Lists.{keep}
use Rattle.lists.proofs.Laws.{some_find, find_some, among_keep, keep_among}
use Rattle.logic.specs.Decks.{Equation, Deck, base}
use Rattle.decks.specs.declared.Refusal.TheVariants.{NotDue, NoEquation}
use Rattle.decks.specs.Answers.{Outcome, Refused}
use Rattle.decks.specs.Readings.{walk, complete}
use Rattle.cards.specs.Card.{cards_of, in_form}
use Rattle.cards.specs.Statement.{Statement, inked, statements_of}
use Rattle.cards.specs.Typed.{Typed, deck_of}
use Rattle.cards.specs.Read.{Due, DueVars, DueInit, DueAny, DueEquation, DueEnd, DueNone, Sofar, begun, statement_read, cards_end, read_cards}
use Rattle.cards.proofs.TypedLaws.{of_variable, member_first-vars, first-vars-most}
use Rattle.cards.proofs.NothingDropped.{equations_as_typed}
use Rattle.decks.proofs.Complete.{HasEquation}
use Rattle.refusals.specs.Order.{Try, backwards, rising}
use Rattle.refusals.specs.StatementFaults.{Item, Count, Initial, Equals, Property, Ending, SpellsItem, added, Typing}
use Rattle.refusals.specs.CardsOrder.{Missing, Lacking, cards_order, Gives}
use Rattle.refusals.proofs.OrderLaws.{Meets, meets_here, meets_past, meets_test, meets_keeps, meets_afterwards, alike_meets, rising_alike}
use Rattle.refusals.proofs.CardsInForm.{Stands, form_meets}
use Rattle.refusals.proofs.Statements.{member_below, typing_unique, behind_is, statements-meet}
use Rattle.refusals.proofs.Lacking.{Without, complete_meets}

-- ---- the equations of the deck and those typed

has_own : (v : ℕ) (qs : List Equation) → HasEquation qs v → HasEquation (keep (of_variable v) qs) v
has_own v qs h =
    let (q, m, e) = some_find (λ (q : Equation). q.left ≡ v) qs h in
    find_some (λ (q : Equation). q.left ≡ v) (keep (of_variable v) qs) q (among_keep (of_variable v) q qs (eq-eqb q.left v e) m) e

own_has : (v : ℕ) (qs : List Equation) → HasEquation (keep (of_variable v) qs) v → HasEquation qs v
own_has v qs h =
    let (q, m, e) = some_find (λ (q : Equation). q.left ≡ v) (keep (of_variable v) qs) h in
    find_some (λ (q : Equation). q.left ≡ v) qs q (keep_among (of_variable v) q qs m).0 e

module _ (t : Typed) (v : ℕ) (l : v < t.count) where
  deck-typed : HasEquation (deck_of t).equations v → HasEquation t.equations v
  deck-typed h = own_has v t.equations (subst (λ (qs : List Equation). HasEquation qs v) (equations_as_typed t v l) (has_own v (deck_of t).equations h))

  typed-deck : HasEquation t.equations v → HasEquation (deck_of t).equations v
  typed-deck h = own_has v (deck_of t).equations (subst (λ (qs : List Equation). HasEquation qs v) (sym (equations_as_typed t v l)) (has_own v t.equations h))

-- The variables of the deck without an equation are those typed without one.
without-typed : (t : Typed) (v : ℕ) → Without (deck_of t) v ↔ ((v < t.count) × (HasEquation t.equations v → ⊥))
unfolding deck_of
without-typed t v = (
  λ (m, n). let l = member_first-vars t.count v m in (l, λ h. n (typed-deck t v l h)),
  λ (l, n). (member_below t.count v l, λ h. n (deck-typed t v l h)),
)

-- No more variables are declared than there may be.
typing-count : (back : List Statement) (so : Sofar) → Typing back so → so.typed.count ≤ base.variables
typing-count [] so e = subst (λ (s : Sofar). s.typed.count ≤ base.variables) (sym e) (omega arith)
typing-count (s ∷ back) so (was, i, t, (p, y), n, e) = subst (λ (s : Sofar). s.typed.count ≤ base.variables) (sym e) (go i y (typing-count back was t))
  where
    go : (i : Item) → SpellsItem was.typed.count (inked s.field) i → was.typed.count ≤ base.variables → (added was.typed i).typed.count ≤ base.variables
    go (Count v) (e, h) l = h
    go (Initial x) y l = l
    go (Equals q) y l = l
    go (Property x) y l = l
    go Ending y l = l

-- ---- behind the last statement

module _ (back : List Statement) (so : Sofar) (t : Typing back so) where
  lacking_is : (v : ℕ) → Without (deck_of so.typed) v ↔ Lacking back v
  lacking_is v = (
    λ h. (so, t, (without-typed so.typed v).0 h),
    λ h. (without-typed so.typed v).1 (behind_is back so t (λ (s : Sofar). (v < s.typed.count) × (HasEquation s.typed.equations v → ⊥)) h),
  )

  end_meets : Meets (Try (Missing back) (NotDue 0) (rising (Lacking back) NoEquation base.variables 0)) (λ d. d ≡ deck_of so.typed) (cards_end so)
  unfolding cards_end deck_of
  end_meets = go so.due refl
    where
      M : Outcome Deck → Type 0
      M = Meets (Try (Missing back) (NotDue 0) (rising (Lacking back) NoEquation base.variables 0)) (λ d. d ≡ deck_of so.typed)

      early : (so.due ≡ DueNone → ⊥) → M (Refused (NotDue 0))
      early n = meets_here _ _ _ _ (so, t, n)

      small : (deck_of so.typed).vars < 2 ^ base.variables
      small = first-vars-most so.typed.count base.variables (typing-count back so t)

      go : (u : Due) → so.due ≡ u → M (elim u [
        | DueVars ↦ Refused (NotDue 0)
        | DueInit ↦ Refused (NotDue 0)
        | DueAny ↦ Refused (NotDue 0)
        | DueEquation ↦ Refused (NotDue 0)
        | DueEnd ↦ Refused (NotDue 0)
        | DueNone ↦ complete (deck_of so.typed)
      ])
      go DueVars e = early (λ f. let z : DueVars ≡ DueNone = sym e ∙ f in let z : ◌≡◌ {A = ℕ} 0 1 = cc in omega arith)
      go DueInit e = early (λ f. let z : DueInit ≡ DueNone = sym e ∙ f in let z : ◌≡◌ {A = ℕ} 0 1 = cc in omega arith)
      go DueAny e = early (λ f. let z : DueAny ≡ DueNone = sym e ∙ f in let z : ◌≡◌ {A = ℕ} 0 1 = cc in omega arith)
      go DueEquation e = early (λ f. let z : DueEquation ≡ DueNone = sym e ∙ f in let z : ◌≡◌ {A = ℕ} 0 1 = cc in omega arith)
      go DueEnd e = early (λ f. let z : DueEnd ≡ DueNone = sym e ∙ f in let z : ◌≡◌ {A = ℕ} 0 1 = cc in omega arith)
      go DueNone e =
          meets_past _ _ _ _ _ (λ h. behind_is back so t (λ (s : Sofar). s.due ≡ DueNone → ⊥) h e)
          (alike_meets _ _ _ _ (rising_alike (Without (deck_of so.typed)) (Lacking back) NoEquation base.variables 0 lacking_is) (complete_meets (deck_of so.typed) small))

-- ---- a text of cards

pub cards_meet : (text : List ℕ) → Meets (cards_order text) (Gives text) (read_cards text)
unfolding read_cards
cards_meet text =
    meets_test _ _ _ _ (ltb base.text (length text)) _ (ltb-true base.text (length text)) (λ e h. omega (arith, ltb-false base.text (length text) e)) (λ e.
    meets_afterwards _ _ (Stands (backwards [] (cards_of text))) (Gives text) (in_form (cards_of text)) _ (form_meets (cards_of text)) (λ o f p.
    meets_afterwards _ _ (Typing (backwards [] (statements_of (cards_of text)))) (Gives text) (walk statement_read 1 (statements_of (cards_of text)) begun) cards_end (statements-meet (statements_of (cards_of text))) (λ so g t.
    meets_keeps _ _ (Gives text) (cards_end so) (end_meets (backwards [] (statements_of (cards_of text))) so t) (λ d n e. (so, t, e)))))

pub gives_unique : (text : List ℕ) (d e : Deck) → Gives text d → Gives text e → d ≡ e
gives_unique text d e (so, t, p) (to, u, q) = p ∙ ap (λ (s : Sofar). deck_of s.typed) (typing_unique (backwards [] (statements_of (cards_of text))) so to t u) ∙ sym q
